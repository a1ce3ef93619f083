use Rattle.std.proofs.Common.{◌≡◌, ◌∙◌, [], ◌++◌, Err, ap, inl, inr, refl}
use Rattle.std.specs.Prelude.{IsTrue}
use Rattle.std.proofs.lemmas.Grind.{flat_map-append}
use Rattle.fdr_io.specs.Output.{Emits, EmitsPart}
use Rattle.fdr_io.proofs.OutputSteps.{Emits-nil, written_at_end, part_at_end, whole_is_part}
use Rattle.fdr_recover.specs.Blocks.{Block}
use Rattle.fdr_recover.specs.Images.{recovered_run}
use Rattle.fdr_recover.specs.Payloads.{payloads_of}
use Rattle.fdr_top.proofs.Recovery.{part_of_front}
use Rattle.fdr_top.proofs.Results.{disk_not_done, disk_not_taker, disk_not_write, done_not_disk, done_not_write, ok_not_err, rose_after, taker_not_disk}
use Rattle.fdr_top.proofs.Results.{write_not_disk, write_not_done}
use Rattle.fdr_top.proofs.recovering.write_run.Given.{Over}
use Rattle.fdr_top.proofs.recovering.write_run.Goals.{In-Ok}
use Rattle.fdr_top.proofs.recovering.write_run.Goals as goal

pub walk_blocks-requires-clause-ready : goal.walk_blocks-requires-clause-ready
walk_blocks-requires-clause-ready g c = Emits-nil (g.O.Sink.written c.args.out.now) c.args.buffer.now

-- what went out once all was added
emits : (g : Over) (c : In-Ok g) → IsTrue g.D.Deck.tells.bytes
    → Emits (g.O.Sink.written c.args.out.now) (g.O.Sink.written c.walk_blocks.new.out) [] c.walk_blocks.new.taker
    (payloads_of (recovered_run c.args.h.now (g.D.Deck.state c.args.deck.now).held))
emits g c told =
    let all = c.in-Ok.ensures.all in
    rw (c.requires.empty, all.3 told) at all.1

-- where the disk fails
pub returns-in-Err-Disk : goal.returns-in-Err-Disk
returns-in-Err-Disk g c =
    let is = ap Err c.in-Err-Disk.field-0-is in
    record {
      all = λ e. absurd (disk_not_done e);
      part = λ told.
          let front = c.in-Err-Disk.ensures.front is in
          let more = front.2 told in
          let run = recovered_run c.args.h.now (g.D.Deck.state c.args.deck.now).held in
          let emits : Emits (g.O.Sink.written c.args.out.now) (g.O.Sink.written c.walk_blocks.new.out) [] c.walk_blocks.new.taker (payloads_of front.0) =
          rw c.requires.empty at front.1 in
          let all : payloads_of run ≡ payloads_of front.0 ++ payloads_of more.0 =
          ap payloads_of more.1 ∙ flat_map-append (λ (b : Block). b.payload) front.0 more.0 in
          let part : EmitsPart (g.O.Sink.written c.args.out.now) (g.O.Sink.written c.walk_blocks.new.out) [] (payloads_of run) =
          rw all (part_of_front _ _ _ (payloads_of front.0) (payloads_of more.0) emits) in
          (part.count, part.written);
      answer = inr (inr refl);
      disk_fault = λ e. c.in-Err-Disk.ensures.disk_fault is;
      write_fault = λ e. absurd (disk_not_write e);
      disk_unfailed = λ other. absurd (other refl);
      sink_unfailed = λ other. c.in-Err-Disk.ensures.write_unfailed (disk_not_taker _ c.in-Err-Disk.field-0-is);
      looks = c.walk_blocks.ensures.looks;
    }

-- where the sink fails in between
pub returns-in-Err-Taker : goal.returns-in-Err-Taker
returns-in-Err-Taker g c =
    let is = ap Err c.in-Err-Taker.field-0-is in
    record {
      all = λ e. absurd (write_not_done e);
      part = λ told. let part = rw c.requires.empty at (c.in-Err-Taker.ensures.part is told) in (part.count, part.written);
      answer = inr (inl refl);
      disk_fault = λ e. absurd (write_not_disk e);
      write_fault = λ e. c.in-Err-Taker.ensures.write_fault is;
      disk_unfailed = λ other. c.in-Err-Taker.ensures.disk_unfailed (taker_not_disk _ c.in-Err-Taker.field-0-is);
      sink_unfailed = λ other. absurd (other refl);
      looks = c.walk_blocks.ensures.looks;
    }

-- where all was written
pub returns-in-Ok-finish : goal.returns-in-Ok-finish
returns-in-Ok-finish g c =
    let all = λ (told : IsTrue g.D.Deck.tells.bytes).
    written_at_end _ _ _ _ _ (emits g (goal.at.returns-in-Ok-finish g c).In-Ok told) c.in-Ok-finish.ensures.all in
    record {
      all = λ done. all;
      part = λ told. whole_is_part _ _ _ (all told);
      answer = inl refl;
      disk_fault = λ e. absurd (done_not_disk e);
      write_fault = λ e. absurd (done_not_write e);
      disk_unfailed = λ other. c.in-Ok.ensures.disk_unfailed (ok_not_err _ _);
      sink_unfailed = λ other. c.in-Ok-finish.ensures.no_fault ∙ c.in-Ok.ensures.write_unfailed (ok_not_err _ _);
      looks = c.walk_blocks.ensures.looks;
    }

-- where the last of it wasn't
pub returns-in-Err : goal.returns-in-Err
returns-in-Err g c = record {
  all = λ e. absurd (write_not_done e);
  part = λ told. part_at_end _ _ _ _ _ c.in-Err.ensures.part.0 (emits g (goal.at.returns-in-Err g c).In-Ok told) c.in-Err.ensures.part.1;
  answer = inr (inl refl);
  disk_fault = λ e. absurd (write_not_disk e);
  write_fault = λ e. rose_after _ _ _ (c.in-Ok.ensures.write_unfailed (ok_not_err _ _)) c.in-Err.ensures.cause;
  disk_unfailed = λ other. c.in-Ok.ensures.disk_unfailed (ok_not_err _ _);
  sink_unfailed = λ other. absurd (other refl);
  looks = c.walk_blocks.ensures.looks;
}
