use Rattle.std.proofs.Common.{[], ◌++◌, Err, ap, inl, inr, refl, ◌∙◌}
use Rattle.std.specs.Prelude.{IsTrue}
use Rattle.fdr_io.specs.Output.{Emits}
use Rattle.fdr_io.proofs.OutputSteps.{part_at_end, whole_is_part, written_at_end}
use Rattle.fdr_top.specs.Salvage.{AreRunsOf, decided_in_run, entries_in_runs, salvage_text}
use Rattle.fdr_top.proofs.ListedLines.{part_of_entries, part_of_first}
use Rattle.fdr_top.proofs.ReadRuns.{runs_read}
use Rattle.fdr_top.proofs.Salvages.{lines_salvaged}
use Rattle.fdr_top.proofs.Results.{disk_not_done, disk_not_taker, disk_not_write, done_not_disk, done_not_write, ok_not_err, rose_after, taker_not_disk}
use Rattle.fdr_top.proofs.Results.{write_not_disk, write_not_done}
use Rattle.fdr_top.proofs.salvaging.list_runs.Given.{Over}
use Rattle.fdr_top.proofs.salvaging.list_runs.Goals.{In-Ok}
use Rattle.fdr_top.proofs.salvaging.list_runs.Goals as goal

-- what went out once all was taken
emits : (g : Over) (c : In-Ok g) → IsTrue g.D.Deck.tells.bytes → AreRunsOf c.args.header.now (g.D.Deck.state c.args.deck.now).held c.args.runs.now
    → Emits (g.O.Sink.written c.args.out.now) (g.O.Sink.written c.take_runs.new.out) [] c.take_runs.new.blocks.taker
    (salvage_text c.args.blocks.now.table.now c.args.header.now (g.D.Deck.state c.args.deck.now).held)
emits g c told are = rw (
  c.requires.empty,
  lines_salvaged c.args.blocks.now.table.now c.args.header.now (g.D.Deck.state c.args.deck.now).held
      c.args.runs.now are,
) at (c.in-Ok.ensures.all told)

-- where all was written
pub returns-in-Ok-finish : goal.returns-in-Ok-finish
returns-in-Ok-finish g c = record {
  answer = inl refl;
  text = λ done told are. written_at_end _ _ _ _ _ (emits g (goal.at.returns-in-Ok-finish g c).In-Ok told are) c.in-Ok-finish.ensures.all;
  drained = λ e. absurd (done_not_disk e);
  part = λ told are. whole_is_part _ _ _ (written_at_end _ _ _ _ _ (emits g (goal.at.returns-in-Ok-finish g c).In-Ok told are) c.in-Ok-finish.ensures.all);
  looks = c.take_runs.ensures.looks;
  disk_fault = λ e. absurd (done_not_disk e);
  write_fault = λ e. absurd (done_not_write e);
  no_disk_fault = λ other. c.in-Ok.ensures.disk_unfailed (ok_not_err _ _);
  no_write_fault = λ other more. c.in-Ok-finish.ensures.no_fault ∙ c.in-Ok.ensures.write_unfailed (ok_not_err _ _);
}

-- where the last of it wasn't
pub returns-in-Err : goal.returns-in-Err
returns-in-Err g c = record {
  answer = inr (inl refl);
  text = λ done told are. absurd (write_not_done done);
  drained = λ e. absurd (write_not_disk e);
  part = λ told are. part_at_end _ _ _ _ _ c.in-Err.ensures.part.0 (emits g (goal.at.returns-in-Err g c).In-Ok told are) c.in-Err.ensures.part.1;
  looks = c.take_runs.ensures.looks;
  disk_fault = λ e. absurd (write_not_disk e);
  write_fault = λ e. rose_after _ _ _ (c.in-Ok.ensures.write_unfailed (ok_not_err _ _)) c.in-Err.ensures.cause;
  no_disk_fault = λ other. c.in-Ok.ensures.disk_unfailed (ok_not_err _ _);
  no_write_fault = λ other more. absurd (other refl);
}

-- where the disk fails
pub returns-in-Err-Disk : goal.returns-in-Err-Disk
returns-in-Err-Disk g c = record {
  answer = inr (inr refl);
  text = λ done told are. absurd (disk_not_done done);
  part = λ told are.
      let t = c.args.blocks.now.table.now in
      let h = c.args.header.now in
      let held = (g.D.Deck.state c.args.deck.now).held in
      let front = rw c.requires.empty at (c.in-Err-Disk.ensures.front told (ap Err c.in-Err-Disk.field-0-is)) in
      part_of_first t (entries_in_runs t h held c.args.runs.now) (salvage_text t h held) (g.O.Sink.written c.args.out.now)
      (g.O.Sink.written c.take_runs.new.out) (g.O.Sink.written c.finish-in-Err-Disk.new.out) c.take_runs.new.blocks.taker
      (entries_in_runs t h held front.earlier ++ decided_in_run t h front.run front.read) front.later c.finish-in-Err-Disk.result
      (lines_salvaged t h held c.args.runs.now are) front.ahead front.taken c.finish-in-Err-Disk.ensures.all c.finish-in-Err-Disk.ensures.part;
  drained = λ fails told none are.
      let t = c.args.blocks.now.table.now in
      let h = c.args.header.now in
      let held = (g.D.Deck.state c.args.deck.now).held in
      let front = rw c.requires.empty at (c.in-Err-Disk.ensures.front told (ap Err c.in-Err-Disk.field-0-is)) in
      runs_read t h held c.args.runs.now (g.O.Sink.written c.args.out.now) (g.O.Sink.written c.take_runs.new.out)
      (g.O.Sink.written c.finish-in-Err-Disk.new.out) c.take_runs.new.blocks.taker front.earlier front.run front.others front.read front.unread _ _ _
      c.finish-in-Err-Disk.result are front.in_order front.parted front.taken
      (c.in-Err-Disk.ensures.write_unfailed (disk_not_taker _ c.in-Err-Disk.field-0-is)) c.finish-in-Err-Disk.ensures.all
      c.finish-in-Err-Disk.ensures.cause none;
  looks = c.take_runs.ensures.looks;
  disk_fault = λ e. c.in-Err-Disk.ensures.disk_fault (ap Err c.in-Err-Disk.field-0-is);
  write_fault = λ e. absurd (disk_not_write e);
  no_disk_fault = λ other. absurd (other refl);
  no_write_fault = λ other more. absurd (more refl);
}

-- where the sink fails in between
pub returns-in-Err-Taker : goal.returns-in-Err-Taker
returns-in-Err-Taker g c = record {
  answer = inr (inl refl);
  text = λ done told are. absurd (write_not_done done);
  drained = λ e. absurd (write_not_disk e);
  part = λ told are.
      let t = c.args.blocks.now.table.now in
      let h = c.args.header.now in
      let held = (g.D.Deck.state c.args.deck.now).held in
      part_of_entries t (entries_in_runs t h held c.args.runs.now) (salvage_text t h held) (g.O.Sink.written c.args.out.now)
      (g.O.Sink.written c.take_runs.new.out) (lines_salvaged t h held c.args.runs.now are)
      (rw c.requires.empty at (c.in-Err-Taker.ensures.part told (ap Err c.in-Err-Taker.field-0-is)));
  looks = c.take_runs.ensures.looks;
  disk_fault = λ e. absurd (write_not_disk e);
  write_fault = λ e. c.in-Err-Taker.ensures.write_fault (ap Err c.in-Err-Taker.field-0-is);
  no_disk_fault = λ other. c.in-Err-Taker.ensures.disk_unfailed (taker_not_disk _ c.in-Err-Taker.field-0-is);
  no_write_fault = λ other more. absurd (other refl);
}
