use Rattle.std.proofs.Common.{[], Err, ap, inl, inr, refl, ◌∙◌}
use Rattle.std.specs.Prelude.{IsTrue}
use Rattle.fdr_io.specs.Output.{Emits}
use Rattle.fdr_io.proofs.OutputSteps.{part_at_end, whole_is_part, written_at_end}
use Rattle.fdr_recover.specs.Images.{recovered_run}
use Rattle.fdr_top.specs.Sessions.{entries_of_blocks, listing_of_blocks}
use Rattle.fdr_top.specs.SessionsTaken.{decided_of_blocks}
use Rattle.fdr_top.proofs.ListedLines.{part_of_entries, part_of_first}
use Rattle.fdr_top.proofs.ReadLines.{read_listed}
use Rattle.fdr_top.proofs.SessionEntries.{lines_of_blocks}
use Rattle.fdr_top.proofs.Results.{disk_not_done, disk_not_taker, disk_not_write, done_not_disk, done_not_write, ok_not_err, rose_after, taker_not_disk}
use Rattle.fdr_top.proofs.Results.{write_not_disk, write_not_done}
use Rattle.fdr_top.proofs.listing.list_blocks.Given.{Over}
use Rattle.fdr_top.proofs.listing.list_blocks.Goals.{In-Ok}
use Rattle.fdr_top.proofs.listing.list_blocks.Goals as goal

-- what went out once all was taken
emits : (g : Over) (c : In-Ok g) → IsTrue g.D.Deck.tells.bytes
    → Emits (g.O.Sink.written c.args.out.now) (g.O.Sink.written c.take_blocks.new.out) [] c.take_blocks.new.blocks.taker
    (listing_of_blocks c.args.blocks.now.table.now c.args.header.now.version (recovered_run c.args.header.now (g.D.Deck.state c.args.deck.now).held))
emits g c told = rw (c.requires.empty, c.requires.version, lines_of_blocks) at c.in-Ok.ensures.all told

-- where all was written
pub returns-in-Ok-finish : goal.returns-in-Ok-finish
returns-in-Ok-finish g c = record {
  answer = inl refl;
  text = λ done told. written_at_end _ _ _ _ _ (emits g (goal.at.returns-in-Ok-finish g c).In-Ok told) c.in-Ok-finish.ensures.all;
  drained = λ e. absurd (done_not_disk e);
  part = λ told. whole_is_part _ _ _ (written_at_end _ _ _ _ _ (emits g (goal.at.returns-in-Ok-finish g c).In-Ok told) c.in-Ok-finish.ensures.all);
  looks = c.take_blocks.ensures.looks;
  disk_fault = λ e. absurd (done_not_disk e);
  write_fault = λ e. absurd (done_not_write e);
  no_disk_fault = λ other. c.in-Ok.ensures.disk_unfailed (ok_not_err _ _);
  no_write_fault = λ other more. c.in-Ok-finish.ensures.no_fault ∙ c.in-Ok.ensures.write_unfailed (ok_not_err _ _);
}

-- where the last of it wasn't
pub returns-in-Err : goal.returns-in-Err
returns-in-Err g c = record {
  answer = inr (inl refl);
  text = λ done told. absurd (write_not_done done);
  drained = λ e. absurd (write_not_disk e);
  part = λ told. part_at_end _ _ _ _ _ c.in-Err.ensures.part.0 (emits g (goal.at.returns-in-Err g c).In-Ok told) c.in-Err.ensures.part.1;
  looks = c.take_blocks.ensures.looks;
  disk_fault = λ e. absurd (write_not_disk e);
  write_fault = λ e. rose_after _ _ _ (c.in-Ok.ensures.write_unfailed (ok_not_err _ _)) c.in-Err.ensures.cause;
  no_disk_fault = λ other. c.in-Ok.ensures.disk_unfailed (ok_not_err _ _);
  no_write_fault = λ other more. absurd (other refl);
}

-- where the disk fails
pub returns-in-Err-Disk : goal.returns-in-Err-Disk
returns-in-Err-Disk g c = record {
  answer = inr (inr refl);
  text = λ done told. absurd (disk_not_done done);
  part = λ told.
      let t = c.args.blocks.now.table.now in
      let version = c.args.header.now.version in
      let run = recovered_run c.args.header.now (g.D.Deck.state c.args.deck.now).held in
      let front = rw (c.requires.version, c.requires.empty) at (c.in-Err-Disk.ensures.front told (ap Err c.in-Err-Disk.field-0-is)) in
      part_of_first t (entries_of_blocks t version run) (listing_of_blocks t version run) (g.O.Sink.written c.args.out.now)
      (g.O.Sink.written c.take_blocks.new.out) (g.O.Sink.written c.finish-in-Err-Disk.new.out) c.take_blocks.new.blocks.taker
      (decided_of_blocks t version front.read) front.later c.finish-in-Err-Disk.result (lines_of_blocks t version run) front.ahead
      front.taken c.finish-in-Err-Disk.ensures.all c.finish-in-Err-Disk.ensures.part;
  drained = λ fails told none.
      let t = c.args.blocks.now.table.now in
      let version = c.args.header.now.version in
      let run = recovered_run c.args.header.now (g.D.Deck.state c.args.deck.now).held in
      let front = rw (c.requires.version, c.requires.empty) at (c.in-Err-Disk.ensures.front told (ap Err c.in-Err-Disk.field-0-is)) in
      read_listed t version run (g.O.Sink.written c.args.out.now) (g.O.Sink.written c.take_blocks.new.out)
      (g.O.Sink.written c.finish-in-Err-Disk.new.out) c.take_blocks.new.blocks.taker front.read front.unread _ _ _
      c.finish-in-Err-Disk.result front.parted front.taken
      (c.in-Err-Disk.ensures.write_unfailed (disk_not_taker _ c.in-Err-Disk.field-0-is)) c.finish-in-Err-Disk.ensures.all
      c.finish-in-Err-Disk.ensures.cause none;
  looks = c.take_blocks.ensures.looks;
  disk_fault = λ e. c.in-Err-Disk.ensures.disk_fault (ap Err c.in-Err-Disk.field-0-is);
  write_fault = λ e. absurd (disk_not_write e);
  no_disk_fault = λ other. absurd (other refl);
  no_write_fault = λ other more. absurd (more refl);
}

-- where the sink fails in between
pub returns-in-Err-Taker : goal.returns-in-Err-Taker
returns-in-Err-Taker g c = record {
  answer = inr (inl refl);
  text = λ done told. absurd (write_not_done done);
  drained = λ e. absurd (write_not_disk e);
  part = λ told.
      let t = c.args.blocks.now.table.now in
      let version = c.args.header.now.version in
      let run = recovered_run c.args.header.now (g.D.Deck.state c.args.deck.now).held in
      part_of_entries t (entries_of_blocks t version run) (listing_of_blocks t version run) (g.O.Sink.written c.args.out.now)
      (g.O.Sink.written c.take_blocks.new.out) (lines_of_blocks t version run)
      (rw (c.requires.empty, c.requires.version) at (c.in-Err-Taker.ensures.part told (ap Err c.in-Err-Taker.field-0-is)));
  looks = c.take_blocks.ensures.looks;
  disk_fault = λ e. absurd (write_not_disk e);
  write_fault = λ e. c.in-Err-Taker.ensures.write_fault (ap Err c.in-Err-Taker.field-0-is);
  no_disk_fault = λ other. c.in-Err-Taker.ensures.disk_unfailed (taker_not_disk _ c.in-Err-Taker.field-0-is);
  no_write_fault = λ other more. absurd (other refl);
}
