use Rattle.std.proofs.Common.{◌≡◌, Err, ap, inl, inr, refl, ◌∙◌}
use Rattle.std.specs.Prelude.{IsTrue}
use Rattle.fdr_recover.specs.Images.{recovered_run}
use Rattle.fdr_io.specs.Told.{followed_by}
use Rattle.fdr_io.proofs.OutputSteps.{whole_is_part}
use Rattle.fdr_top.specs.Exceed.{exceedances_of_blocks, steps_of_entries}
use Rattle.fdr_top.specs.Exceeding.{TakesEntries}
use Rattle.fdr_top.specs.Sessions.{entries_of_blocks}
use Rattle.fdr_top.specs.SessionsTaken.{decided_of_blocks}
use Rattle.fdr_top.proofs.Exceeds.{all_written, blocks_failed_part, end_failed, first_part, first_read, gave}
use Rattle.fdr_top.proofs.RunSizes.{run_short}
use Rattle.fdr_top.proofs.Results.{disk_not_done, disk_not_taker, disk_not_write, done_not_disk, done_not_write, ok_not_err, rose_after, taker_not_disk}
use Rattle.fdr_top.proofs.Results.{write_not_disk, write_not_done}
use Rattle.fdr_top.proofs.exceeding.write_exceedances.Given.{Over}
use Rattle.fdr_top.proofs.exceeding.write_exceedances.Goals.{In-Ok-finish}
use Rattle.fdr_top.proofs.exceeding.write_exceedances.Goals as goal

-- all lines were written
written : (g : Over) (c : In-Ok-finish g) → IsTrue g.D.Deck.tells.bytes
    → g.O.Sink.written c.finish.new.out ≡ followed_by (g.O.Sink.written c.args.out.now)
    (exceedances_of_blocks c.args.blocks.now.taker.watch.rules c.args.blocks.now.table.now c.args.header.now.version
    (recovered_run c.args.header.now (g.D.Deck.state c.args.deck.now).held))
written g c told =
    let t = c.args.blocks.now.table.now in
    let version = c.args.header.now.version in
    let run = recovered_run c.args.header.now (g.D.Deck.state c.args.deck.now).held in
    let short = run_short c.args.header.now (g.D.Deck.state c.args.deck.now).held c.requires.limits in
    let before = c.args.blocks.now.taker in
    let o = g.O.Sink.written c.args.out.now in
    let p = g.O.Sink.written c.take_blocks.new.out in
    let now = c.take_blocks.new.blocks.taker in
    let took : TakesEntries o p before now (entries_of_blocks t version run) = rw c.requires.version at c.in-Ok.ensures.all told in
    let given = gave o before t version run c.requires.empty c.requires.no_rows c.requires.watching c.requires.sound short p now took in
    let wrote = c.in-Ok-finish.ensures.all (steps_of_entries (entries_of_blocks t version run)) given.all in
    all_written o before t version run c.requires.empty c.requires.no_rows c.requires.watching c.requires.sound short p now took _ wrote.0 wrote.1 wrote.2

-- where all was written
pub returns-in-Ok-finish : goal.returns-in-Ok-finish
returns-in-Ok-finish g c = record {
  answer = inl refl;
  text = λ done told. written g (goal.at.returns-in-Ok-finish g c).In-Ok-finish told;
  drained = λ e. absurd (done_not_disk e);
  part = λ told. whole_is_part _ _ _ (written g (goal.at.returns-in-Ok-finish g c).In-Ok-finish told);
  looks = c.take_blocks.ensures.looks;
  disk_fault = λ e. absurd (done_not_disk e);
  write_fault = λ e. absurd (done_not_write e);
  no_disk_fault = λ other. c.in-Ok.ensures.disk_unfailed (ok_not_err _ _);
  no_write_fault = λ other more. c.in-Ok-finish.ensures.no_fault ∙ c.in-Ok.ensures.write_unfailed (ok_not_err _ _);
}

-- where the last of it wasn't
pub returns-in-Err : goal.returns-in-Err
returns-in-Err g c = record {
  answer = inr (inl refl);
  text = λ done told. absurd (write_not_done done);
  drained = λ e. absurd (write_not_disk e);
  part = λ told.
      let t = c.args.blocks.now.table.now in
      let version = c.args.header.now.version in
      let run = recovered_run c.args.header.now (g.D.Deck.state c.args.deck.now).held in
      let short = run_short c.args.header.now (g.D.Deck.state c.args.deck.now).held c.requires.limits in
      let before = c.args.blocks.now.taker in
      let o = g.O.Sink.written c.args.out.now in
      let p = g.O.Sink.written c.take_blocks.new.out in
      let now = c.take_blocks.new.blocks.taker in
      let took : TakesEntries o p before now (entries_of_blocks t version run) = rw c.requires.version at c.in-Ok.ensures.all told in
      let given = gave o before t version run c.requires.empty c.requires.no_rows c.requires.watching c.requires.sound short p now took in
      end_failed o before t version run c.requires.empty c.requires.no_rows c.requires.watching c.requires.sound short p now took _
      (c.in-Err.ensures.part (steps_of_entries (entries_of_blocks t version run)) given.all);
  looks = c.take_blocks.ensures.looks;
  disk_fault = λ e. absurd (write_not_disk e);
  write_fault = λ e. rose_after _ _ _ (c.in-Ok.ensures.write_unfailed (ok_not_err _ _)) c.in-Err.ensures.cause;
  no_disk_fault = λ other. c.in-Ok.ensures.disk_unfailed (ok_not_err _ _);
  no_write_fault = λ other more. absurd (other refl);
}

-- where the disk fails
pub returns-in-Err-Disk : goal.returns-in-Err-Disk
returns-in-Err-Disk g c = record {
  answer = inr (inr refl);
  text = λ done told. absurd (disk_not_done done);
  part = λ told.
      let t = c.args.blocks.now.table.now in
      let version = c.args.header.now.version in
      let run = recovered_run c.args.header.now (g.D.Deck.state c.args.deck.now).held in
      let short = run_short c.args.header.now (g.D.Deck.state c.args.deck.now).held c.requires.limits in
      let front = rw c.requires.version at (c.in-Err-Disk.ensures.front told (ap Err c.in-Err-Disk.field-0-is)) in
      first_part (g.O.Sink.written c.args.out.now) c.args.blocks.now.taker t version run c.requires.empty c.requires.no_rows c.requires.watching
      c.requires.sound short (g.O.Sink.written c.take_blocks.new.out) _ c.take_blocks.new.blocks.taker
      (decided_of_blocks t version front.read) front.later c.flush.result front.taken front.ahead c.flush.ensures.all c.flush.ensures.part;
  drained = λ fails told none.
      let t = c.args.blocks.now.table.now in
      let version = c.args.header.now.version in
      let run = recovered_run c.args.header.now (g.D.Deck.state c.args.deck.now).held in
      let short = run_short c.args.header.now (g.D.Deck.state c.args.deck.now).held c.requires.limits in
      let front = rw c.requires.version at (c.in-Err-Disk.ensures.front told (ap Err c.in-Err-Disk.field-0-is)) in
      first_read (g.O.Sink.written c.args.out.now) c.args.blocks.now.taker t version run c.requires.empty c.requires.no_rows c.requires.watching
      c.requires.sound short (g.O.Sink.written c.take_blocks.new.out) _ c.take_blocks.new.blocks.taker front.read front.unread front.later _ _ _
      c.flush.result front.parted front.taken front.ahead (c.in-Err-Disk.ensures.write_unfailed (disk_not_taker _ c.in-Err-Disk.field-0-is))
      c.flush.ensures.all c.flush.ensures.cause none;
  looks = c.take_blocks.ensures.looks;
  disk_fault = λ e. c.in-Err-Disk.ensures.disk_fault (ap Err c.in-Err-Disk.field-0-is);
  write_fault = λ e. absurd (disk_not_write e);
  no_disk_fault = λ other. absurd (other refl);
  no_write_fault = λ other more. absurd (more refl);
}

-- where the sink fails in between
pub returns-in-Err-Taker : goal.returns-in-Err-Taker
returns-in-Err-Taker g c = record {
  answer = inr (inl refl);
  text = λ done told. absurd (write_not_done done);
  drained = λ e. absurd (write_not_disk e);
  part = λ told.
      let t = c.args.blocks.now.table.now in
      let version = c.args.header.now.version in
      let run = recovered_run c.args.header.now (g.D.Deck.state c.args.deck.now).held in
      let short = run_short c.args.header.now (g.D.Deck.state c.args.deck.now).held c.requires.limits in
      blocks_failed_part (g.O.Sink.written c.args.out.now) c.args.blocks.now.taker t version run c.requires.empty c.requires.no_rows c.requires.watching
      c.requires.sound short _ (rw c.requires.version at (c.in-Err-Taker.ensures.part told (ap Err c.in-Err-Taker.field-0-is)));
  looks = c.take_blocks.ensures.looks;
  disk_fault = λ e. absurd (write_not_disk e);
  write_fault = λ e. c.in-Err-Taker.ensures.write_fault (ap Err c.in-Err-Taker.field-0-is);
  no_disk_fault = λ other. c.in-Err-Taker.ensures.disk_unfailed (taker_not_disk _ c.in-Err-Taker.field-0-is);
  no_write_fault = λ other more. absurd (other refl);
}
