use Rattle.std.proofs.Common.{◌≡◌, ap, inl, inr, refl, Err, rules}
use Rattle.std.specs.Prelude.{IsTrue}
use Rattle.fdr_recover.specs.Images.{recovered_run}
use Rattle.fdr_readout.specs.Summary.{Tallies, no_summary}
use Rattle.fdr_top.specs.Sessions.{entries_of_blocks, summary_of_blocks}
use Rattle.fdr_top.proofs.SessionSummaries.{summary_of_blocks_is}
use Rattle.fdr_top.proofs.Results.{disk_not_done, disk_not_write, done_not_disk, done_not_write, ok_not_err, write_not_disk, write_not_done}
use Rattle.fdr_top.proofs.drilling.write_summary.Given.{Over}
use Rattle.fdr_top.proofs.drilling.write_summary.Goals.{In-Ok}
use Rattle.fdr_top.proofs.drilling.write_summary.Goals as goal

-- what was tallied is the summary of the run
summary : (g : Over) (c : In-Ok g) → IsTrue g.D.Deck.tells.bytes → c.take_blocks.new.blocks.taker
    ≡ summary_of_blocks c.args.sound.now c.args.header.now.version (recovered_run c.args.header.now (g.D.Deck.state c.args.deck.now).held)
summary g c told =
    let t = c.args.sound.now in
    let version = c.args.header.now.version in
    let run = recovered_run c.args.header.now (g.D.Deck.state c.args.deck.now).held in
    let tallied : Tallies no_summary c.take_blocks.new.blocks.taker (entries_of_blocks t version run) =
    rw (c.requires.table, c.requires.nothing, c.requires.version) at c.in-Ok.ensures.all told in
    summary_of_blocks_is t version run c.take_blocks.new.blocks.taker c.holds.ensures.sound (c.in-Ok.ensures.bounded told) tallied

-- where the line is written
pub returns-in-Ok-write_whole : goal.returns-in-Ok-write_whole
returns-in-Ok-write_whole g c = record {
  answer = inl refl;
  text = λ done told.
      let is = summary g (goal.at.returns-in-Ok-write_whole g c).In-Ok told in
      rw (c.bytes.ensures.content, c.drill_line.ensures, is) at c.in-Ok-write_whole.ensures.whole;
  part = λ failed told. absurd (done_not_write failed);
  looks = c.take_blocks.ensures.looks;
  unread = λ fails. absurd (done_not_disk fails);
  disk_fault = λ fails. absurd (done_not_disk fails);
  write_fault = λ failed. absurd (done_not_write failed);
  no_disk_fault = λ other. c.in-Ok.ensures.disk_unfailed (ok_not_err _ _);
  no_write_fault = λ other. c.in-Ok-write_whole.ensures.no_fault;
}

-- where it isn't
pub returns-in-Err : goal.returns-in-Err
returns-in-Err g c = record {
  answer = inr (inl refl);
  text = λ done told. absurd (write_not_done done);
  part = λ failed told.
      let is = summary g (goal.at.returns-in-Err g c).In-Ok told in
      rw (c.bytes.ensures.content, c.drill_line.ensures, is) at c.in-Err.ensures.part;
  looks = c.take_blocks.ensures.looks;
  unread = λ fails. absurd (write_not_disk fails);
  disk_fault = λ fails. absurd (write_not_disk fails);
  write_fault = λ failed. c.in-Err.ensures.cause;
  no_disk_fault = λ other. c.in-Ok.ensures.disk_unfailed (ok_not_err _ _);
  no_write_fault = λ other. absurd (other refl);
}

-- where the disk fails
pub returns-in-Err-Disk : goal.returns-in-Err-Disk
returns-in-Err-Disk g c = record {
  answer = inr (inr refl);
  text = λ done told. absurd (disk_not_done done);
  part = λ failed told. absurd (disk_not_write failed);
  looks = c.take_blocks.ensures.looks;
  unread = search rules;
  disk_fault = λ e. c.in-Err-Disk.ensures.disk_fault (ap Err c.in-Err-Disk.field-0-is);
  write_fault = λ failed. absurd (disk_not_write failed);
  no_disk_fault = λ other. absurd (other refl);
  no_write_fault = search rules;
}
