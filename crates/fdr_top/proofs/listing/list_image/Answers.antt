use Rattle.fdr_top.specs.declared.outcome.Outcome.TheVariants as outcome
use Rattle.fdr_top.proofs.ListedImages.{blocks_listed, of_blocks_begun, of_blocks_list, unlisted}
use Rattle.fdr_top.proofs.Answering.{memory_writes}
use Rattle.fdr_top.proofs.RecordLines.{refuses_nothing}
use Rattle.fdr_top.proofs.Openings.{opening_own_list, shut_unwritten}
use Rattle.fdr_top.proofs.Results.{err_same, memory_not_disk, memory_not_write, ok_not_err, rose_later}
use Rattle.std.proofs.Common.{◌∙◌, inl, inr, arith, refl, rules}
use Rattle.fdr_top.proofs.listing.list_image.Goals as goal

-- where the image isn't opened
pub returns-in-Err : goal.returns-in-Err
returns-in-Err g c = record {
  answer = λ path image. opening_own_list path image c.in-Err.answer c.in-Err.ensures.shut;
  lists = unlisted c.args.sound.now _ _ _ _ _ _ c.in-Err.answer c.requires c.open_image.ensures.looks c.in-Err.ensures.shut c.in-Err.ensures.refused;
  disk_fault = c.in-Err.ensures.disk_fault;
  write_fault = λ e. absurd (shut_unwritten c.in-Err.answer c.in-Err.ensures.shut e);
  no_disk_fault = λ other. c.in-Err.ensures.no_disk_fault (λ e. other (err_same _ _ e));
  no_write_fault = search rules;
  memory = c.in-Err.ensures.memory;
  unwritten = search rules;
}

-- where there is no room for lines
pub returns-in_default : goal.returns-in_default
returns-in_default g c = record {
  answer = λ path image. inl refl;
  lists =
      unlisted c.args.sound.now _ _ _ _ _ _ outcome.NoMemory c.requires c.open_image.ensures.looks tt
      (refuses_nothing _ _ _ _ outcome.NoMemory (λ past. past));
  disk_fault = λ e. absurd (memory_not_disk e);
  write_fault = λ e. absurd (memory_not_write e);
  no_disk_fault = λ other. c.in-Ok.ensures.no_disk_fault (ok_not_err _ _);
  no_write_fault = search rules;
  memory = λ e.
      let opened = c.in-Ok.ensures.opened in
      record { long = omega (arith, opened.whole); good = λ told. (opened.image told).no_fault };
  unwritten = search rules;
}

pub returns : goal.returns
returns g c = record {
  answer = λ path image. inr (of_blocks_list path image c.list_blocks.result c.list_blocks.ensures.answer);
  lists =
      let opened = c.in-Ok.ensures.opened in
      blocks_listed c.args.sound.now _ _ _ _ c.in-Ok.reader.header _ _ _ _ _ (g.met.D.Deck.sound c.args.deck.now) c.open_image.ensures.looks
      c.list_blocks.ensures.looks opened.header opened.image opened.whole c.list_blocks.ensures.answer
      (rw c.table.ensures at c.list_blocks.ensures.text) (rw c.table.ensures at c.list_blocks.ensures.part)
      (rw c.table.ensures at c.list_blocks.ensures.drained);
  disk_fault = λ fails. rose_later _ _ _ c.open_image.ensures.looks.disk_work.passes.disk_faults (c.list_blocks.ensures.disk_fault fails);
  write_fault = c.list_blocks.ensures.write_fault;
  no_disk_fault = λ other. c.list_blocks.ensures.no_disk_fault other ∙ c.in-Ok.ensures.no_disk_fault (ok_not_err _ _);
  no_write_fault = c.list_blocks.ensures.no_write_fault;
  memory = λ e. absurd (of_blocks_begun c.list_blocks.result c.list_blocks.ensures.answer (memory_writes _ e));
  unwritten = λ nothing. absurd (of_blocks_begun c.list_blocks.result c.list_blocks.ensures.answer nothing);
}
