use Rattle.std.proofs.Common.{◌≡◌, ◌⊎◌, inl, inr, ◌∙◌, ap, arith, refl, Err, rules}
use Rattle.fdr_words.specs.Forms.{exceed_image}
use Rattle.fdr_io.specs.declared.Input.TheVariants as input
use Rattle.fdr_top.specs.Answers.{IsOwn}
use Rattle.fdr_top.specs.Stages.{IsBeforeInput}
use Rattle.fdr_top.specs.declared.outcome.Outcome.{Outcome}
use Rattle.fdr_top.specs.declared.outcome.Outcome.TheVariants as outcome
use Rattle.fdr_top.proofs.Answering.{memory_writes, passes_keeps}
use Rattle.fdr_top.proofs.ExceededImages.{blocks_exceeded, long_image, no_room_to_watch, of_rules, opening_own, rules_refused, rules_unread, unopened}
use Rattle.fdr_top.proofs.ListedImages.{of_blocks, of_blocks_begun}
use Rattle.fdr_top.proofs.Results.{bounded_between, err_same, kept_bounded, memory_not_disk, memory_not_input, memory_not_write, ok_not_err}
use Rattle.fdr_top.proofs.Results.{rose_after, rose_later}
use Rattle.fdr_top.proofs.Openings.{shut_unpulled, shut_unwritten}
use Rattle.fdr_top.proofs.exceeding.list_exceedances.Goals as goal

-- where the image isn't opened
pub returns-in-Err : goal.returns-in-Err
returns-in-Err g c = record {
  answer = λ path image. opening_own path image c.in-Err.answer c.in-Err.ensures.shut;
  lists = unopened c.args.sound.now _ _ _ _ _ _ c.in-Err.answer c.requires c.open_image.ensures.looks c.in-Err.ensures.shut c.in-Err.ensures.refused;
  before_input = λ before. passes_keeps _ _ _ c.open_image.ensures.looks.disk_work.passes;
  announced = c.open_image.ensures.looks.disk_work.passes.announced.announced;
  bounded = kept_bounded _ _ _ _ c.open_image.ensures.looks.disk_work.passes.input.taken;
  input_fault = λ e. absurd (shut_unpulled c.in-Err.answer c.in-Err.ensures.shut e);
  no_input_fault = λ other. c.open_image.ensures.looks.disk_work.passes.input_faults;
  disk_fault = c.in-Err.ensures.disk_fault;
  write_fault = λ e. absurd (shut_unwritten c.in-Err.answer c.in-Err.ensures.shut e);
  no_disk_fault = λ other. c.in-Err.ensures.no_disk_fault (λ e. other (err_same _ _ e));
  no_write_fault = search rules;
  memory = c.in-Err.ensures.memory;
  unwritten = search rules;
}

-- where the rules aren't read
pub returns-in-Err-pull_rules : goal.returns-in-Err-pull_rules
returns-in-Err-pull_rules g c = record {
  answer = λ path image.
      of_rules (λ (a : Outcome). (a ≡ outcome.NoMemory) ⊎ IsOwn (exceed_image path image) a) c.in-Err-pull_rules.answer (λ row f. inr tt) (inr tt) (inl refl)
      c.in-Err-pull_rules.ensures.refused.1.only;
  lists =
      let opened = c.in-Ok.ensures.opened in
      let refused = rw c.table.ensures at c.in-Err-pull_rules.ensures.refused in
      rules_refused c.args.sound.now _ _ _ _ _ _ _ refused.0 c.in-Err-pull_rules.answer c.open_image.ensures.looks
      (long_image c.in-Ok.reader.header _ opened.whole) opened.image
      c.pull_rules.ensures.disk c.pull_rules.ensures.stops refused.1;
  before_input = λ before.
      absurd (of_rules (λ (a : Outcome). IsBeforeInput a → ⊥) c.in-Err-pull_rules.answer (λ row f none. none) (λ none. none) (λ none. none)
      c.in-Err-pull_rules.ensures.refused.1.only before);
  announced = c.pull_rules.ensures.announced ∙ c.open_image.ensures.looks.disk_work.passes.announced.announced;
  bounded = bounded_between _ _ _ _ _ _ c.open_image.ensures.looks.disk_work.passes.input.taken c.pull_rules.ensures.bounded refl;
  input_fault = λ e. rose_after _ _ _ c.open_image.ensures.looks.disk_work.passes.input_faults (c.in-Err-pull_rules.ensures.input_fault (ap Err e));
  no_input_fault = λ other.
      c.in-Err-pull_rules.ensures.no_input_fault (λ e. other (err_same _ _ e)) ∙ c.open_image.ensures.looks.disk_work.passes.input_faults;
  disk_fault = λ e. absurd (rules_unread c.in-Err-pull_rules.answer c.in-Err-pull_rules.ensures.refused.1.only (inr (inr e)));
  write_fault = λ e. absurd (rules_unread c.in-Err-pull_rules.answer c.in-Err-pull_rules.ensures.refused.1.only (inr (inl e)));
  no_disk_fault = λ other. c.pull_rules.ensures.disk.disk_faults ∙ c.in-Ok.ensures.no_disk_fault (ok_not_err _ _);
  no_write_fault = search rules;
  memory = λ e.
      let opened = c.in-Ok.ensures.opened in
      record { long = omega (arith, opened.whole, c.pull_rules.ensures.disk.extent); good = λ told. (opened.image told).no_fault };
  unwritten = search rules;
}

-- where there is no room to watch
pub returns-in_default : goal.returns-in_default
returns-in_default g c = record {
  answer = λ path image. inl refl;
  lists =
      let read = rw c.table.ensures at c.in-Ok-pull_rules.ensures.rules in
      no_room_to_watch c.args.sound.now _ _ _ _ _ _ _ read.0 c.open_image.ensures.looks c.pull_rules.ensures.disk c.pull_rules.ensures.stops read.2;
  before_input = λ before. absurd before;
  announced = c.pull_rules.ensures.announced ∙ c.open_image.ensures.looks.disk_work.passes.announced.announced;
  bounded = bounded_between _ _ _ _ _ _ c.open_image.ensures.looks.disk_work.passes.input.taken c.pull_rules.ensures.bounded refl;
  input_fault = λ e. absurd (memory_not_input e);
  no_input_fault = λ other. c.in-Ok-pull_rules.ensures.no_input_fault (ok_not_err _ _) ∙ c.open_image.ensures.looks.disk_work.passes.input_faults;
  disk_fault = λ e. absurd (memory_not_disk e);
  write_fault = λ e. absurd (memory_not_write e);
  no_disk_fault = λ other. c.pull_rules.ensures.disk.disk_faults ∙ c.in-Ok.ensures.no_disk_fault (ok_not_err _ _);
  no_write_fault = search rules;
  memory = λ e.
      let opened = c.in-Ok.ensures.opened in
      record { long = omega (arith, opened.whole, c.pull_rules.ensures.disk.extent); good = λ told. (opened.image told).no_fault };
  unwritten = search rules;
}

-- where the blocks are read
pub returns : goal.returns
returns g c = record {
  answer = λ path image.
      inr (of_blocks (λ (a : Outcome). IsOwn (exceed_image path image) a) c.write_exceedances.result tt tt tt c.write_exceedances.ensures.answer);
  lists =
      let opened = c.in-Ok.ensures.opened in
      let read = rw c.table.ensures at c.in-Ok-pull_rules.ensures.rules in
      blocks_exceeded c.args.sound.now _ _ _ _ _ c.in-Ok.reader.header _ _ _ _ _ read.0 _ c.open_image.ensures.looks c.pull_rules.ensures.disk
      c.pull_rules.ensures.stops c.write_exceedances.ensures.looks opened.header opened.image opened.whole read.2 (c.in-Ok-watching.ensures.rules ∙ read.1)
      c.write_exceedances.ensures.answer (rw c.table-2.ensures at c.write_exceedances.ensures.text)
      (rw c.table-2.ensures at c.write_exceedances.ensures.part) (rw c.table-2.ensures at c.write_exceedances.ensures.drained);
  before_input = λ before.
      absurd (of_blocks (λ (a : Outcome). IsBeforeInput a → ⊥) c.write_exceedances.result (λ none. none) (λ none. none) (λ none. none)
      c.write_exceedances.ensures.answer before);
  announced =
      c.write_exceedances.ensures.looks.disk_work.passes.announced.announced ∙ c.pull_rules.ensures.announced
      ∙ c.open_image.ensures.looks.disk_work.passes.announced.announced;
  bounded =
      bounded_between _ _ _ _ _ _ c.open_image.ensures.looks.disk_work.passes.input.taken c.pull_rules.ensures.bounded
      c.write_exceedances.ensures.looks.disk_work.passes.input.taken;
  input_fault = λ e.
      absurd (of_blocks (λ (a : Outcome). a ≡ outcome.ReadFault input.Line → ⊥) c.write_exceedances.result (λ x. cc) (λ x. cc) (λ x. cc)
      c.write_exceedances.ensures.answer e);
  no_input_fault = λ other.
      c.write_exceedances.ensures.looks.disk_work.passes.input_faults ∙ c.in-Ok-pull_rules.ensures.no_input_fault (ok_not_err _ _)
      ∙ c.open_image.ensures.looks.disk_work.passes.input_faults;
  disk_fault = λ fails.
      rose_later _ _ _ c.open_image.ensures.looks.disk_work.passes.disk_faults
      (rose_after _ _ _ c.pull_rules.ensures.disk.disk_faults (c.write_exceedances.ensures.disk_fault fails));
  write_fault = c.write_exceedances.ensures.write_fault;
  no_disk_fault = λ other.
      c.write_exceedances.ensures.no_disk_fault other ∙ c.pull_rules.ensures.disk.disk_faults ∙ c.in-Ok.ensures.no_disk_fault (ok_not_err _ _);
  no_write_fault = c.write_exceedances.ensures.no_write_fault;
  memory = λ e. absurd (of_blocks_begun c.write_exceedances.result c.write_exceedances.ensures.answer (memory_writes _ e));
  unwritten = λ none. absurd (none c.write_exceedances.ensures.answer);
}
