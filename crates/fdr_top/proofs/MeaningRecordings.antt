-- What commands mean that record in an image.
use Rattle.std.proofs.Common.{◌≡◌, ◌⊎◌, ⊎_elim, inl, inr, ℕ, ◌+◌, ◌-◌, ◌<◌, ◌≤◌, ◌==◌, Bool, true, false, cond, List, [], length, take, Some, None, refl, sym}
use Rattle.std.proofs.Common.{ap, ◌∙◌, subst, ne_eqb, le-ltb, lt-ltb, arith}
use Rattle.std.proofs.lemmas.Bool.{cases_eq}
use Rattle.std.specs.Prelude.{nat_lt}
use Rattle.fdr_bus.specs.declared.BusRecord.{BusRecord}
use Rattle.fdr_slot.specs.Limits.{sequence_end}
use Rattle.fdr_slot.specs.declared.image.ImageFault.{ImageFault}
use Rattle.fdr_recover.specs.Blocks.{Block}
use Rattle.fdr_recover.specs.ImageHeader.{IsFor, header_in}
use Rattle.fdr_recorder.specs.NewBlocks.{AddsToRun, new_blocks, next_in}
use Rattle.fdr_table.specs.Rows.{TableRows}
use Rattle.fdr_words.specs.Forms.{Form}
use Rattle.fdr_top.specs.Answers.{HasImage}
use Rattle.fdr_top.specs.Commands.{RunsCommand}
use Rattle.fdr_top.specs.Record.{RecordsStream}
use Rattle.fdr_top.specs.Refusals.{RefusesImage, RefusesOldImage}
use Rattle.fdr_top.specs.Runs.{CommandRun}
use Rattle.fdr_top.specs.Stages.{EndsRecording}
use Rattle.fdr_top.specs.declared.outcome.Outcome.{Outcome}
use Rattle.fdr_top.specs.declared.outcome.Outcome.TheVariants as outcome
use Rattle.fdr_top.specs.Meaning.{Effect, answers, at_start, at_work, gets, old_version, or_answers, records}
use Rattle.fdr_top.specs.Doing.{IsTold, Refines}
use Rattle.fdr_top.proofs.MeaningWords.{in_image}
use Rattle.fdr_top.proofs.MeaningLeft.{refused, wrote_nothing}
use Rattle.fdr_top.proofs.MeaningImages.{IsImageRefusal, image_or, failed_silent, image_reads, image_refuses, words_told}

-- ---- how an image to be recorded in decides

pub in_reads : (t : TableRows) (image : List ℕ) (work : Effect) → IsFor t.frame.words image → (header_in image).version ≡ 2 → in_image t image work ≡ work
in_reads t image work for two =
    image_reads t image (or_answers at_start (old_version image) work) for
    ∙ ap (λ (v : ℕ). or_answers at_start (cond (v == 1) (Some outcome.OldVersion) None) work) two

pub in_old : (t : TableRows) (image : List ℕ) (work : Effect) → IsFor t.frame.words image → (header_in image).version ≡ 1
    → in_image t image work ≡ answers at_start outcome.OldVersion
in_old t image work for one =
    image_reads t image (or_answers at_start (old_version image) work) for
    ∙ ap (λ (v : ℕ). or_answers at_start (cond (v == 1) (Some outcome.OldVersion) None) work) one

old_or : (image : List ℕ) (work : Effect) → (or_answers at_start (old_version image) work ≡ work)
    ⊎ IsImageRefusal (or_answers at_start (old_version image) work)
old_or image work = ⊎_elim
    (λ (one : (header_in image).version ≡ 1). inr (record {
      why = outcome.OldVersion;
      is = ap (λ (v : ℕ). or_answers at_start (cond (v == 1) (Some outcome.OldVersion) None) work) one;
      nothing = tt;
    }))
    (λ (other : (header_in image).version ≡ 1 → ⊥).
    inl (ap (λ (b : Bool). or_answers at_start (cond b (Some outcome.OldVersion) None) work) (ne_eqb (header_in image).version 1 other)))
    (cases_eq (header_in image).version 1)

pub in_or : (t : TableRows) (image : List ℕ) (work : Effect) → (in_image t image work ≡ work) ⊎ IsImageRefusal (in_image t image work)
in_or t image work = ⊎_elim
    (λ (read : in_image t image work ≡ or_answers at_start (old_version image) work). ⊎_elim
    (λ works. inl (read ∙ works))
    (λ (no_work : IsImageRefusal (or_answers at_start (old_version image) work)).
    inr (record { why = no_work.why; is = read ∙ no_work.is; nothing = no_work.nothing }))
    (old_or image work))
    (λ refusal. inr refusal)
    (image_or t image (or_answers at_start (old_version image) work))

-- ---- how the numbers decide

pub records_all : (image : List ℕ) (blocks : List Block) (text : List ℕ) (answer : Outcome) → next_in image + length blocks ≤ sequence_end
    → records image blocks text answer ≡ record { step = at_work; answer = answer; text = text; image = gets blocks }
records_all image blocks text answer few = rw (le-ltb sequence_end (next_in image + length blocks) few) refl

pub records_some : (image : List ℕ) (blocks : List Block) (text : List ℕ) (answer : Outcome) → sequence_end < next_in image + length blocks
    → records image blocks text answer ≡ record {
      step = at_work;
      answer = outcome.SeqEnd;
      text = [];
      image = gets
          (take (sequence_end - next_in image) blocks);
    }
records_some image blocks text answer many = rw (lt-ltb sequence_end (next_in image + length blocks) many) refl

either_works : (b : Bool) (some all : Effect) → some.step ≡ at_work → all.step ≡ at_work → (cond b some all).step ≡ at_work
either_works true some all s a = s
either_works false some all s a = a

pub records_works : (image : List ℕ) (blocks : List Block) (text : List ℕ) (answer : Outcome) → (records image blocks text answer).step ≡ at_work
records_works image blocks text answer = either_works (nat_lt sequence_end (next_in image + length blocks))
    (record { step = at_work; answer = outcome.SeqEnd; text = []; image = gets (take (sequence_end - next_in image) blocks) })
    (record { step = at_work; answer = answer; text = text; image = gets blocks }) refl refl

-- ---- a command that records

module _ (form : Form) (r : CommandRun) (told : IsTold form r) (runs : RunsCommand form r) (has : HasImage form) (t : TableRows)
    (image : RefusesImage t r.work.tells r.work.old r.work.new r.work.answer)
    (old_image : RefusesOldImage t r.work.tells r.work.old r.work.answer) where
  -- the image is refused
  pub record_refused : (work : Effect) (why : ImageFault) → r.work.answer ≡ outcome.ImageRefused why
      → Refines form (in_image t r.work.old.held work) r.work
  record_refused work why e = refused form r (in_image t r.work.old.held work) (outcome.ImageRefused why) told runs e tt at_start
      (image_refuses t r.work.old.held (or_answers at_start (old_version r.work.old.held) work) why (image.header.refused why e (told.image has)))

  pub record_differs : (work : Effect) (words table : ℕ) → r.work.answer ≡ outcome.WordsDiffer words table
      → Refines form (in_image t r.work.old.held work) r.work
  record_differs work words table e =
      refused form r (in_image t r.work.old.held work) (outcome.WordsDiffer words table) told runs e tt at_start
      (words_told t r.work.tells r.work.old r.work.new r.work.answer words table image (told.image has) e
      (or_answers at_start (old_version r.work.old.held) work))

  pub record_old : (work : Effect) → r.work.answer ≡ outcome.OldVersion → Refines form (in_image t r.work.old.held work) r.work
  record_old work e =
      let is = old_image.version e (told.image has) in
      refused form r (in_image t r.work.old.held work) outcome.OldVersion told runs e tt at_start (in_old t r.work.old.held work is.0 is.1)

  -- the disk failed
  pub record_failed : (work : Effect) → work.step ≡ at_work → r.work.answer ≡ outcome.DiskFault
      → r.work.written_now ≡ r.work.written_before → Refines form (in_image t r.work.old.held work) r.work
  record_failed work works e quiet = failed_silent form (in_image t r.work.old.held work) work r.work has (in_or t r.work.old.held work) works e
      (runs.causes.disk e) quiet

  module _ (recs : List BusRecord) (b : RecordsStream t r.work.tells recs r.work.old r.work.new r.work.answer) where
    abbrev blocks : List Block
    blocks = new_blocks t r.work.old.held recs

    -- all was recorded
    pub record_all : (text : List ℕ) (a : Outcome) → EndsRecording r.work.answer
        → in_image t r.work.old.held (records r.work.old.held blocks text a) ≡ record { step = at_work; answer = a; text = text; image = gets blocks }
    record_all text a all =
        in_reads t r.work.old.held (records r.work.old.held blocks text a) (b.good (inl all) (told.image has)) (b.current (inl all) (told.image has))
        ∙ records_all r.work.old.held blocks text a (b.within all (told.image has))

    -- the numbers ended, also by more blocks that begin with these
    pub record_some : (text : List ℕ) (a : Outcome) (whole : List Block) → r.work.answer ≡ outcome.SeqEnd → r.work.written_now ≡ r.work.written_before
        → length blocks ≤ length whole → take (sequence_end - next_in r.work.old.held) whole ≡ take (sequence_end - next_in r.work.old.held) blocks
        → Refines form (in_image t r.work.old.held (records r.work.old.held whole text a)) r.work
    record_some text a whole e quiet more same =
        subst (λ (x : Effect). Refines form x r.work)
        (sym (in_reads t r.work.old.held (records r.work.old.held whole text a) (b.good (inr e) (told.image has)) (b.current (inr e) (told.image has))
        ∙ records_some r.work.old.held whole text a (omega (arith, b.beyond e (told.image has), more))))
        (inl (record {
          answer = e;
          text = wrote_nothing r.work.written_before r.work.written_now quiet;
          image = subst (λ (x : List Block). AddsToRun r.work.tells x r.work.old r.work.new) (sym same) (b.seq_end e (told.image has));
        }))
