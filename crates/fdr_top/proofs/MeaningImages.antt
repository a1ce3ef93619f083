-- What commands mean by their image.
use Rattle.std.proofs.Common.{◌≡◌, ◌≢◌, ◌⊎◌, ⊎_elim, inl, inr, ℕ, List, [], Option, Some, None, refl, sym, ap, ◌∙◌, subst, eq-eqb, ne_eqb, IsTrue}
use Rattle.std.proofs.lemmas.Bool.{cases_eq}
use Rattle.fdr_io.specs.Faults.{Rose}
use Rattle.fdr_io.specs.Told.{followed_by}
use Rattle.fdr_slot.specs.declared.image.ImageFault.{ImageFault}
use Rattle.fdr_recover.specs.ImageHeader.{IsFor, header_in, image_fault_of}
use Rattle.fdr_table.specs.Rows.{TableRows}
use Rattle.fdr_words.specs.Forms.{Form}
use Rattle.fdr_top.specs.Answers.{HasImage, WritesText}
use Rattle.fdr_top.specs.InputTexts.{WritesFront}
use Rattle.fdr_top.specs.Complete.{IsFaultlessWork}
use Rattle.fdr_top.specs.Recover.{OnlyLooks}
use Rattle.fdr_top.specs.Refusals.{RefusesImage}
use Rattle.fdr_top.specs.Runs.{CommandRun, WorkRun}
use Rattle.fdr_deck.specs.State.{State, Tells}
use Rattle.fdr_top.specs.Stages.{WritesNothing}
use Rattle.fdr_top.specs.declared.outcome.Outcome.{Outcome}
use Rattle.fdr_top.specs.declared.outcome.Outcome.TheVariants as outcome
use Rattle.fdr_top.specs.Meaning.{Effect, answers, at_start, at_table, at_work, stays, writes}
use Rattle.fdr_top.proofs.MeaningLeft.{front_nothing}
use Rattle.fdr_top.specs.Doing.{Becomes, Refines}
use Rattle.fdr_top.proofs.MeaningWords.{by_header, by_image}

-- ---- how the image decides

pub header_reads : (image : List ℕ) (work : Effect) → image_fault_of image ≡ None → by_header image work ≡ work
header_reads image work none = rw none refl

pub header_refuses : (image : List ℕ) (work : Effect) (why : ImageFault) → image_fault_of image ≡ Some why
    → by_header image work ≡ answers at_start (outcome.ImageRefused why)
header_refuses image work why is = rw is refl

pub image_reads : (t : TableRows) (image : List ℕ) (work : Effect) → IsFor t.frame.words image → by_image t image work ≡ work
image_reads t image work for = rw (for.no_fault, eq-eqb (header_in image).words t.frame.words for.words) refl

pub image_refuses : (t : TableRows) (image : List ℕ) (work : Effect) (why : ImageFault) → image_fault_of image ≡ Some why
    → by_image t image work ≡ answers at_start (outcome.ImageRefused why)
image_refuses t image work why is = rw is refl

pub words_refuse : (t : TableRows) (image : List ℕ) (work : Effect) (words : ℕ) → IsFor words image → words ≢ t.frame.words
    → by_image t image work ≡ answers at_start (outcome.WordsDiffer words t.frame.words)
words_refuse t image work words for differ =
    rw (for.no_fault, ne_eqb (header_in image).words t.frame.words (λ same. differ (sym for.words ∙ same)), for.words) refl

-- what is meant is the work, or a refusal of the image
pub record IsImageRefusal (m : Effect) : Type 0 where
  pub why : Outcome
  pub is : m ≡ answers at_start why
  pub nothing : WritesNothing why

pub none_or : {A : Type 0} (o : Option A) → (o ≡ None) ⊎ ((a : A) × (o ≡ Some a))
none_or None = inl refl
none_or (Some a) = inr (a, refl)

pub none_left : {A : Type 0} (o : Option A) → ((a : A) → o ≡ Some a → ⊥) → o ≡ None
none_left None not = refl
none_left (Some a) not = absurd (not a refl)

pub header_or : (image : List ℕ) (work : Effect) → (by_header image work ≡ work) ⊎ IsImageRefusal (by_header image work)
header_or image work = ⊎_elim
    (λ none. inl (header_reads image work none))
    (λ some. inr (record { why = outcome.ImageRefused some.0; is = header_refuses image work some.0 some.1; nothing = tt }))
    (none_or (image_fault_of image))

pub image_or : (t : TableRows) (image : List ℕ) (work : Effect) → (by_image t image work ≡ work) ⊎ IsImageRefusal (by_image t image work)
image_or t image work = ⊎_elim
    (λ none. ⊎_elim
    (λ same. inl (image_reads t image work (record { no_fault = none; words = same })))
    (λ differ. inr (record {
      why = outcome.WordsDiffer (header_in image).words t.frame.words;
      is = words_refuse t image work (header_in image).words (record { no_fault = none; words = refl }) differ;
      nothing = tt;
    }))
    (cases_eq (header_in image).words t.frame.words))
    (λ some. inr (record { why = outcome.ImageRefused some.0; is = image_refuses t image work some.0 some.1; nothing = tt }))
    (none_or (image_fault_of image))

-- what only looked at the disk leaves the image
pub looked : (tells : Tells) (old new : State) → IsTrue tells.bytes → OnlyLooks tells old new → Becomes stays tells old new
looked tells old new told looks = (looks.disk, looks.learns.bytes told, looks.disk_work.passes.announced.announced)

-- what is meant to be answered is, unless something failed, or memory ended
pub done_or_memory : (form : Form) (e : Effect) (r : WorkRun) → Refines form e r → IsFaultlessWork form r
    → (r.answer ≡ e.answer) ⊎ (r.answer ≡ outcome.NoMemory)
done_or_memory form e r (inl all) quiet = inl all.answer
done_or_memory form e r (inr (inl cut)) quiet = absurd (quiet.sink cut.0 cut.1.cause)
done_or_memory form e r (inr (inr (inl cut))) quiet = absurd (quiet.disk cut.0 cut.1.cause)
done_or_memory form e r (inr (inr (inr none))) quiet = inr none.answer

-- the disk failed, and nothing was written
pub failed_silent : (form : Form) (e work : Effect) (r : WorkRun) → HasImage form → (e ≡ work) ⊎ IsImageRefusal e → work.step ≡ at_work
    → r.answer ≡ outcome.DiskFault → Rose r.old.disk_faults r.new.disk_faults → r.written_now ≡ r.written_before → Refines form e r
failed_silent form e work r has either works is cause same =
    inr (inr (inl (has, record { answer = is; step = past either; cause = cause; text = front_nothing e.text r.written_before r.written_now same })))
  where
    past : (e ≡ work) ⊎ IsImageRefusal e → e.step ≢ at_table
    past (inl meant) early = let c : at_work ≡ at_table = sym works ∙ sym (ap (λ (x : Effect). x.step) meant) ∙ early in cc
    past (inr refusal) early = let c : at_start ≡ at_table = sym (ap (λ (x : Effect). x.step) refusal.is) ∙ early in cc

-- words that differ are refused so
pub words_told : (t : TableRows) (tells : Tells) (old new : State) (answer : Outcome) (words table : ℕ) → RefusesImage t tells old new answer
    → IsTrue tells.bytes → answer ≡ outcome.WordsDiffer words table → (work : Effect)
    → by_image t old.held work ≡ answers at_start (outcome.WordsDiffer words table)
words_told t tells old new answer words table refuses told e work =
    let differ = refuses.words words table e in
    words_refuse t old.held work words (differ.2 told) (λ same. differ.1 (same ∙ sym differ.0))
    ∙ ap (λ (x : ℕ). answers at_start (outcome.WordsDiffer words x)) (sym differ.0)

-- ---- a command that lists an image

module _ (form : Form) (r : CommandRun) (m : Effect) (text : List ℕ) (image : Becomes stays r.work.tells r.work.old r.work.new) where
  -- all was written
  pub read_all : m ≡ writes text outcome.Done → r.work.answer ≡ outcome.Done → r.work.written_now ≡ followed_by r.work.written_before text
      → Refines form m r.work
  read_all meant is all = subst (λ (x : Effect). Refines form x r.work) (sym meant) (inl (record { answer = is; text = all; image = image }))

  -- the output failed
  pub read_cut : WritesText form → m ≡ writes text outcome.Done → r.work.answer ≡ outcome.WriteFault → Rose r.work.sink_before r.work.sink_now
      → WritesFront text r.work.written_before r.work.written_now → Refines form m r.work
  read_cut writing meant is cause part = subst (λ (x : Effect). Refines form x r.work) (sym meant)
      (inr (inl (writing, record { answer = is; step = refl; cause = cause; text = part; image = image })))

  -- the disk failed
  pub read_failed : HasImage form → (m ≡ writes text outcome.Done) ⊎ IsImageRefusal m → r.work.answer ≡ outcome.DiskFault
      → Rose r.work.old.disk_faults r.work.new.disk_faults → WritesFront text r.work.written_before r.work.written_now
      → (r.work.written_now ≡ r.work.written_before) ⊎ (m ≡ writes text outcome.Done) → Refines form m r.work
  read_failed has either is cause part begun = ⊎_elim
      (λ meant. subst (λ (x : Effect). Refines form x r.work) (sym meant)
      (inr (inr (inl (has, record { answer = is; step = λ e. cc; cause = cause; text = part })))))
      (λ (no : IsImageRefusal m). subst (λ (x : Effect). Refines form x r.work) (sym no.is)
      (inr (inr (inl (
        has,
        record {
          answer = is;
          step = λ e. cc;
          cause = cause;
          text = ⊎_elim (front_nothing [] r.work.written_before r.work.written_now)
              (λ (meant : m ≡ writes text outcome.Done). let apart : at_work ≡ at_start = ap (λ (e : Effect). e.step) (sym meant ∙ no.is) in absurd (cc)) begun;
        },
      )))))
      either
