-- What `salvage` and `format` mean.
use Rattle.std.proofs.Common.{◌≡◌, ◌≢◌, ◌⊎◌, ⊎_elim, inl, inr, ℕ, List, length, Option, None, Some, refl, sym, ap, ◌∙◌, subst, arith, eq-eqb, ne_eqb}
use Rattle.std.proofs.lemmas.Bool.{cases_eq}
use Rattle.fdr_io.specs.declared.Input.TheVariants as input
use Rattle.fdr_deck.specs.Moments.{IsSoundDeck}
use Rattle.fdr_slot.specs.declared.image.ImageFault.{ImageFault}
use Rattle.fdr_table.specs.Rows.{TableRows}
use Rattle.fdr_words.specs.Forms.{salvage_image, format_image}
use Rattle.fdr_top.specs.Answers.{IsOwn}
use Rattle.fdr_top.specs.Commands.{RunsCommand}
use Rattle.fdr_top.specs.Format.{Makes, new_header}
use Rattle.fdr_top.specs.Refusals.{ring_fault}
use Rattle.fdr_top.specs.Runs.{CommandRun}
use Rattle.fdr_top.specs.Salvage.{SalvagesImage, salvage_in}
use Rattle.fdr_top.specs.declared.outcome.Outcome.{Outcome}
use Rattle.fdr_top.specs.declared.outcome.Outcome.TheVariants as outcome
use Rattle.fdr_top.specs.Meaning.{Effect, answers, at_start, changes, made, or_answers, short_ring, stays, writes}
use Rattle.fdr_top.specs.Doing.{Becomes, IsTold, Refines}
use Rattle.fdr_top.proofs.MeaningWords.{Core, by_ring, on_empty}
use Rattle.fdr_top.proofs.MeaningLeft.{refused, wrote_nothing}
use Rattle.fdr_top.proofs.MeaningByTable.{means_unpulled}
use Rattle.fdr_top.proofs.MeaningImages.{IsImageRefusal, image_or, image_reads, image_refuses, none_or, failed_silent}
use Rattle.fdr_top.proofs.MeaningImages.{words_told, read_all, read_cut, read_failed}
use Rattle.fdr_top.proofs.MeaningImages.{looked}

-- ---- how a length decides

pub ring_reads : (ring : ℕ × ℕ) (image : List ℕ) (work : Effect) → ring_fault ring (length image) ≡ None
    → or_answers at_start (short_ring ring image) work ≡ work
ring_reads ring image work none = rw none refl

ring_refuses : (ring : ℕ × ℕ) (image : List ℕ) (work : Effect) (why : ImageFault) → ring_fault ring (length image) ≡ Some why
    → or_answers at_start (short_ring ring image) work ≡ answers at_start (outcome.ImageRefused why)
ring_refuses ring image work why is = rw is refl

ring_or : (ring : ℕ × ℕ) (image : List ℕ) (work : Effect)
    → (or_answers at_start (short_ring ring image) work ≡ work) ⊎ IsImageRefusal (or_answers at_start (short_ring ring image) work)
ring_or ring image work = ⊎_elim
    (λ none. inl (ring_reads ring image work none))
    (λ some. inr (record { why = outcome.ImageRefused some.0; is = ring_refuses ring image work some.0 some.1; nothing = tt }))
    (none_or (ring_fault ring (length image)))

pub is_empty : (image : List ℕ) (work : Effect) → length image ≡ 0 → on_empty image work ≡ work
is_empty image work none = rw (eq-eqb (length image) 0 none) refl

not_empty : (image : List ℕ) (work : Effect) → length image ≢ 0 → on_empty image work ≡ answers at_start outcome.NotEmpty
not_empty image work some = rw (ne_eqb (length image) 0 some) refl

empty_or : (image : List ℕ) (work : Effect) → (on_empty image work ≡ work) ⊎ IsImageRefusal (on_empty image work)
empty_or image work = ⊎_elim
    (λ none. inl (is_empty image work none))
    (λ some. inr (record { why = outcome.NotEmpty; is = not_empty image work some; nothing = tt }))
    (cases_eq (length image) 0)

-- ---- salvage

module _ (table path : List ℕ) (ring : Option (ℕ × ℕ)) (r : CommandRun) (told : IsTold (salvage_image table path ring) r)
    (runs : RunsCommand (salvage_image table path ring) r) where
  abbrev salvaged : TableRows → Effect
  salvaged t = writes (salvage_in t ring r.work.old.held) outcome.Done

  abbrev salvages : TableRows → Effect
  salvages t = by_ring ring t r.work.old.held (salvaged t)

  -- what is left is how the image is refused
  module _ (t : TableRows) (does : SalvagesImage t ring r.work.tells r.work.old r.work.new r.work.written_before r.work.written_now
      r.work.sink_before r.work.sink_now r.work.answer)
      (reads : (r.work.answer ≡ outcome.Done) ⊎ (r.work.answer ≡ outcome.WriteFault) → salvages t ≡ salvaged t)
      (begun : (r.work.written_now ≡ r.work.written_before) ⊎ (salvages t ≡ salvaged t))
      (either : (salvages t ≡ salvaged t) ⊎ IsImageRefusal (salvages t))
      (refuses : (why : ImageFault) → r.work.answer ≡ outcome.ImageRefused why → salvages t ≡ answers at_start (outcome.ImageRefused why))
      (differs : (image words : ℕ) → r.work.answer ≡ outcome.WordsDiffer image words → salvages t ≡ answers at_start (outcome.WordsDiffer image words)) where
    salvage_left : Becomes stays r.work.tells r.work.old r.work.new
    salvage_left = looked r.work.tells r.work.old r.work.new (told.image tt) does.looks

    salvage_at : (a : Outcome) → r.work.answer ≡ a → IsOwn (salvage_image table path ring) a → Refines (salvage_image table path ring) (salvages t) r.work
    salvage_at outcome.Done e own = read_all (salvage_image table path ring) r (salvages t) (salvage_in t ring r.work.old.held) salvage_left
        (reads (inl e)) e (does.text e (told.image tt))
    salvage_at outcome.WriteFault e own = read_cut (salvage_image table path ring) r (salvages t) (salvage_in t ring r.work.old.held) salvage_left
        tt (reads (inr e)) e (runs.causes.write e) (does.part (told.image tt))
    salvage_at outcome.DiskFault e own = read_failed (salvage_image table path ring) r (salvages t) (salvage_in t ring r.work.old.held) salvage_left
        tt either e (runs.causes.disk e) (does.part (told.image tt)) begun
    salvage_at (outcome.ImageRefused why) e own = refused (salvage_image table path ring) r (salvages t) (outcome.ImageRefused why) told runs e tt at_start
        (refuses why e)
    salvage_at (outcome.WordsDiffer image words) e own =
        refused (salvage_image table path ring) r (salvages t) (outcome.WordsDiffer image words) told runs e tt at_start (differs image words e)
    salvage_at (outcome.ReadFault input.Line) e own = absurd own
    salvage_at a e own = absurd own

  pub means_salvaged : ((t : TableRows) → SalvagesImage t ring r.work.tells r.work.old r.work.new r.work.written_before r.work.written_now
      r.work.sink_before r.work.sink_now r.work.answer
      → IsOwn (salvage_image table path ring) r.work.answer → Refines (salvage_image table path ring) (salvages t) r.work)
      → Core (salvage_image table path ring) r
  means_salvaged at = means_unpulled (salvage_image table path ring) (λ t image. by_ring ring t image (writes (salvage_in t ring image) outcome.Done)) r
      told runs refl (λ g. refl) (λ no. no) tt r.work.old.held (λ yes. refl) runs.carries_out
      (λ past own. at runs.carries_out.0 runs.carries_out.3 own)

pub means_salvage : (table path : List ℕ) (ring : Option (ℕ × ℕ)) (r : CommandRun) → IsTold (salvage_image table path ring) r
    → IsSoundDeck r.work.tells r.work.old → RunsCommand (salvage_image table path ring) r → Core (salvage_image table path ring) r
means_salvage table path None r told sound runs = means_salvaged table path None r told runs (λ t does own.
    let work = salvaged table path None r told runs t in
    salvage_at table path None r told runs t does
    (λ done. image_reads t r.work.old.held work (does.good done (told.image tt)))
    (⊎_elim (λ quiet. inl quiet) (λ for. inr (image_reads t r.work.old.held work (for (told.image tt)))) does.begun)
    (image_or t r.work.old.held work)
    (λ why e. image_refuses t r.work.old.held work why (does.image.header.refused why e (told.image tt)))
    (λ image words e. words_told t r.work.tells r.work.old r.work.new r.work.answer image words does.image (told.image tt) e work)
    r.work.answer refl own)
means_salvage table path (Some ring) r told sound runs = means_salvaged table path (Some ring) r told runs (λ t does own.
    let work = salvaged table path (Some ring) r told runs t in
    let size : r.work.new.extent ≡ length r.work.old.held = does.looks.learns.bytes (told.image tt) ∙ sym (sound.size (told.image tt)) in
    salvage_at table path (Some ring) r told runs t does
    (λ done. ring_reads ring r.work.old.held work (does.good done (told.image tt)))
    (⊎_elim (λ quiet. inl quiet) (λ can. inr (ring_reads ring r.work.old.held work (can (told.image tt)))) does.begun)
    (ring_or ring r.work.old.held work)
    (λ why e. ring_refuses ring r.work.old.held work why (ap (ring_fault ring) (sym size) ∙ does.image.refused why e))
    (λ image words e. absurd (does.image.words image words e))
    r.work.answer refl own)

-- ---- format

module _ (table path : List ℕ) (slots payload : ℕ) (r : CommandRun) (told : IsTold (format_image table path slots payload) r)
    (sound : IsSoundDeck r.work.tells r.work.old) (runs : RunsCommand (format_image table path slots payload) r) where
  abbrev new_image : TableRows → Effect
  new_image t = changes (made (new_header slots payload t.frame.words))

  abbrev makes : TableRows → Effect
  makes t = on_empty r.work.old.held (new_image t)

  module _ (t : TableRows) (does : Makes (new_header slots payload t.frame.words) r.work.tells r.work.old r.work.new r.work.answer) where
    size : length r.work.old.held ≡ r.work.old.extent
    size = sound.size (told.image tt)

    format_at : (a : Outcome) → r.work.answer ≡ a → IsOwn (format_image table path slots payload) a
        → Refines (format_image table path slots payload) (makes t) r.work
    format_at outcome.Done e own =
        subst (λ (x : Effect). Refines (format_image table path slots payload) x r.work)
        (sym (is_empty r.work.old.held (new_image t) (size ∙ does.empty e)))
        (inl (record {
          answer = e;
          text = wrote_nothing r.work.written_before r.work.written_now (runs.unused.text (λ no. no)).0;
          image = (does.held e (told.image tt), does.extent e, does.settled e);
        }))
    format_at outcome.NotEmpty e own =
        let more = does.not_empty e in
        let same = (does.learns e).bytes (told.image tt) in
        refused (format_image table path slots payload) r (makes t) outcome.NotEmpty told runs e tt at_start
        (not_empty r.work.old.held (new_image t) (λ none. let z : r.work.new.extent ≡ 0 = same ∙ sym size ∙ none in omega (arith, more, z)))
    format_at outcome.DiskFault e own = failed_silent (format_image table path slots payload) (makes t) (new_image t) r.work tt
        (empty_or r.work.old.held (new_image t)) refl e (runs.causes.disk e) (runs.unused.text (λ no. no)).0
    format_at (outcome.ReadFault input.Line) e own = absurd own
    format_at a e own = absurd own

  pub means_format : Core (format_image table path slots payload) r
  means_format = means_unpulled (format_image table path slots payload)
      (λ t image. on_empty image (changes (made (new_header slots payload t.frame.words)))) r told runs refl (λ g. refl) (λ no. no) tt
      r.work.old.held (λ yes. refl) runs.carries_out
      (λ past own. format_at runs.carries_out.0 runs.carries_out.3 r.work.answer refl own)
