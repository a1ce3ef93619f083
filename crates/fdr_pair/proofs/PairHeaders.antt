-- The first refusal of both headers, in the words of the page and in those of the contract.
use Rattle.std.proofs.Common.{◌≡◌, ℕ, Bool, true, false, List, [], ◌∷◌, ◌++◌, Option, Some, None, Result, Ok, Err, refl, sym, ◌∙◌, ap, arith}
use Rattle.std.specs.Prelude.{nat_eq, if◌then◌else◌}
use Rattle.std.specs.Option.{option_map}
use Rattle.std.proofs.lemmas.Bool.Decides.{nat_tests}
use Rattle.fdr_slot.specs.declared.image.Header.{Header}
use Rattle.fdr_slot.specs.declared.image.ImageFault.{ImageFault}
use Rattle.fdr_recover.specs.ImageHeader.{image_fault_of, header_in}
use Rattle.fdr_table.specs.Reading.{first_some}
use Rattle.fdr_twin.specs.declared.side.Side.{Side}
use Rattle.fdr_twin.specs.declared.side.Side.TheVariants.{First, Second}
use Rattle.fdr_pair.specs.Opening.{frame_refusal, header_or_fault, header_read, opening, read_unless, same_header}
use Rattle.fdr_pair.specs.Opening as pair
use Rattle.fdr_pair.specs.declared.open.LivingSides.TheVariants as living
use Rattle.fdr_pair.specs.declared.open.Opened.{Opened}
use Rattle.fdr_pair.specs.declared.open.SideHeader.TheVariants as header
use Rattle.fdr_pair.specs.declared.outcome.PairOutcome.{PairOutcome}
use Rattle.fdr_pair.specs.declared.outcome.PairOutcome.TheVariants as outcome
use Rattle.fdr_pair.specs.PairMeaning.{PairGiven, base, lead, left_or, of_both, refused_header, refused_headers, unless_failed}

-- ---- the first of refusals

pub first_append : {A : Type 0} (xs ys : List (Option A)) (a : A) → first_some xs ≡ Some a → first_some (xs ++ ys) ≡ Some a
first_append [] ys a is = absurd (cc)
first_append (None ∷ xs) ys a is = first_append xs ys a is
first_append (Some b ∷ xs) ys a is = is

pub first_after : {A : Type 0} (xs ys : List (Option A)) → first_some xs ≡ None → first_some (xs ++ ys) ≡ first_some ys
first_after [] ys none = refl
first_after (None ∷ xs) ys none = first_after xs ys none
first_after (Some b ∷ xs) ys none = absurd (cc)

-- ---- headers

-- the refusal of a result, if it is one
abbrev pub refusal_of : {A : Type 0} → Result A PairOutcome → Option PairOutcome
refusal_of (Ok a) = None
refusal_of (Err why) = Some why

-- the refusals of headers with these faults
abbrev header_refusals : ℕ → Option Side → Option ImageFault → Option ImageFault → Header → Header → Header → List (Option PairOutcome)
header_refusals words failed f1 f2 h1 h2 h =
    unless_failed failed First (option_map (outcome.ImageRefused First) f1)
    ∷ unless_failed failed Second (option_map (outcome.ImageRefused Second) f2)
    ∷ of_both failed (if same_header h1 h2 then None else Some outcome.HeadersDiffer)
    ∷ frame_refusal words h
    ∷ []

-- the header of the base says the same as that which was read
record IsBaseHeader (words : ℕ) (failed : Option Side) (h1 h2 h : Header) : Type 0 where
  pub first : failed ≡ Some Second → h ≡ h1
  pub second : failed ≡ Some First → h ≡ h2
  pub both : failed ≡ None → same_header h1 h2 ≡ true → frame_refusal words h ≡ frame_refusal words h1

by_frame : (why : Option PairOutcome) (o : Opened) → refusal_of (pair.opened_unless why o) ≡ first_some (why ∷ [])
by_frame None o = refl
by_frame (Some why) o = refl

by_headers : (words : ℕ) (h1 h2 h : Header) (b : Bool) → same_header h1 h2 ≡ b → (b ≡ true → frame_refusal words h ≡ frame_refusal words h1)
    → refusal_of (opening words (header.Read h1) (header.Read h2))
    ≡ first_some ((if same_header h1 h2 then None else Some outcome.HeadersDiffer) ∷ frame_refusal words h ∷ [])
by_headers words h1 h2 h false is frame = rw is refl
by_headers words h1 h2 h true is frame =
    rw is (rw (frame refl) (by_frame (frame_refusal words h1) (record { header = h1; living = living.Both })))

opens_by : (words : ℕ) (failed : Option Side) (f1 f2 : Option ImageFault) (h1 h2 h : Header) → IsBaseHeader words failed h1 h2 h
    → refusal_of (opening words (read_unless failed First (header_or_fault f1 h1)) (read_unless failed Second (header_or_fault f2 h2)))
    ≡ first_some (header_refusals words failed f1 f2 h1 h2 h)
opens_by words None (Some why) f2 h1 h2 h is = refl
opens_by words None None (Some why) h1 h2 h is = refl
opens_by words None None None h1 h2 h is = by_headers words h1 h2 h (same_header h1 h2) refl (is.both refl)
opens_by words (Some First) f1 (Some why) h1 h2 h is = refl
opens_by words (Some First) f1 None h1 h2 h is =
    by_frame (frame_refusal words h2) (record { header = h2; living = living.OnlySecond })
    ∙ ap (λ (k : Header). first_some (frame_refusal words k ∷ [])) (sym (is.second refl))
opens_by words (Some Second) (Some why) f2 h1 h2 h is = refl
opens_by words (Some Second) None f2 h1 h2 h is =
    by_frame (frame_refusal words h1) (record { header = h1; living = living.OnlyFirst })
    ∙ ap (λ (k : Header). first_some (frame_refusal words k ∷ [])) (sym (is.first refl))

-- headers that are the same are refused for the same
frame_of : (words : ℕ) (h k : Header) → same_header h k ≡ true → frame_refusal words k ≡ frame_refusal words h
frame_of words h k same =
    let words_same : k.words ≡ h.words = grind (arith, nat_tests) in
    let version_same : k.version ≡ h.version = grind (arith, nat_tests) in
    ap (λ (n : ℕ). if nat_eq n words then (if nat_eq k.version 1 then Some outcome.OldVersion else None) else Some (outcome.WordsDiffer n words)) words_same
    ∙ ap (λ (n : ℕ). if nat_eq h.words words then (if nat_eq n 1 then Some outcome.OldVersion else None) else Some
    (outcome.WordsDiffer h.words words)) version_same

-- the refusals of the headers of what was given
abbrev pub header_list : ℕ → PairGiven → List (Option PairOutcome)
header_list words g = refused_header g First ∷ refused_header g Second ∷ of_both g.failed (refused_headers (g.image First) (g.image Second))
    ∷ frame_refusal words (header_in (g.image (base g))) ∷ []

-- the headers of what was given are refused for the same as those that were read
pub opens : (words : ℕ) (g : PairGiven)
    → refusal_of (opening words (read_unless g.failed First (header_read (g.image First))) (read_unless g.failed Second (header_read (g.image Second))))
    ≡ first_some (refused_header g First ∷ refused_header g Second ∷ of_both g.failed (refused_headers (g.image First) (g.image Second))
    ∷ frame_refusal words (header_in (g.image (base g))) ∷ [])
opens words g = opens_by words g.failed (image_fault_of (g.image First)) (image_fault_of (g.image Second)) (header_in (g.image First))
    (header_in (g.image Second)) (header_in (g.image (base g)))
    (record {
      first = λ is. ap (λ (f : Option Side). header_in (g.image (left_or f (lead g)))) is;
      second = λ is. ap (λ (f : Option Side). header_in (g.image (left_or f (lead g)))) is;
      both = λ is same. ap (λ (f : Option Side). frame_refusal words (header_in (g.image (left_or f (lead g))))) is ∙ of_side (lead g) same;
    })
  where
    of_side : (side : Side) → same_header (header_in (g.image First)) (header_in (g.image Second)) ≡ true
        → frame_refusal words (header_in (g.image side)) ≡ frame_refusal words (header_in (g.image First))
    of_side First same = refl
    of_side Second same = frame_of words (header_in (g.image First)) (header_in (g.image Second)) same
