-- A word of data is drawn part by part.
use Rattle.std.proofs.Common.{◌≡◌, ℕ, ◌+◌, ◌/◌, ◌%◌, ◌<◌, ◌≢◌, ⊎_elim, ◌==◌, List, [], ◌∷◌, ◌++◌, Some, length, get_or, map, set, take, sym}
use Rattle.std.proofs.Common.{ap, refl, ◌∙◌}
use Rattle.std.proofs.Common.{subst, get_or-set_same, get_or-set_other}
use Rattle.std.specs.Prelude.{slice_get, slice_index, if◌then◌else◌}
use Rattle.std.specs.List.{All}
use Rattle.std.specs.Option.{option_map_or}
use Rattle.std.proofs.lemmas.Bool.{cases_eq, cases_Bool, cond-true, cond-false}
use Rattle.std.proofs.lemmas.List.Elements.{All-nil, All-weaker, All-more}
use Rattle.std.proofs.lemmas.List.{take_more, get_or-map, map_push}
use Rattle.std.proofs.lemmas.Option.{get_or_from_slice_get}
use Rattle.fdr_bits.specs.Fields.{with_field}
use Rattle.fdr_layout.specs.SlotParts.{SlotPart, Laid, parts_of_sample, plain_parts}
use Rattle.fdr_layout.specs.Samples.{Sample, first_at}
use Rattle.fdr_layout.specs.Listed.{numbered_parts}
use Rattle.fdr_layout.proofs.Drafting.{plain_again}
use Rattle.fdr_sampler.specs.Held.{first_part_slot}
use Rattle.fdr_sampler.specs.SlotWord.{piece_of, data_of}
use Rattle.fdr_sampler.specs.Kept.{value_at, IsDrawnWord}
use Rattle.fdr_lists.proofs.Numbered.{slice_get_some}
use Rattle.fdr_sampler.proofs.DataWords.{with_part, data_of-none, data_of-more}

pub IsDrawnWord-none : (value : ℕ → ℕ) (raws : List ℕ) → IsDrawnWord value [] raws raws 0
IsDrawnWord-none value raws = record {
  word = sym (data_of-none value);
  kept = λ n is. is;
  taken =
      All-nil (λ (a : SlotPart). slice_index raws a.sample ≡ value a.sample);
}

-- a raw value that is kept under its number changes no other
kept_through : (value : ℕ → ℕ) (raws : List ℕ) (n raw m : ℕ) → raw ≡ value n → n < length raws → slice_index raws m ≡ value m
    → slice_index (set raws n raw) m ≡ value m
kept_through value raws n raw m is room before =
    ⊎_elim
    (λ (same : m ≡ n). ap (slice_index (set raws n raw)) same ∙ get_or-set_same raws n raw 0 room ∙ is ∙ ap value (sym same))
    (λ (other : m ≢ n). get_or-set_other raws n m raw 0 other ∙ before)
    (cases_eq m n)

-- one more part
pub IsDrawnWord-more : (value : ℕ → ℕ) (parts : List SlotPart) (i : ℕ) (a : SlotPart) (before raws after : List ℕ) (word next raw : ℕ) → i < length parts
    → a ≡ get_or parts i a →
    IsDrawnWord value (take i parts) before raws word → raw ≡ value a.sample → a.sample < length raws → after ≡ set raws a.sample raw → next < 4096 →
    next ≡ with_field word (a.part.at % 12) a.part.width (piece_of raw a.part) → IsDrawnWord value (take (i + 1) parts) before after next
IsDrawnWord-more value parts i a before raws after word next raw l is so_far raw_is room after_is next_fits next_is =
    let P : List ℕ → SlotPart → Type 0 = λ xs x. slice_index xs x.sample ≡ value x.sample in
    let new = set raws a.sample raw in
    let keeps : (m : ℕ) → slice_index raws m ≡ value m → slice_index new m ≡ value m = λ m before. kept_through value raws a.sample raw m raw_is room before in
    let here : P new a = get_or-set_same raws a.sample raw 0 room ∙ raw_is in
    let written : next ≡ with_part value word a = next_is ∙ ap (λ v. with_field word (a.part.at % 12) a.part.width (piece_of v a.part)) raw_is in
    let more : take i parts ++ a ∷ [] ≡ take (i + 1) parts = ap (λ x. take i parts ++ x ∷ []) is ∙ sym (take_more parts i a l) in
    let drawn : next ≡ data_of value (take (i + 1) parts) =
    written ∙ data_of-more value (take i parts) a word so_far.word (subst (λ w. w < 4096) written next_fits) ∙ ap (data_of value) more in
    let Q : List ℕ → Type 0 = λ xs. IsDrawnWord value (take (i + 1) parts) before xs next in
    subst Q (sym after_is) (record {
      word = drawn;
      kept = λ n old. keeps n (so_far.kept n old);
      taken = All-more (P new) parts i a l (All-weaker (P raws) (P new) (λ x before. keeps x.sample before) (take i parts) so_far.taken)
          (subst (P new) is here);
    })

-- the raw value that the code takes for a part
pub value_taken : (value : ℕ → ℕ) (l : Laid) (slot : ℕ) (number : ℕ → ℕ) (before raws : List ℕ) (n : ℕ) (s : Sample) (raw : ℕ)
    → value_at l slot number before n ≡ value n →
    slice_get l.samples n ≡ Some s → ((m : ℕ) → slice_index before m ≡ value m → slice_index raws m ≡ value m) →
    raw ≡ (if first_part_slot s == slot then number s.param else slice_index raws n) → raw ≡ value n
value_taken value l slot number before raws n s raw is got keeps raw_is =
    let at : (if first_part_slot s == slot then number s.param else slice_index before n) ≡ value n =
    sym (ap (λ o. option_map_or (λ (s : Sample). if first_part_slot s == slot then number s.param else slice_index before n) o 0) got) ∙ is in
    raw_is ∙ ⊎_elim
    (λ holds. cond-true _ _ _ holds ∙ sym (cond-true _ _ _ holds) ∙ at)
    (λ no. cond-false _ _ _ no ∙ keeps n (sym (cond-false _ _ _ no) ∙ at))
    (cases_Bool (first_part_slot s == slot))

of_sample : (f : Sample → ℕ) (l : Laid) (n : ℕ) (list : List ℕ) (x : ℕ) (s : Sample) → slice_get l.samples n ≡ Some s → n < length l.samples
    → list ≡ map f l.samples → x ≡ get_or list n 0 → x ≡ f s
of_sample f l n list x s got below all read =
    read ∙ ap (λ xs. get_or xs n 0) all ∙ get_or-map f l.samples n s 0 below ∙ ap f (get_or_from_slice_get l.samples n s s got)

-- the first slot of one more sample
pub first_read : (l : Laid) (n : ℕ) (parts : List SlotPart) (first : ℕ) → n < length l.samples → parts ≡ parts_of_sample n (numbered_parts l n)
    → first ≡ first_at (plain_parts parts) / 12 → map first_part_slot (take n l.samples) ++ first ∷ [] ≡ map first_part_slot (take (n + 1) l.samples)
first_read l n parts first below own is =
    let s = slice_get_some l.samples n below in
    let parts_are : plain_parts parts ≡ s.0.parts =
    ap plain_parts own ∙ plain_again n (numbered_parts l n) ∙ ap (λ o. option_map_or (λ (s : Sample). s.parts) o []) s.1 in
    let first_is : first ≡ first_part_slot s.0 = is ∙ ap (λ ps. first_at ps / 12) parts_are in
    let before = take n l.samples in
    ap (λ x. map first_part_slot before ++ x ∷ []) first_is ∙ sym (map_push first_part_slot before s.0)
    ∙ ap (λ (x : Sample). map first_part_slot (before ++ x ∷ [])) (sym (get_or_from_slice_get l.samples n s.0 s.0 s.1))
    ∙ ap (map first_part_slot) (sym (take_more l.samples n s.0 below))

-- the parameter that is read is one of that many
pub param_within : (l : Laid) (n count : ℕ) (owners : List ℕ) → n < length l.samples → owners ≡ map (λ (s : Sample). s.param) l.samples
    → All (λ (s : Sample). s.param < count) l.samples → get_or owners n 0 < count
param_within l n count owners below owned each =
    let s = slice_get_some l.samples n below in
    let is : get_or owners n 0 ≡ s.0.param = of_sample (λ (x : Sample). x.param) l n owners (get_or owners n 0) s.0 s.1 below owned refl in
    let at : get_or l.samples n s.0 ≡ s.0 = get_or_from_slice_get l.samples n s.0 s.0 s.1 in
    subst (λ m. m < count) (sym is) (subst (λ (x : Sample). x.param < count) at (each n s.0 below))

-- the same, where the sample's first slot and its parameter are read under its number
pub value_read : (value : ℕ → ℕ) (l : Laid) (slot : ℕ) (number : ℕ → ℕ) (before raws : List ℕ) (n : ℕ) (firsts owners : List ℕ) (first param raw : ℕ)
    → value_at l slot number before n ≡ value n → n < length l.samples
    → firsts ≡ map first_part_slot l.samples → first ≡ get_or firsts n 0
    → owners ≡ map (λ (s : Sample). s.param) l.samples → param ≡ get_or owners n 0
    → ((m : ℕ) → slice_index before m ≡ value m → slice_index raws m ≡ value m)
    → raw ≡ (if first == slot then number param else slice_index raws n) → raw ≡ value n
value_read value l slot number before raws n firsts owners first param raw is below begun first_read owned read keeps raw_is =
    let s = slice_get_some l.samples n below in
    let first_is : first ≡ first_part_slot s.0 = of_sample first_part_slot l n firsts first s.0 s.1 below begun first_read in
    let param_is : param ≡ s.0.param = of_sample (λ (x : Sample). x.param) l n owners param s.0 s.1 below owned read in
    let P : ℕ → ℕ → Type 0 = λ f p. raw ≡ (if f == slot then number p else slice_index raws n) in
    value_taken value l slot number before raws n s.0 raw is s.1 keeps (subst (λ f. P f s.0.param) first_is (subst (P first) param_is raw_is))
