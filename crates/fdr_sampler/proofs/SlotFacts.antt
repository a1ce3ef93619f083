-- The parts in a slot of the superframe, and the samples that they belong to.
use Rattle.std.proofs.Common.{◌≡◌, ℕ, ◌*◌, ◌/◌, ◌<◌, ◌≤◌, ◌⊎◌, inl, inr, ⊎_elim, min, true, ◌==◌, List, [], ◌∷◌, Some, length, refl, sym, ap, ◌∙◌, eqb-true}
use Rattle.std.proofs.Common.{arith}
use Rattle.std.specs.List.{All, Contains, range_with_len, enumerate_from, slice_get}
use Rattle.std.proofs.lemmas.Bool.{cases_lt, eq-eqb}
use Rattle.std.proofs.lemmas.List.Elements.{All-map, All-weaker, filter_passes, All-contains}
use Rattle.fdr_table.specs.Rows.{TableRows}
use Rattle.fdr_layout.specs.SlotParts.{SlotPart, parts_of_sample, parts_among, parts_at, parts_of_slot, parts_in}
use Rattle.fdr_layout.specs.Samples.{Part, Sample, samples, earliest_of, first_at}
use Rattle.fdr_layout.proofs.Endings.{first_at_low}
use Rattle.fdr_layout.proofs.SlotLemmas.{parts_of_slot_hold}
use Rattle.fdr_sampler.specs.Held.{first_part_slot}
use Rattle.fdr_sampler.proofs.Lists.{Contains-there, Contains-map, Contains-filter, Contains-flat_map, Contains-range, Contains-enumerate}
use Rattle.fdr_lists.proofs.Numbered.{numbered_stand}
use Rattle.fdr_lists.proofs.Pairs.{Contains-here}
use Rattle.fdr_lists.proofs.Pieces.{All-flat_map, All-flat_map-range}

-- the part is one of a sample that has this number among the samples
pub record IsOfSample (samples : List Sample) (a : SlotPart) : Type 0 where
  pub sample : Sample
  pub numbered : slice_get samples a.sample ≡ Some sample
  pub some : 0 < length sample.parts
  pub first : first_at sample.parts ≤ a.part.at

parts_among_of : (samples : List Sample) → All (IsOfSample samples) (parts_among samples)
unfolding parts_among
parts_among_of samples =
    let made : ℕ → Part → SlotPart = λ n p. record { sample = n; part = p } in
    All-flat_map (IsOfSample samples) (λ (e : ℕ × Sample). parts_of_sample e.0 e.1.parts) (enumerate_from 0 samples)
    (All-weaker (λ (e : ℕ × Sample). slice_get samples e.0 ≡ Some e.1) (λ (e : ℕ × Sample). All (IsOfSample samples) (parts_of_sample e.0 e.1.parts))
    (λ e stands. All-map (IsOfSample samples) (made e.0) e.1.parts
    (λ k d l. record { sample = e.1; numbered = stands; some = omega arith; first = first_at_low e.1.parts k d l }))
    (enumerate_from 0 samples) (numbered_stand samples))

pub parts_in_of : (t : TableRows) (k : ℕ) → All (IsOfSample (samples t)) (parts_in t k)
parts_in_of t k = parts_of_slot_hold (IsOfSample (samples t)) (parts_among (samples t)) k (parts_among_of (samples t))

pub parts_of_slot_in : (parts : List SlotPart) (k : ℕ) → All (λ (a : SlotPart). a.part.at / 12 ≡ k) (parts_of_slot parts k)
unfolding parts_of_slot
parts_of_slot_in parts k =
    All-flat_map-range (λ (a : SlotPart). a.part.at / 12 ≡ k) (parts_at parts) (12 * k) 12
    (λ x low high. All-weaker (λ (a : SlotPart). (a.part.at == x) ≡ true) (λ (a : SlotPart). a.part.at / 12 ≡ k)
    (λ a at. let is : a.part.at ≡ x = eqb-true a.part.at x at in let in' : x / 12 ≡ k = omega arith in ap (λ y. y / 12) is ∙ in') (parts_at parts x)
    (filter_passes (λ (a : SlotPart). a.part.at == x) parts))

-- ---- each sample with a part has one in its first slot

Earliest : ℕ → List Part → Type 0
Earliest at parts = (earliest_of at parts ≡ at) ⊎ ((p : Part) × Contains parts p × (p.at ≡ earliest_of at parts))

min_is : (a b : ℕ) → (min a b ≡ a) ⊎ (min a b ≡ b)
min_is a b = ⊎_elim (λ lt. inl (omega arith)) (λ ge. inr (omega arith)) (cases_lt a b)

earliest_stands : (at : ℕ) (parts : List Part) → Earliest at parts
unfolding Earliest
earliest_stands at [] = inl refl
earliest_stands at (q ∷ parts) =
    ⊎_elim
    (λ (none : earliest_of (min at q.at) parts ≡ min at q.at).
    ⊎_elim (λ (old : min at q.at ≡ at). inl (none ∙ old)) (λ (new : min at q.at ≡ q.at). inr (q, Contains-here q parts, sym (none ∙ new))) (min_is at q.at))
    (λ (found : (p : Part) × Contains parts p × (p.at ≡ earliest_of (min at q.at) parts)). inr (found.0, Contains-there found.0 q parts found.1, found.2))
    (earliest_stands (min at q.at) parts)

first_stands : (parts : List Part) → 0 < length parts → (p : Part) × Contains parts p × (p.at ≡ first_at parts)
unfolding first_at Earliest
first_stands [] some = absurd (omega arith)
first_stands (q ∷ parts) some =
    ⊎_elim
    (λ (none : earliest_of q.at parts ≡ q.at). (q, Contains-here q parts, sym none))
    (λ (found : (p : Part) × Contains parts p × (p.at ≡ earliest_of q.at parts)). (found.0, Contains-there found.0 q parts found.1, found.2))
    (earliest_stands q.at parts)

parts_among_contain : (samples : List Sample) (n : ℕ) (s : Sample) (p : Part) → slice_get samples n ≡ Some s → Contains s.parts p
    → Contains (parts_among samples) (record { sample = n; part = p })
unfolding parts_among
parts_among_contain samples n s p got here =
    let made : Part → SlotPart = λ p. record { sample = n; part = p } in
    Contains-flat_map (λ (e : ℕ × Sample). parts_of_sample e.0 e.1.parts) (enumerate_from 0 samples) (n, s) (made p) (Contains-enumerate samples n s got)
    (Contains-map made s.parts p here)

parts_of_slot_contain : (parts : List SlotPart) (k : ℕ) (a : SlotPart) → a.part.at / 12 ≡ k → Contains parts a → Contains (parts_of_slot parts k) a
unfolding parts_of_slot
parts_of_slot_contain parts k a at here =
    Contains-flat_map (parts_at parts) (range_with_len (12 * k) 12) a.part.at a (Contains-range (12 * k) 12 a.part.at (omega arith) (omega arith))
    (Contains-filter (λ (b : SlotPart). b.part.at == a.part.at) parts a (eq-eqb a.part.at a.part.at refl) here)

-- what holds of each sample with a part in a slot holds of those that begin there
pub beginning_holds : (t : TableRows) (k : ℕ) (Q : ℕ → Type 0) (n : ℕ) (s : Sample) → All (λ (a : SlotPart). Q a.sample) (parts_in t k)
    → slice_get (samples t) n ≡ Some s → 0 < length s.parts → first_part_slot s ≡ k → Q n
beginning_holds t k Q n s all got some begins =
    let p = first_stands s.parts some in
    let a : SlotPart = record { sample = n; part = p.0 } in
    let at : p.0.at / 12 ≡ k = ap (λ x. x / 12) p.2 ∙ begins in
    All-contains (λ (a : SlotPart). Q a.sample) (parts_in t k) a all
    (parts_of_slot_contain (parts_among (samples t)) k a at (parts_among_contain (samples t) n s p.0 got p.1))
