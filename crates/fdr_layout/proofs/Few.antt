-- How many samples a sound table has: no more than parts, and no fewer than parameters.
use Rattle.std.proofs.Common.{◌≡◌, ℕ, ◌+◌, ◌*◌, ◌<◌, ◌≤◌, ◌==◌, ◌&&◌, Bool, true, false, cond, List, [], ◌∷◌, Some, length, refl, subst, ◌∙◌}
use Rattle.std.proofs.Common.{zero, suc, eqb-true, arith}
use Rattle.std.specs.List.{All, range_with_len, enumerate_from, filter, flat_map, sum_by, slice_get}
use Rattle.std.proofs.lemmas.List.Concat.{length-flat_map}
use Rattle.std.proofs.lemmas.List.Elements.{All-head, All-tail}
use Rattle.std.proofs.lemmas.List.FromFn.{length-map-range_with_len}
use Rattle.std.proofs.lemmas.List.Sums.{sum_by-cons, sum_by-le-sum_by, length-filter}
use Rattle.fdr_table.specs.Rows.{ParamRow, PlaceRow, TableRows}
use Rattle.fdr_table.specs.Ranges.{IsParamInRange, IsInRange}
use Rattle.fdr_check.specs.Occurrences.{frame_bits, is_part, occurrences, part_occurrences}
use Rattle.fdr_check.specs.Soundness.{IsSound, most_superframe_parts}
use Rattle.fdr_check.specs.Walks.{starts_of}
use Rattle.fdr_check.proofs.Counting.{sum_turned, length_occurrences}
use Rattle.fdr_check.proofs.Sounding.{from_index}
use Rattle.fdr_layout.specs.Samples.{Sample, last_at, parts_of, samples_of, samples}
use Rattle.fdr_layout.proofs.ByLastPart.{ending_at, ending_among}
use Rattle.fdr_lists.proofs.Sums.{sum_by_same, sum_by-filter}

-- ---- of a cycle

-- a number is at most one of those of a range, and none of those above it
one_of : (k a n : ℕ) (b : Bool) → (k == a) ≡ b → (sum_by (λ x. cond {A = ℕ} (k == x) 1 0) (range_with_len (a + 1) n) ≤ 1)
    × (k < a + 1 → sum_by (λ x. cond {A = ℕ} (k == x) 1 0) (range_with_len (a + 1) n) ≡ 0) →
    (cond {A = ℕ} b 1 0 + sum_by (λ x. cond {A = ℕ} (k == x) 1 0) (range_with_len (a + 1) n) ≤ 1)
    × (k < a → cond {A = ℕ} b 1 0 + sum_by (λ x. cond {A = ℕ} (k == x) 1 0) (range_with_len (a + 1) n) ≡ 0)
one_of k a n true e later =
    let same = eqb-true k a e in
    let none = later.1 (omega (arith, same)) in
    (omega (arith, none), λ below. absurd (omega (arith, same, below)))
one_of k a n false e later =
    (omega (arith, later.0), λ below. let none = later.1 (omega (arith, below)) in omega (arith, none))

at_most_one : (k a n : ℕ) → (sum_by (λ x. cond {A = ℕ} (k == x) 1 0) (range_with_len a n) ≤ 1)
    × (k < a → sum_by (λ x. cond {A = ℕ} (k == x) 1 0) (range_with_len a n) ≡ 0)
at_most_one k a zero = (omega arith, λ below. refl)
at_most_one k a (suc n) =
    let both = one_of k a n (k == a) refl (at_most_one k (a + 1) n) in
    let all = sum_by-cons (λ x. cond {A = ℕ} (k == x) 1 0) a (range_with_len (a + 1) n) in
    (omega (arith, both.0, all), λ below. let none = both.1 below in omega (arith, none, all))

sum_few : {X : Type 0} (f : X → ℕ) (xs : List X) → ((x : X) → f x ≤ 1) → sum_by f xs ≤ length xs
sum_few f [] each = omega arith
sum_few f (x ∷ xs) each = omega (arith, each x, sum_few f xs each, sum_by-cons f x xs)

-- no more samples end in a cycle than there are
pub ending_few : (w : ℕ) (all : List Sample) (cycle : ℕ) → length (ending_among w all cycle) ≤ length all
unfolding ending_among
ending_few w all cycle =
    let bits = range_with_len (frame_bits w * cycle) (frame_bits w) in
    let ends : ℕ → Sample → ℕ = λ x s. cond {A = ℕ} (last_at s.parts == x) 1 0 in
    let counted : length (flat_map (ending_at all) bits) ≡ sum_by (λ x. sum_by (ends x) all) bits =
    length-flat_map (ending_at all) bits ∙ sum_by_same (λ x. length (ending_at all x)) (λ x. sum_by (ends x) all) bits
    (λ x. length-filter (λ (s : Sample). last_at s.parts == x) all) in
    omega (
      arith,
      counted,
      sum_turned ends bits all,
      sum_few (λ (s : Sample). sum_by (λ x. ends x s) bits) all (λ s. (at_most_one (last_at s.parts) (frame_bits w * cycle) (frame_bits w)).0),
    )

-- ---- of a table

sum_le : {X : Type 0} (f g : X → ℕ) (xs : List X) → All (λ x. f x ≤ g x) xs → sum_by f xs ≤ sum_by g xs
sum_le f g [] each = omega arith
sum_le f g (x ∷ xs) each =
    omega (arith, All-head (λ x. f x ≤ g x) x xs each, sum_le f g xs (All-tail (λ x. f x ≤ g x) x xs each), sum_by-cons f x xs, sum_by-cons g x xs)

-- how often a place occurs as the first part of one of these parameters
abbrev first_part : ℕ → PlaceRow → ℕ × ParamRow → ℕ
first_part w p e = cond (is_part e.0 1 p) (starts_of w p) 0

chosen_le : (b : Bool) (n : ℕ) → cond b n 0 ≤ n
chosen_le true n = omega arith
chosen_le false n = omega arith

owner_of : (w a : ℕ) (p : PlaceRow) (ps : List ParamRow) (b : Bool) → (p.param == a) ≡ b
    → (sum_by (first_part w p) (enumerate_from (a + 1) ps) ≤ starts_of w p) × (p.param < a + 1 → sum_by (first_part w p) (enumerate_from (a + 1) ps) ≡ 0) →
    (cond (b && (p.part == 1)) (starts_of w p) 0 + sum_by (first_part w p) (enumerate_from (a + 1) ps) ≤ starts_of w p)
    × (p.param < a → cond (b && (p.part == 1)) (starts_of w p) 0 + sum_by (first_part w p) (enumerate_from (a + 1) ps) ≡ 0)
owner_of w a p ps true e later =
    let same = eqb-true p.param a e in
    let none = later.1 (omega (arith, same)) in
    (omega (arith, none, chosen_le (p.part == 1) (starts_of w p)), λ below. absurd (omega (arith, same, below)))
owner_of w a p ps false e later =
    (omega (arith, later.0), λ below. let none = later.1 (omega (arith, below)) in omega (arith, none))

one_owner : (w a : ℕ) (p : PlaceRow) (ps : List ParamRow)
    → (sum_by (first_part w p) (enumerate_from a ps) ≤ starts_of w p) × (p.param < a → sum_by (first_part w p) (enumerate_from a ps) ≡ 0)
one_owner w a p [] = (omega arith, λ below. refl)
one_owner w a p (x ∷ ps) =
    let both = owner_of w a p ps (p.param == a) refl (one_owner w (a + 1) p ps) in
    let all = sum_by-cons (first_part w p) (a, x) (enumerate_from (a + 1) ps) in
    (omega (arith, both.0, all), λ below. let none = both.1 below in omega (arith, none, all))

-- the first parts of all parameters occur no more often than all places
first_parts_few : (w : ℕ) (places : List PlaceRow) (params : List ParamRow)
    → sum_by (λ (e : ℕ × ParamRow). length (part_occurrences w places e.0 1)) (enumerate_from 0 params) ≤ length (occurrences w places)
unfolding part_occurrences
first_parts_few w places params =
    let es = enumerate_from 0 params in
    let occurs_of : ℕ × ParamRow → PlaceRow → ℕ = λ e p. first_part w p e in
    let counted = sum_by_same (λ (e : ℕ × ParamRow). length (occurrences w (filter (is_part e.0 1) places))) (λ (e : ℕ × ParamRow). sum_by (occurs_of e) places)
    es
    (λ e. length_occurrences w (filter (is_part e.0 1) places) ∙ sum_by-filter (starts_of w) (is_part e.0 1) places) in
    omega (
      arith,
      counted,
      sum_turned occurs_of es places,
      length_occurrences w places,
      sum_by-le-sum_by (λ (p : PlaceRow). sum_by (first_part w p) es) (starts_of w) places (λ p. (one_owner w 0 p params).0),
    )

pub length_samples_of : (w : ℕ) (places : List PlaceRow) (n rate : ℕ) → length (samples_of w places n rate) ≡ rate
unfolding samples_of
length_samples_of w places n rate = length-map-range_with_len (λ i. record { param = n; index = i; parts = parts_of w places n i }) 0 rate

length_samples : (t : TableRows) → length (samples t) ≡ sum_by (λ (e : ℕ × ParamRow). e.1.rate) (enumerate_from 0 t.params)
unfolding samples
length_samples t =
    length-flat_map (λ (e : ℕ × ParamRow). samples_of t.frame.words t.places e.0 e.1.rate) (enumerate_from 0 t.params)
    ∙ sum_by_same (λ (e : ℕ × ParamRow). length (samples_of t.frame.words t.places e.0 e.1.rate)) (λ (e : ℕ × ParamRow). e.1.rate) (enumerate_from 0 t.params)
    (λ e. length_samples_of t.frame.words t.places e.0 e.1.rate)

-- a sound table has no more samples than parts
pub samples_few : (t : TableRows) → IsSound t → length (samples t) ≤ 262144
unfolding most_superframe_parts
samples_few t sound =
    let w = t.frame.words in
    let P : ℕ × ParamRow → Type 0 = λ e. e.1.rate ≤ length (part_occurrences w t.places e.0 1) in
    let each : (n : ℕ) (p : ParamRow) → slice_get t.params n ≡ Some p → P (0 + n, p) = λ n p at.
    let parts = sound.parts n p at in
    let first = sound.rates n p at 1 (parts.none_missing 1 (omega arith) parts.not_empty) in
    let k : n ≡ 0 + n = omega arith in
    let here : P (n, p) = omega (arith, first) in
    subst (λ j. P (j, p)) k here in
    omega (
      arith,
      length_samples t,
      sound.within_superframe,
      first_parts_few w t.places t.params,
      sum_le (λ (e : ℕ × ParamRow). e.1.rate) (λ (e : ℕ × ParamRow). length (part_occurrences w t.places e.0 1)) (enumerate_from 0 t.params)
          (from_index P 0 t.params each),
    )

rated : (a : ℕ) (ps : List ParamRow) → All IsParamInRange ps → length ps ≤ sum_by (λ (e : ℕ × ParamRow). e.1.rate) (enumerate_from a ps)
rated a [] in_range = omega arith
rated a (p ∷ ps) in_range =
    let own = All-head IsParamInRange p ps in_range in
    omega (
      arith,
      own.rate_low,
      rated (a + 1) ps (All-tail IsParamInRange p ps in_range),
      sum_by-cons (λ (e : ℕ × ParamRow). e.1.rate) (a, p) (enumerate_from (a + 1) ps),
    )

-- each parameter has a sample
pub params_few : (t : TableRows) → IsInRange t → length t.params ≤ length (samples t)
params_few t in_range = omega (arith, length_samples t, rated 0 t.params in_range.params)
