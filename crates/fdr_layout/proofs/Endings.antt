-- What a layout says of a cycle.
use Rattle.std.proofs.Common.{eqb-true, ◌≡◌, ℕ, ◌+◌, ◌*◌, ◌/◌, ◌<◌, ◌≤◌, max, min, true, ◌==◌, List, [], ◌∷◌, length, ap, ◌∙◌, arith}
use Rattle.std.specs.List.{All, range_with_len, fold, enumerate_from}
use Rattle.std.proofs.lemmas.List.Elements.{All-nil, All-cons, All-head, All-map, All-weaker, filter_passes}
use Rattle.std.proofs.lemmas.Nat.{le-div}
use Rattle.std.proofs.Math.Nat.{div-lt_iff_lt-mul, div-mul-le_self}
use Rattle.fdr_lists.proofs.Pieces.{All-flat_map, All-flat_map-range}
use Rattle.fdr_table.specs.Rows.{ParamRow, PlaceRow, TableRows}
use Rattle.fdr_check.specs.Occurrences.{frame_bits, cycle_of}
use Rattle.fdr_layout.specs.Samples.{Part, earliest_of, first_at, last_at, Sample, parts_of, samples_of, samples, ending_in}
use Rattle.fdr_layout.proofs.ByLastPart.{ending_at, ending_among}
use Rattle.fdr_layout.proofs.Ending.{EndsIn}

-- ---- the earliest and the last part

latest_bounds : (at : ℕ) (parts : List Part) → (at ≤ fold (λ a (q : Part). max a q.at) at parts)
    × All (λ (q : Part). q.at ≤ fold (λ a (q : Part). max a q.at) at parts) parts
latest_bounds at [] = (omega arith, All-nil (λ (q : Part). q.at ≤ at))
latest_bounds at (p ∷ parts) =
    let rest = latest_bounds (max at p.at) parts in
    let high : p.at ≤ fold (λ a (q : Part). max a q.at) (max at p.at) parts = omega (arith, rest.0) in
    (omega (arith, rest.0), All-cons (λ (q : Part). q.at ≤ fold (λ a (q : Part). max a q.at) (max at p.at) parts) p parts high rest.1)

earliest_bounds : (at : ℕ) (parts : List Part) → (earliest_of at parts ≤ at) × All (λ (q : Part). earliest_of at parts ≤ q.at) parts
earliest_bounds at [] = (omega arith, All-nil (λ (q : Part). at ≤ q.at))
earliest_bounds at (p ∷ parts) =
    let rest = earliest_bounds (min at p.at) parts in
    let low : earliest_of (min at p.at) parts ≤ p.at = omega (arith, rest.0) in
    (omega (arith, rest.0), All-cons (λ (q : Part). earliest_of (min at p.at) parts ≤ q.at) p parts low rest.1)

pub first_at_low : (parts : List Part) → All (λ (q : Part). first_at parts ≤ q.at) parts
unfolding first_at
first_at_low [] = All-nil (λ (q : Part). 0 ≤ q.at)
first_at_low (p ∷ parts) =
    let bounds = earliest_bounds p.at parts in
    All-cons (λ (q : Part). earliest_of p.at parts ≤ q.at) p parts bounds.0 bounds.1

pub last_at_high : (parts : List Part) → All (λ (q : Part). q.at ≤ last_at parts) parts
unfolding last_at
last_at_high parts = (latest_bounds 0 parts).1

first_of_none : first_at [] ≤ last_at []
unfolding first_at last_at
first_of_none = omega arith

pub first_at_le_last_at : (parts : List Part) → first_at parts ≤ last_at parts
first_at_le_last_at [] = first_of_none
first_at_le_last_at (p ∷ parts) =
    let low = All-head (λ (q : Part). first_at (p ∷ parts) ≤ q.at) p parts (first_at_low (p ∷ parts)) in
    let high = All-head (λ (q : Part). q.at ≤ last_at (p ∷ parts)) p parts (last_at_high (p ∷ parts)) in
    let both : first_at (p ∷ parts) ≤ last_at (p ∷ parts) = omega (arith, low, high) in
    both

-- ---- cycles

quotient_le : (k a b : ℕ) → 0 < k → a ≤ b → a / k ≤ b / k
quotient_le k a b some le = le-div (a / k) b k some (omega (arith, div-mul-le_self a k))

pub quotient_is : (k c x : ℕ) → 0 < k → k * c ≤ x → x < k * c + k → x / k ≡ c
quotient_is k c x some low high =
    let from : c ≤ x / k = le-div c x k some (omega arith) in
    let below : x < (c + 1) * k = omega arith in
    let to : x / k < c + 1 = (div-lt_iff_lt-mul some).1 below in
    omega arith

pub cycle_of_le : (w a b : ℕ) → 0 < w → a ≤ b → cycle_of w a ≤ cycle_of w b
cycle_of_le w a b some le = quotient_le (frame_bits w) a b (omega arith) le

-- ---- the samples of a cycle

ends_in : (w cycle x : ℕ) (s : Sample) → 0 < w → frame_bits w * cycle ≤ x → x < frame_bits w * cycle + frame_bits w → last_at s.parts ≡ x → EndsIn w cycle s
ends_in w cycle x s some low high at =
    let last : cycle_of w (last_at s.parts) ≡ cycle = ap (cycle_of w) at ∙ quotient_is (frame_bits w) cycle x (omega arith) low high in
    record {
      last = last;
      first = omega (arith, last, cycle_of_le w (first_at s.parts) (last_at s.parts) some (first_at_le_last_at s.parts));
      low = All-weaker (λ (q : Part). first_at s.parts ≤ q.at) (λ (q : Part). cycle_of w (first_at s.parts) ≤ cycle_of w q.at)
          (λ q le. cycle_of_le w (first_at s.parts) q.at some le) s.parts (first_at_low s.parts);
      high = All-weaker (λ (q : Part). q.at ≤ last_at s.parts) (λ (q : Part). cycle_of w q.at ≤ cycle)
          (λ q le. omega (arith, last, cycle_of_le w q.at (last_at s.parts) some le)) s.parts (last_at_high s.parts);
    }

pub ending_among_ends : (w : ℕ) (all : List Sample) (cycle : ℕ) → 0 < w → All (EndsIn w cycle) (ending_among w all cycle)
unfolding ending_among
ending_among_ends w all cycle some =
    All-flat_map-range (EndsIn w cycle) (ending_at all) (frame_bits w * cycle) (frame_bits w)
    (λ x low high. All-weaker (λ (s : Sample). (last_at s.parts == x) ≡ true) (EndsIn w cycle)
    (λ s test. ends_in w cycle x s some low high (eqb-true (last_at s.parts) x test)) (ending_at all x)
    (filter_passes (λ (s : Sample). last_at s.parts == x) all))

-- each sample that ends in a cycle has its parts there and in the cycles before, back to that of the earliest
pub ending_in_ends : (t : TableRows) (cycle : ℕ) → 0 < t.frame.words → All (EndsIn t.frame.words cycle) (ending_in t cycle)
unfolding ending_in ending_among
ending_in_ends t cycle some = ending_among_ends t.frame.words (samples t) cycle some

-- ---- the parameters of samples

pub numbered_below : {X : Type 0} (n m : ℕ) (xs : List X) → n + length xs ≤ m → All (λ (e : ℕ × X). e.0 < m) (enumerate_from n xs)
numbered_below {X} n m [] within = All-nil (λ (e : ℕ × X). e.0 < m)
numbered_below {X} n m (x ∷ xs) within =
    All-cons (λ (e : ℕ × X). e.0 < m) (n, x) (enumerate_from (n + 1) xs) (omega arith) (numbered_below (n + 1) m xs (omega arith))

samples_of_param : (w : ℕ) (places : List PlaceRow) (n rate m : ℕ) → n < m → All (λ (s : Sample). s.param < m) (samples_of w places n rate)
unfolding samples_of
samples_of_param w places n rate m below =
    All-map (λ (s : Sample). s.param < m) (λ i. record { param = n; index = i; parts = parts_of w places n i }) (range_with_len 0 rate) (λ k d h. below)

pub samples_params : (t : TableRows) → All (λ (s : Sample). s.param < length t.params) (samples t)
unfolding samples
samples_params t =
    let P : Sample → Type 0 = λ s. s.param < length t.params in
    All-flat_map P (λ (e : ℕ × ParamRow). samples_of t.frame.words t.places e.0 e.1.rate) (enumerate_from 0 t.params)
    (All-weaker (λ (e : ℕ × ParamRow). e.0 < length t.params) (λ (e : ℕ × ParamRow). All P (samples_of t.frame.words t.places e.0 e.1.rate))
    (λ e below. samples_of_param t.frame.words t.places e.0 e.1.rate (length t.params) below) (enumerate_from 0 t.params)
    (numbered_below 0 (length t.params) t.params (omega arith)))
