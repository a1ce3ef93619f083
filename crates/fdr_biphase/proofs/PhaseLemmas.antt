-- What a further level changes of the phases and their bits.
use Rattle.std.proofs.Common.{◌≡◌, ⊎_elim, ℕ, zero, suc, ◌+◌, ◌-◌, ◌*◌, ◌/◌, ◌%◌, ◌<◌, ◌≤◌, Bool, true, false, cond, List, [], ◌∷◌, ◌++◌, length, map}
use Rattle.std.proofs.Common.{replicate, Option, Some, None, refl, ap, ◌∙◌, arith, length-append}
use Rattle.std.specs.Prelude.{not, ◌==◌, ◌&&◌}
use Rattle.std.specs.Bool.{beq}
use Rattle.std.specs.List.{range_with_len, find}
use Rattle.std.specs.Option.{option_or}
use Rattle.std.proofs.lemmas.Bool.{cases_Bool, false_from_ne_true, eq-eqb, eqb-true, cond-true, cond-false}
use Rattle.std.proofs.lemmas.List.{get_or_append_left}
use Rattle.std.proofs.lemmas.List.FromFn.{map-range_with_len_more}
use Rattle.std.proofs.Math.Seq.{get_or-append_seam}
use Rattle.fdr_lists.proofs.Ranges.{map-range-agree}
use Rattle.fdr_biphase.specs.Cells.{level_at}
use Rattle.fdr_biphase.specs.Phases.{turns_at, fails_at, phase_bits, later_of, missing_place, chosen_bits, cell_bits}
use Rattle.fdr_biphase.proofs.Finding.{find_nothing, nothing_found, found_within, find-agree, find_more}

pub turns-append : (v more : List Bool) (p : ℕ) → p < length v → turns_at (v ++ more) p ≡ turns_at v p
turns-append v more p within =
    ap (λ b. not (beq b (level_at (v ++ more) (p - 1)))) (get_or_append_left v more false p within)
    ∙ ap (λ b. not (beq (level_at v p) b)) (get_or_append_left v more false (p - 1) (omega arith))

pub turns_last : (v : List Bool) (l : Bool) → 0 < length v → turns_at (v ++ l ∷ []) (length v) ≡ not (beq l (level_at v (length v - 1)))
turns_last v l some =
    ap (λ b. not (beq b (level_at (v ++ l ∷ []) (length v - 1)))) (get_or-append_seam v l [] false)
    ∙ ap (λ b. not (beq l b)) (get_or_append_left v (l ∷ []) false (length v - 1) (omega arith))

-- whether a phase fails at a place
pub fails_here : List Bool → ℕ → ℕ → Bool
fails_here v phase p = (p % 2 == phase) && not (turns_at v p)

other_place : (b t : Bool) → b ≡ false → (b && not t) ≡ false
other_place true t misses = absurd (cc)
other_place false t misses = refl

turned_place : (b t : Bool) → t ≡ true → (b && not t) ≡ false
turned_place true true holds = refl
turned_place false true holds = refl
turned_place b false holds = absurd (cc)

failing_place : (b t : Bool) → b ≡ true → t ≡ false → (b && not t) ≡ true
failing_place true false holds misses = refl
failing_place true true holds misses = absurd (cc)
failing_place false t holds misses = absurd (cc)

turned_from : (b t : Bool) → b ≡ true → (b && not t) ≡ false → t ≡ true
turned_from true true holds misses = refl
turned_from true false holds misses = absurd (cc)
turned_from false t holds misses = absurd (cc)

phase_from : (b t : Bool) → (b && not t) ≡ true → b ≡ true
phase_from true t holds = refl
phase_from false t holds = absurd (cc)

-- a phase fits where the level turns at each of its places
pub fits_from : (v : List Bool) (phase : ℕ) → ((p : ℕ) → 1 ≤ p → p < length v → p % 2 ≡ phase → turns_at v p ≡ true) → fails_at v phase ≡ None
unfolding fails_at
fits_from v phase turns =
    find_nothing (λ p. (p % 2 == phase) && not (turns_at v p)) 1 (length v - 1) (λ p low high.
    ⊎_elim
    (λ here. turned_place (p % 2 == phase) (turns_at v p) (turns p low (omega arith) (eqb-true (p % 2) phase here)))
    (λ other. other_place (p % 2 == phase) (turns_at v p) other)
    (cases_Bool (p % 2 == phase)))

pub turns_where_fits : (v : List Bool) (phase p : ℕ) → fails_at v phase ≡ None → 1 ≤ p → p < length v → p % 2 ≡ phase → turns_at v p ≡ true
unfolding fails_at
turns_where_fits v phase p fits low high here =
    turned_from (p % 2 == phase) (turns_at v p) (eq-eqb (p % 2) phase here)
    (nothing_found (λ p. (p % 2 == phase) && not (turns_at v p)) 1 (length v - 1) fits p low (omega arith))

-- where a phase fails first
pub fails_within : (v : List Bool) (phase m : ℕ) → fails_at v phase ≡ Some m → (1 ≤ m) × (m < length v) × (m % 2 ≡ phase)
unfolding fails_at
fails_within v phase m is =
    let h = found_within (λ p. (p % 2 == phase) && not (turns_at v p)) 1 (length v - 1) m is in
    (h.0, omega (arith, h.0, h.1), eqb-true (m % 2) phase (phase_from (m % 2 == phase) (turns_at v m) h.2))

-- a further level is looked at where the earlier ones don't fail
pub fails-push : (v : List Bool) (l : Bool) (phase : ℕ) → 0 < length v
    → fails_at (v ++ l ∷ []) phase ≡ option_or (fails_at v phase) (cond (fails_here (v ++ l ∷ []) phase (length v)) (Some (length v)) None)
unfolding fails_at fails_here
fails-push v l phase some =
    let w = v ++ l ∷ [] in
    let test : List Bool → ℕ → Bool = λ v p. (p % 2 == phase) && not (turns_at v p) in
    let more : length w - 1 ≡ length v - 1 + 1 = omega (arith, length-append v (l ∷ [])) in
    let last : 1 + (length v - 1) ≡ length v = omega arith in
    ap (λ n. find (test w) (range_with_len 1 n)) more
    ∙ find_more (test w) 1 (length v - 1)
    ∙ ap (λ o. option_or o (cond (test w (1 + (length v - 1))) (Some (1 + (length v - 1))) None))
    (find-agree (test w) (test v) 1 (length v - 1) (λ p low high. ap (λ t. (p % 2 == phase) && not t) (turns-append v (l ∷ []) p (omega arith))))
    ∙ ap (λ k. option_or (fails_at v phase) (cond (test w k) (Some k) None)) last

pub fails_kept : (v : List Bool) (l : Bool) (phase m : ℕ) → 0 < length v → fails_at v phase ≡ Some m → fails_at (v ++ l ∷ []) phase ≡ Some m
fails_kept v l phase m some is = fails-push v l phase some ∙ ap (λ o. option_or o (cond (fails_here (v ++ l ∷ []) phase (length v)) (Some (length v)) None)) is

not_here : (v : List Bool) (l : Bool) (phase : ℕ) → 0 < length v → fails_at v phase ≡ None → fails_here (v ++ l ∷ []) phase (length v) ≡ false
    → fails_at (v ++ l ∷ []) phase ≡ None
not_here v l phase some fits misses =
    fails-push v l phase some ∙ ap (λ o. option_or o (cond (fails_here (v ++ l ∷ []) phase (length v)) (Some (length v)) None)) fits
    ∙ cond-false (fails_here (v ++ l ∷ []) phase (length v)) _ _ misses

pub fits_after_turn : (v : List Bool) (l : Bool) (phase : ℕ) → 0 < length v → fails_at v phase ≡ None → turns_at (v ++ l ∷ []) (length v) ≡ true
    → fails_at (v ++ l ∷ []) phase ≡ None
unfolding fails_here
fits_after_turn v l phase some fits turns = not_here v l phase some fits (turned_place (length v % 2 == phase) _ turns)

pub fits_in_cell : (v : List Bool) (l : Bool) (phase : ℕ) → 0 < length v → fails_at v phase ≡ None → (length v % 2 ≡ phase → ⊥)
    → fails_at (v ++ l ∷ []) phase ≡ None
unfolding fails_here
fits_in_cell v l phase some fits other =
    let elsewhere : (length v % 2 == phase) ≡ false = false_from_ne_true (length v % 2 == phase) (λ holds. other (eqb-true (length v % 2) phase holds)) in
    not_here v l phase some fits (other_place (length v % 2 == phase) _ elsewhere)

pub fails_now : (v : List Bool) (l : Bool) (phase : ℕ) → 0 < length v → fails_at v phase ≡ None → length v % 2 ≡ phase
    → turns_at (v ++ l ∷ []) (length v) ≡ false → fails_at (v ++ l ∷ []) phase ≡ Some (length v)
unfolding fails_here
fails_now v l phase some fits here misses =
    let w = v ++ l ∷ [] in
    fails-push v l phase some ∙ ap (λ o. option_or o (cond (fails_here w phase (length v)) (Some (length v)) None)) fits
    ∙ cond-true (fails_here w phase (length v)) _ _ (failing_place (length v % 2 == phase) (turns_at w (length v)) (eq-eqb (length v % 2) phase here) misses)

-- the bits of a phase stay where a cell begins
pub bits_stay : (v : List Bool) (l : Bool) (phase : ℕ) → phase ≤ length v → (length v - phase) % 2 ≡ 0 → phase_bits (v ++ l ∷ []) phase ≡ phase_bits v phase
unfolding phase_bits
bits_stay v l phase some even =
    let w = v ++ l ∷ [] in
    let same : (length w - phase) / 2 ≡ (length v - phase) / 2 = omega (arith, length-append v (l ∷ [])) in
    ap (λ n. map (λ i. turns_at w (2 * i + phase + 1)) (range_with_len 0 n)) same
    ∙ map-range-agree (λ i. turns_at w (2 * i + phase + 1)) (λ i. turns_at v (2 * i + phase + 1)) 0 ((length v - phase) / 2)
    (λ i low high. turns-append v (l ∷ []) (2 * i + phase + 1) (omega arith))

-- and one comes where a cell is whole
pub bits_more : (v : List Bool) (l : Bool) (phase : ℕ) → phase ≤ length v → (length v - phase) % 2 ≡ 1
    → phase_bits (v ++ l ∷ []) phase ≡ phase_bits v phase ++ turns_at (v ++ l ∷ []) (length v) ∷ []
unfolding phase_bits
bits_more v l phase some odd =
    let w = v ++ l ∷ [] in
    let n = (length v - phase) / 2 in
    let more : (length w - phase) / 2 ≡ n + 1 = omega (arith, length-append v (l ∷ [])) in
    let last : 2 * n + phase + 1 ≡ length v = omega arith in
    ap (λ n. map (λ i. turns_at w (2 * i + phase + 1)) (range_with_len 0 n)) more
    ∙ map-range_with_len_more (λ i. turns_at w (2 * i + phase + 1)) 0 n n (omega arith)
    ∙ ap (λ bits. bits ++ turns_at w (2 * n + phase + 1) ∷ [])
    (map-range-agree (λ i. turns_at w (2 * i + phase + 1)) (λ i. turns_at v (2 * i + phase + 1)) 0 n
    (λ i low high. turns-append v (l ∷ []) (2 * i + phase + 1) (omega arith)))
    ∙ ap (λ p. phase_bits v phase ++ turns_at w p ∷ []) last

-- the same element of each number
same_of_each : (x : Bool) (a n : ℕ) → map (λ (i : ℕ). x) (range_with_len a n) ≡ replicate n x
same_of_each x a zero = refl
same_of_each x a (suc n) = ap (λ xs. x ∷ xs) (same_of_each x (a + 1) n)

-- bits that are all 1
pub all_ones : (v : List Bool) (phase : ℕ) → ((i : ℕ) → i < (length v - phase) / 2 → turns_at v (2 * i + phase + 1) ≡ true)
    → phase_bits v phase ≡ replicate ((length v - phase) / 2) true
unfolding phase_bits
all_ones v phase turns =
    map-range-agree (λ i. turns_at v (2 * i + phase + 1)) (λ (i : ℕ). true) 0 ((length v - phase) / 2) (λ i low high. turns i (omega arith))
    ∙ same_of_each true 0 ((length v - phase) / 2)

-- where both phases fit, all bits are 1
pub ones_of_even : (v : List Bool) → fails_at v 0 ≡ None → fails_at v 1 ≡ None → phase_bits v 0 ≡ replicate (length v / 2) true
ones_of_even v even odd =
    all_ones v 0 (λ i within. turns_where_fits v 1 (2 * i + 0 + 1) odd (omega arith) (omega arith) (omega arith))
    ∙ ap (λ n. replicate (n / 2) true) (omega arith)

pub ones_of_odd : (v : List Bool) → fails_at v 0 ≡ None → fails_at v 1 ≡ None → phase_bits v 1 ≡ replicate ((length v - 1) / 2) true
ones_of_odd v even odd =
    all_ones v 1 (λ i within. turns_where_fits v 0 (2 * i + 1 + 1) even (omega arith) (omega arith) (omega arith))

-- the bits of the phase that is chosen
pub bits_of_even : (v : List Bool) → fails_at v 0 ≡ None → cell_bits v ≡ phase_bits v 0
unfolding cell_bits
bits_of_even v even = ap (λ o. chosen_bits v o (fails_at v 1)) even

pub bits_of_odd : (v : List Bool) (a : ℕ) → fails_at v 0 ≡ Some a → fails_at v 1 ≡ None → cell_bits v ≡ phase_bits v 1
unfolding cell_bits
bits_of_odd v a even odd = ap (λ o. chosen_bits v o (fails_at v 1)) even ∙ ap (chosen_bits v (Some a)) odd

later_of_none : (o : Option ℕ) → later_of o None ≡ None
later_of_none None = refl
later_of_none (Some a) = refl

pub none_missing_even : (v : List Bool) → fails_at v 0 ≡ None → missing_place v ≡ None
unfolding missing_place
none_missing_even v even = ap (λ o. later_of o (fails_at v 1)) even

pub none_missing_odd : (v : List Bool) → fails_at v 1 ≡ None → missing_place v ≡ None
unfolding missing_place
none_missing_odd v odd = ap (later_of (fails_at v 0)) odd ∙ later_of_none (fails_at v 0)
