-- The cells of bits from any place on.
use Rattle.std.proofs.Common.{◌≡◌, ◌⊎◌, ⊎_elim, inl, inr, ℕ, zero, suc, ◌+◌, ◌-◌, ◌*◌, ◌/◌, ◌%◌, ◌<◌, ◌≤◌, Bool, true, false, List, [], ◌∷◌, ◌++◌}
use Rattle.std.proofs.Common.{length, get_or, drop, map, replicate, None, refl, sym, ap, ◌∙◌, arith, append_assoc, length-append}
use Rattle.std.specs.Prelude.{not}
use Rattle.std.specs.Prelude.{eqb}
use Rattle.std.specs.Bool.{beq}
use Rattle.std.proofs.lemmas.Bool.{cases_Bool, eqb-true, eqb-false}
use Rattle.std.specs.List.{range_with_len, All}
use Rattle.std.proofs.lemmas.List.{get_or-drop, length-drop, get_or-append-add}
use Rattle.fdr_lists.proofs.Ranges.{map-range-agree}
use Rattle.fdr_lists.proofs.Options.{some_or_none}
use Rattle.fdr_biphase.specs.Cells.{level_at, level_before, cells_of}
use Rattle.fdr_biphase.specs.Phases.{turns_at, fails_at, phase_bits, missing_place, cell_bits}
use Rattle.fdr_biphase.proofs.CellLemmas.{length-cells, cell_begins, cell_turns}
use Rattle.fdr_biphase.proofs.PhaseLemmas.{fits_from, ones_of_even, ones_of_odd, bits_of_even, bits_of_odd, none_missing_even, none_missing_odd}

turns_from_other : (a b : Bool) → a ≡ not b → not (beq a b) ≡ true
turns_from_other true true is = absurd (cc)
turns_from_other true false is = refl
turns_from_other false true is = refl
turns_from_other false false is = absurd (cc)

level_before_later : (first : Bool) (v : List Bool) (p : ℕ) → 1 ≤ p → level_before first v p ≡ level_at v (p - 1)
level_before_later first v zero later = absurd (omega arith)
level_before_later first v (suc p) later = let e : suc p - 1 ≡ p = omega arith in rw e refl

-- the level turns where a cell begins, other than the first
begin_turns : (first : Bool) (bits : List Bool) (i p : ℕ) → p ≡ 2 * i → 1 ≤ i → i < length bits → turns_at (cells_of first bits) p ≡ true
begin_turns first bits i p at later within =
    let v = cells_of first bits in
    ap (turns_at v) at
    ∙ turns_from_other (level_at v (2 * i)) (level_at v (2 * i - 1))
    (cell_begins first bits i within ∙ ap not (level_before_later first v (2 * i) (omega arith)))

-- and in the middle of a cell as its bit says
middle_turns : (first : Bool) (bits : List Bool) (i p : ℕ) → p ≡ 2 * i + 1 → i < length bits → turns_at (cells_of first bits) p ≡ get_or bits i false
middle_turns first bits i p at within =
    let v = cells_of first bits in
    let before : 2 * i + 1 - 1 ≡ 2 * i = omega arith in
    ap (turns_at v) at ∙ ap (λ k. not (beq (level_at v (2 * i + 1)) (level_at v k))) before ∙ cell_turns first bits i within

turns-drop : (n : ℕ) (v : List Bool) (p q : ℕ) → 1 ≤ p → q ≡ n + p → turns_at (drop n v) p ≡ turns_at v q
turns-drop n v p q later at =
    let before : n + (p - 1) ≡ q - 1 = omega arith in
    ap (λ b. not (beq b (level_at (drop n v) (p - 1)))) (get_or-drop n v p false ∙ ap (level_at v) (sym at))
    ∙ ap (λ b. not (beq (level_at v q) b)) (get_or-drop n v (p - 1) false ∙ ap (level_at v) before)

-- the elements of a list one by one
pub each_element : (front xs : List Bool) → map (λ i. get_or (front ++ xs) i false) (range_with_len (length front) (length xs)) ≡ xs
each_element front [] = refl
each_element front (x ∷ xs) =
    let here : length front + 0 ≡ length front = omega arith in
    let next : length (front ++ x ∷ []) ≡ length front + 1 = omega (arith, length-append front (x ∷ [])) in
    ap (λ y. y ∷ map (λ i. get_or (front ++ x ∷ xs) i false) (range_with_len (length front + 1) (length xs)))
    (ap (λ i. get_or (front ++ x ∷ xs) i false) (sym here) ∙ get_or-append-add front (x ∷ xs) 0 false)
    ∙ ap (λ l. x ∷ map (λ i. get_or l i false) (range_with_len (length front + 1) (length xs))) (sym (append_assoc front (x ∷ []) xs))
    ∙ ap (λ n. x ∷ map (λ i. get_or ((front ++ x ∷ []) ++ xs) i false) (range_with_len n (length xs))) (sym next)
    ∙ ap (λ ys. x ∷ ys) (each_element (front ++ x ∷ []) xs)

length-struck : (first : Bool) (bits : List Bool) (n : ℕ) → length (drop n (cells_of first bits)) ≡ 2 * length bits - n
length-struck first bits n = length-drop n (cells_of first bits) ∙ ap (λ k. k - n) (length-cells first bits)

-- the phase fits in which the cells begin
pub struck_fits : (first : Bool) (bits : List Bool) (n phase : ℕ) → n ≤ 2 * length bits → n % 2 ≡ phase → fails_at (drop n (cells_of first bits)) phase ≡ None
struck_fits first bits n phase within is =
    fits_from (drop n (cells_of first bits)) phase (λ p low high here.
    let high' : p < 2 * length bits - n = omega (arith, length-struck first bits n) in
    turns-drop n (cells_of first bits) p (n + p) low refl
    ∙ begin_turns first bits ((n + p) / 2) (n + p) (omega arith) (omega arith) (omega arith))

-- and its bits are those whose cells are whole
struck_bits : (first : Bool) (bits : List Bool) (n phase : ℕ) → n ≤ 2 * length bits → n % 2 ≡ phase
    → phase_bits (drop n (cells_of first bits)) phase ≡ drop ((n + 1) / 2) bits
unfolding phase_bits
struck_bits first bits n phase within is =
    let v = drop n (cells_of first bits) in
    let left = drop ((n + 1) / 2) bits in
    let count : (length v - phase) / 2 ≡ length left = omega (arith, length-struck first bits n, length-drop ((n + 1) / 2) bits) in
    let some : length left ≡ length bits - (n + 1) / 2 = length-drop ((n + 1) / 2) bits in
    ap (λ k. map (λ i. turns_at v (2 * i + phase + 1)) (range_with_len 0 k)) count
    ∙ map-range-agree (λ i. turns_at v (2 * i + phase + 1)) (λ i. get_or left i false) 0 (length left)
    (λ i low high. turns-drop n (cells_of first bits) (2 * i + phase + 1) (n + (2 * i + phase + 1)) (omega arith) refl
    ∙ middle_turns first bits ((n + 1) / 2 + i) (n + (2 * i + phase + 1)) (omega arith) (omega arith)
    ∙ sym (get_or-drop ((n + 1) / 2) bits i false))
    ∙ each_element [] left

-- where the first cell is cut and all bits are 1, the other phase fits too
other_fits : (first : Bool) (bits : List Bool) (n : ℕ) → n ≤ 2 * length bits → n % 2 ≡ 1 → All (λ bit. bit ≡ true) (drop ((n + 1) / 2) bits)
    → fails_at (drop n (cells_of first bits)) 0 ≡ None
other_fits first bits n within odd ones =
    fits_from (drop n (cells_of first bits)) 0 (λ p low high here.
    let high' : p < 2 * length bits - n = omega (arith, length-struck first bits n) in
    let place : (n + 1) / 2 + (p - 2) / 2 < length bits = omega arith in
    turns-drop n (cells_of first bits) p (n + p) low refl
    ∙ middle_turns first bits ((n + 1) / 2 + (p - 2) / 2) (n + p) (omega arith) place
    ∙ sym (get_or-drop ((n + 1) / 2) bits ((p - 2) / 2) false)
    ∙ ones ((p - 2) / 2) false (omega (arith, length-drop ((n + 1) / 2) bits)))

half_odd : (first : Bool) (bits : List Bool) (n : ℕ) → n ≤ 2 * length bits → n % 2 ≡ 1
    → length (drop n (cells_of first bits)) / 2 ≡ (length (drop n (cells_of first bits)) - 1) / 2
half_odd first bits n within odd = omega (arith, length-struck first bits n)

-- where both fit, they have the same bits
even_bits : (first : Bool) (bits : List Bool) (n : ℕ) → n ≤ 2 * length bits → n % 2 ≡ 1 → fails_at (drop n (cells_of first bits)) 0 ≡ None
    → phase_bits (drop n (cells_of first bits)) 0 ≡ drop ((n + 1) / 2) bits
even_bits first bits n within odd even =
    let v = drop n (cells_of first bits) in
    let fits = struck_fits first bits n 1 within odd in
    ones_of_even v even fits ∙ ap (λ k. replicate k true) (half_odd first bits n within odd) ∙ sym (ones_of_odd v even fits)
    ∙ struck_bits first bits n 1 within odd

parity : (n : ℕ) → (n % 2 ≡ 0) ⊎ (n % 2 ≡ 1)
parity n =
    ⊎_elim (λ holds. inl (eqb-true (n % 2) 0 holds)) (λ misses. let h = eqb-false (n % 2) 0 misses in inr (omega (arith, h)))
    (cases_Bool (eqb (n % 2) 0))

pub bits_of_struck : (first : Bool) (bits : List Bool) (n : ℕ) → n ≤ 2 * length bits → cell_bits (drop n (cells_of first bits)) ≡ drop ((n + 1) / 2) bits
bits_of_struck first bits n within =
    let v = drop n (cells_of first bits) in
    ⊎_elim
    (λ even. bits_of_even v (struck_fits first bits n 0 within even) ∙ struck_bits first bits n 0 within even)
    (λ odd. ⊎_elim
    (λ fits. bits_of_even v fits ∙ even_bits first bits n within odd fits)
    (λ fails. bits_of_odd v fails.0 fails.1 (struck_fits first bits n 1 within odd) ∙ struck_bits first bits n 1 within odd)
    (some_or_none (fails_at v 0)))
    (parity n)

pub none_missing_of_struck : (first : Bool) (bits : List Bool) (n : ℕ) → n ≤ 2 * length bits → missing_place (drop n (cells_of first bits)) ≡ None
none_missing_of_struck first bits n within =
    ⊎_elim
    (λ even. none_missing_even (drop n (cells_of first bits)) (struck_fits first bits n 0 within even))
    (λ odd. none_missing_odd (drop n (cells_of first bits)) (struck_fits first bits n 1 within odd))
    (parity n)

pub both_fit : (first : Bool) (bits : List Bool) (n phase : ℕ) → n ≤ 2 * length bits → n % 2 ≡ 1 → phase ≤ 1
    → All (λ bit. bit ≡ true) (drop ((n + 1) / 2) bits) → fails_at (drop n (cells_of first bits)) phase ≡ None
both_fit first bits n zero within odd low ones = other_fits first bits n within odd ones
both_fit first bits n (suc zero) within odd low ones = struck_fits first bits n 1 within odd
both_fit first bits n (suc (suc phase)) within odd low ones = absurd (omega arith)

pub same_bits : (first : Bool) (bits : List Bool) (n phase : ℕ) → n ≤ 2 * length bits → n % 2 ≡ 1 → phase ≤ 1
    → All (λ bit. bit ≡ true) (drop ((n + 1) / 2) bits) → phase_bits (drop n (cells_of first bits)) phase ≡ drop ((n + 1) / 2) bits
same_bits first bits n zero within odd low ones = even_bits first bits n within odd (other_fits first bits n within odd ones)
same_bits first bits n (suc zero) within odd low ones = struck_bits first bits n 1 within odd
same_bits first bits n (suc (suc phase)) within odd low ones = absurd (omega arith)
