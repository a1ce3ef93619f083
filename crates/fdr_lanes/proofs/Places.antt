-- The five tables together: where the sync word of a first subframe begins at bit r of three bytes, bit r is left.
use Rattle.std.proofs.Common.{◌≡◌, ℕ, ◌+◌, ◌-◌, ◌*◌, ◌/◌, ◌%◌, ◌^◌, ◌<◌, Bool, true, false, T, ltb, get_or, bit_and, refl, ap, ◌∙◌, arith, ltb-true}
use Rattle.std.proofs.lemmas.Nat.{and_mask, mod-pow-add, mod_below, pow_pos}
use Rattle.fdr_lanes.proofs.Bounded.{test_below, each_below}
use Rattle.fdr_lanes.specs.declared.candidates.TheConstants.{FIRST_LOW, FIRST_HIGH, SECOND_LOW, SECOND_HIGH, THIRD_LOW}

-- what the tables have in common, given the five halves
abbrev pub common_to : ℕ → ℕ → ℕ → ℕ → ℕ → ℕ
common_to a b c d e =
    bit_and (bit_and (bit_and (bit_and (get_or FIRST_LOW a 0) (get_or FIRST_HIGH b 0)) (get_or SECOND_LOW c 0)) (get_or SECOND_HIGH d 0)) (get_or THIRD_LOW e 0)

-- the same of 20 bits
abbrev common_of : ℕ → ℕ
common_of n = common_to (n % 16) (n / 16 % 16) (n / 256 % 16) (n / 4096 % 16) (n / 65536 % 16)

-- 20 bits with the sync word at bit r, and other bits below and above it
abbrev around : ℕ → ℕ → ℕ → ℕ
around r low high = high * 2 ^ (12 + r) + (583 * 2 ^ r + low)

at_each_bit : T (test_below (λ r. test_below (λ low. test_below (λ high. ltb 0 (common_of (around r low high))) (2 ^ (8 - r))) (2 ^ r)) 8)
at_each_bit = tt

common_around : (r low high : ℕ) → r < 8 → low < 2 ^ r → high < 2 ^ (8 - r) → 0 < common_of (around r low high)
common_around r low high few l h =
    let test = λ (x y z : ℕ). ltb 0 (common_of (around x y z)) in
    let by_bit = each_below (λ x. test_below (λ y. test_below (test x y) (2 ^ (8 - x))) (2 ^ x)) 8 at_each_bit r few in
    let by_low = each_below (λ y. test_below (test r y) (2 ^ (8 - r))) (2 ^ r) by_bit low l in
    ltb-true _ _ (is_true _ (each_below (test r low) (2 ^ (8 - r)) by_low high h))
  where
    is_true : (t : Bool) → T t → t ≡ true
    is_true true h = refl
    is_true false h = absurd h

-- the low 20 bits of a number that has the sync word at bit r
around_of : (m r : ℕ) → r < 8 → m / 2 ^ r % 2 ^ 12 ≡ 583 → m % 2 ^ 20 ≡ around r (m % 2 ^ r) (m / 2 ^ (12 + r) % 2 ^ (8 - r))
around_of m r few is =
    let e : 20 ≡ (8 - r) + (12 + r) = omega arith in
    ap (λ k. m % 2 ^ k) e ∙ mod-pow-add m (8 - r) (12 + r)
    ∙ ap (λ x. (m / 2 ^ (12 + r) % 2 ^ (8 - r)) * 2 ^ (12 + r) + x) (mod-pow-add m 12 r ∙ ap (λ x. x * 2 ^ r + m % 2 ^ r) is)

pub common_where : (a b c r : ℕ) → a < 256 → b < 256 → r < 8 → ((c * 256 + b) * 256 + a) / 2 ^ r % 2 ^ 12 ≡ 583
    → 0 < common_to (bit_and a 15) (a / 16) (bit_and b 15) (b / 16) (bit_and c 15)
common_where a b c r A B few is =
    let m = (c * 256 + b) * 256 + a in
    let n = m % 2 ^ 20 in
    let low = m % 2 ^ r in
    let high = m / 2 ^ (12 + r) % 2 ^ (8 - r) in
    let left : 0 < common_of n =
    rw (around_of m r few is)
    (common_around r low high few (mod_below m (2 ^ r) (pow_pos r)) (mod_below (m / 2 ^ (12 + r)) (2 ^ (8 - r)) (pow_pos (8 - r)))) in
    let first_low : n % 16 ≡ bit_and a 15 = omega (arith, and_mask a 4) in
    let first_high : n / 16 % 16 ≡ a / 16 = omega arith in
    let second_low : n / 256 % 16 ≡ bit_and b 15 = omega (arith, and_mask b 4) in
    let second_high : n / 4096 % 16 ≡ b / 16 = omega arith in
    let third_low : n / 65536 % 16 ≡ bit_and c 15 = omega (arith, and_mask c 4) in
    rw (← first_low, ← first_high, ← second_low, ← second_high, ← third_low) left
