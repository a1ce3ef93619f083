-- The values of raw numbers by scales without numbers below 0.
use Rattle.std.proofs.Common.{◌≡◌, ℕ, suc, ◌+◌, ◌-◌, ◌*◌, ◌/◌, ◌%◌, ◌^◌, ◌<◌, ◌≤◌, Bool, true, false, ◌&&◌, nat_le, le-leb, cond, inl, inr}
use Rattle.std.proofs.Common.{ℤ, pos, negsuc, ◌+ℤ◌, ◌-ℤ◌, ◌*ℤ◌, unsigned_abs, ap, sym, subst, ◌∙◌, arith}
use Rattle.std.specs.Int.{int_div_euclid}
use Rattle.std.proofs.Math.Nat.{mod-eq_of_lt}
use Rattle.std.proofs.lemmas.Bool.{lt-leb, cases_lt}
use Rattle.std.proofs.lemmas.Int.{ints}
use Rattle.std.proofs.lemmas.Nat.{div_below, mod_below, mod-mul-add}
use Rattle.fdr_divisor.proofs.Quotients.{quotient_is}
use Rattle.fdr_table.specs.Rows.{ParamRow}
use Rattle.fdr_table.specs.Value.{signed_of, value_of}
use Rattle.fdr_recon.specs.declared.scale.SmallScale.{SmallScale}
use Rattle.fdr_recon.specs.Scales.{IsSmallScale, half_range}

-- with the divisor added k times the quotient is k more
quotient_above : (z : ℤ) (n k m : ℕ) → 0 < n → z +ℤ pos (k * n) ≡ pos m → int_div_euclid z (pos n) +ℤ pos k ≡ pos (m / n)
quotient_above (pos a) n k m p e =
    let is : a + k * n ≡ m = ap unsigned_abs e in
    ap pos (sym (quotient_is m n (a / n + k) (a % n) (mod_below a n p) (omega arith)))
quotient_above (negsuc a) n k m p e =
    let is : m + a + 1 ≡ k * n = omega (arith, ints) in
    let below : a / n < k = div_below a n k p (omega arith) in
    let q = k - (a / n + 1) in
    let split : q + a / n + 1 ≡ k = omega arith in
    let whole : (q + a / n + 1) * n ≡ k * n = ap (λ x. x * n) split in
    let rest : a % n < n = mod_below a n p in
    let quotient : m / n ≡ q = quotient_is m n q (n - 1 - a % n) (omega arith) (omega arith) in
    omega (arith, ints, quotient)

low_half : (v raw : ℕ) → raw < 2 ^ v → pos raw +ℤ pos (2 ^ v) ≡ pos ((raw + 2 ^ v) % 2 ^ suc v)
low_half v raw low = ap pos (sym (mod-eq_of_lt (omega arith)))

high_half : (v raw : ℕ) → 2 ^ v ≤ raw → raw < 2 ^ suc v → (pos raw -ℤ pos (2 ^ suc v)) +ℤ pos (2 ^ v) ≡ pos ((raw + 2 ^ v) % 2 ^ suc v)
high_half v raw high below =
    let rest : (raw + 2 ^ v) % 2 ^ suc v ≡ raw - 2 ^ v =
    ap (λ x. x % 2 ^ suc v) (omega arith) ∙ mod-mul-add 1 (2 ^ suc v) (raw - 2 ^ v) (omega arith) in
    omega (arith, ints, rest)

-- the raw number with half the range added, cut to its bits, is what it stands for with that added
turned_by : (b : Bool) (v raw : ℕ) → raw < 2 ^ suc v
    → cond (b && nat_le (2 ^ v) raw) (pos raw -ℤ pos (2 ^ suc v)) (pos raw) +ℤ pos (cond b (2 ^ v) 0)
    ≡ pos ((raw + cond b (2 ^ v) 0) % 2 ^ suc v)
turned_by false v raw below =
    let small : (raw + 0) % 2 ^ suc v ≡ raw + 0 = mod-eq_of_lt (omega arith) in
    omega (arith, ints, small)
turned_by true v raw below = elim (cases_lt raw (2 ^ v)) [
  | inl low ↦ ap (λ b. cond b (pos raw -ℤ pos (2 ^ suc v)) (pos raw) +ℤ pos (2 ^ v)) (lt-leb (2 ^ v) raw low) ∙ low_half v raw low
  | inr high ↦ ap (λ b. cond b (pos raw -ℤ pos (2 ^ suc v)) (pos raw) +ℤ pos (2 ^ v)) (le-leb (2 ^ v) raw high) ∙ high_half v raw high below
]

turned : (p : ParamRow) (raw : ℕ) → 1 ≤ p.width → raw < 2 ^ p.width
    → signed_of p raw +ℤ pos (half_range p) ≡ pos ((raw + half_range p) % 2 ^ p.width)
turned p raw some below =
    let v = p.width - 1 in
    let width : suc v ≡ p.width = omega (arith, some) in
    subst (λ w. cond (p.signed && nat_le (2 ^ v) raw) (pos raw -ℤ pos (2 ^ w)) (pos raw) +ℤ pos (cond p.signed (2 ^ v) 0)
    ≡ pos ((raw + cond p.signed (2 ^ v) 0) % 2 ^ w)) width (turned_by p.signed v raw (subst (λ w. raw < 2 ^ w) (sym width) below))

spread : (z : ℤ) (h n : ℕ) → (z +ℤ pos h) *ℤ pos n ≡ z *ℤ pos n +ℤ pos (h * n)
spread (pos a) h n = omega (arith, ints)
spread (negsuc a) h n = elim (cases_lt h (suc a)) [
  | inl low ↦
      let sum : negsuc a +ℤ pos h ≡ negsuc (a - h) = omega (arith, ints) in
      let parts : (suc (a - h) + h) * n ≡ suc a * n = ap (λ x. x * n) (omega arith) in
      ap (λ z. z *ℤ pos n) sum ∙ omega (arith, ints, parts)
  | inr high ↦
      let sum : negsuc a +ℤ pos h ≡ pos (h - suc a) = omega (arith, ints) in
      let parts : (h - suc a + suc a) * n ≡ h * n = ap (λ x. x * n) (omega arith) in
      ap (λ z. z *ℤ pos n) sum ∙ omega (arith, ints, parts)
]

-- what a raw number stands for, times the factor, with whole steps of the divisor added
stepped : (p : ParamRow) (s : SmallScale) (raw : ℕ) → (h : IsSmallScale p s) → raw < 2 ^ p.width
    → signed_of p raw *ℤ pos s.num +ℤ pos (h.steps * s.den) ≡ pos ((raw + s.half) % (s.mask + 1) * s.num + s.rise)
stepped p s raw h below =
    let t = (raw + half_range p) % 2 ^ p.width in
    let product : (signed_of p raw +ℤ pos (half_range p)) *ℤ pos s.num ≡ pos (t * s.num) = ap (λ z. z *ℤ pos s.num) (turned p raw h.some_bits below) in
    let sum = sym (spread (signed_of p raw) (half_range p) s.num) ∙ product in
    let steps : h.steps * s.den ≡ half_range p * s.num + s.rise = sym h.rise ∙ ap (λ n. n * s.num + s.rise) h.half in
    let whole : (raw + s.half) % (s.mask + 1) ≡ t = ap (λ n. (raw + n) % (s.mask + 1)) h.half ∙ ap (λ n. (raw + half_range p) % n) h.mask in
    rw (steps, whole) (omega (arith, ints, sum))

-- a value by a scale
pub small_value : (p : ParamRow) (s : SmallScale) (raw : ℕ) → IsSmallScale p s → raw < 2 ^ p.width
    → s.offset +ℤ pos (((raw + s.half) % (s.mask + 1) * s.num + s.rise) / s.den) ≡ value_of p raw
unfolding value_of
small_value p s raw h below =
    let z = signed_of p raw *ℤ pos s.num in
    let n = (raw + s.half) % (s.mask + 1) * s.num + s.rise in
    let quotient : int_div_euclid z (pos s.den) +ℤ pos h.steps ≡ pos (n / s.den) =
    quotient_above z s.den h.steps n h.some_den (stepped p s raw h below) in
    let scaled : s.offset +ℤ pos (n / s.den) ≡ p.offset +ℤ int_div_euclid z (pos s.den) =
    omega (arith, ints, h.offset, quotient) in
    scaled ∙ ap (λ d. p.offset +ℤ int_div_euclid (signed_of p raw *ℤ d) (pos s.den)) (sym h.num)
    ∙ ap (λ d. p.offset +ℤ int_div_euclid (signed_of p raw *ℤ p.num) d) (sym h.den)
