-- No value of a parameter is beyond 4,300,000,000,000,000,000 in size.
use Rattle.std.proofs.Common.{◌≡◌, ℕ, suc, ◌+◌, ◌-◌, ◌*◌, ◌/◌, ◌^◌, ◌<◌, ◌≤◌, true, false, ◌&&◌, cond, ℤ, pos, negsuc, ◌+ℤ◌, ◌-ℤ◌, ◌*ℤ◌, ◌≤ℤ◌, neg_ℤ}
use Rattle.std.proofs.Common.{unsigned_abs, ap, sym, subst, arith, mul-le-mul, div-le_self, le_trans}
use Rattle.std.specs.Prelude.{nat_le}
use Rattle.std.specs.Int.{int_div_euclid}
use Rattle.std.proofs.Math.Nat.{pow-le-pow_right}
use Rattle.std.proofs.lemmas.Int.{ints, unsigned_abs-mul}
use Rattle.fdr_table.specs.Ranges.{IsParamInRange}
use Rattle.fdr_table.specs.Rows.{ParamRow}
use Rattle.fdr_table.specs.Value.{signed_of, value_of}
use Rattle.fdr_recon.specs.Kept.{IsSmallValue}

-- ---- sizes and bounds

size_within : (z : ℤ) (n : ℕ) → neg_ℤ (pos n) ≤ℤ z → z ≤ℤ pos n → unsigned_abs z ≤ n
size_within (pos a) n low high = omega (arith, ints, high)
size_within (negsuc a) n low high = omega (arith, ints, low)

low_of_size : (z : ℤ) (n : ℕ) → unsigned_abs z ≤ n → neg_ℤ (pos n) ≤ℤ z
low_of_size (pos a) n few = omega (arith, ints, few)
low_of_size (negsuc a) n few = omega (arith, ints, few)

high_of_size : (z : ℤ) (n : ℕ) → unsigned_abs z ≤ n → z ≤ℤ pos n
high_of_size (pos a) n few = omega (arith, ints, few)
high_of_size (negsuc a) n few = omega (arith, ints, few)

-- ---- what a raw number stands for

size_below : (a n : ℕ) → a < n → unsigned_abs (pos a -ℤ pos n) ≤ n
size_below a n below =
    let is : pos a -ℤ pos n ≡ negsuc (n - a - 1) = omega (arith, ints, below) in
    subst (λ (z : ℤ). unsigned_abs z ≤ n) (sym is) (omega (arith, below))

size_signed : (p : ParamRow) (raw : ℕ) → p.width ≤ 32 → raw < 2 ^ p.width → unsigned_abs (signed_of p raw) ≤ 4294967296
size_signed p raw narrow below =
    let most : 2 ^ p.width ≤ 2 ^ 32 = pow-le-pow_right (omega arith) narrow in
    elim (p.signed && nat_le (2 ^ (p.width - 1)) raw) as (λ b. unsigned_abs (cond b (pos raw -ℤ pos (2 ^ p.width)) (pos raw)) ≤ 4294967296) [
      | true ↦ omega (arith, size_below raw (2 ^ p.width) below, most)
      | false ↦ omega (arith, below, most)
    ]

-- ---- the quotient

size_quotient : (z d : ℤ) → pos 1 ≤ℤ d → unsigned_abs (int_div_euclid z d) ≤ unsigned_abs z
size_quotient (pos a) (pos n) some = div-le_self a n
size_quotient (negsuc a) (pos n) some = omega (arith, div-le_self a n)
size_quotient z (negsuc n) some = absurd (omega (arith, ints, some))

size_product : (x y : ℤ) (m n : ℕ) → unsigned_abs x ≤ m → unsigned_abs y ≤ n → unsigned_abs (x *ℤ y) ≤ m * n
size_product x y m n one two = subst (λ k. k ≤ m * n) (sym (unsigned_abs-mul x y)) (mul-le-mul one two)

-- ---- the value

sum_within : (x y : ℤ) → unsigned_abs x ≤ 1000000000000000 → unsigned_abs y ≤ 4294967296000000000 → IsSmallValue (x +ℤ y)
sum_within x y one two =
    let a = low_of_size x 1000000000000000 one in
    let b = high_of_size x 1000000000000000 one in
    let c = low_of_size y 4294967296000000000 two in
    let d = high_of_size y 4294967296000000000 two in
    record { low = omega (arith, ints, a, b, c, d); high = omega (arith, ints, a, b, c, d) }

pub value_within : (p : ParamRow) (raw : ℕ) → IsParamInRange p → raw < 2 ^ p.width → IsSmallValue (value_of p raw)
unfolding value_of
value_within p raw range below =
    let signed = size_signed p raw (omega (arith, range.lsb_low, range.bits)) below in
    let num = size_within p.num 1000000000 range.num_low range.num_high in
    let product = size_product (signed_of p raw) p.num 4294967296 1000000000 signed num in
    let quotient = size_quotient (signed_of p raw *ℤ p.num) p.den range.den_low in
    let offset = size_within p.offset 1000000000000000 range.offset_low range.offset_high in
    sum_within p.offset (int_div_euclid (signed_of p raw *ℤ p.num) p.den) offset (omega (arith, product, quotient))
