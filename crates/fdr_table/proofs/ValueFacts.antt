-- Bounds of the numbers that a value is computed by.
use Rattle.std.proofs.Common.{◌≡◌, refl, sym, ap, subst, ℕ, ◌*◌, ◌%◌, ◌^◌, ◌<◌, ◌≤◌, ℤ, pos, negsuc, true, nat_le, ◌-◌, ◌-ℤ◌, ◌*ℤ◌, ◌≤ℤ◌, neg_ℤ, unsigned_abs}
use lib.Signed.{le_z}
use Rattle.std.proofs.lemmas.Bool.{le-leb}
use Rattle.fdr_table.specs.Rows.{ParamRow}
use Rattle.fdr_table.specs.Value.{signed_of}
use Rattle.std.proofs.Common.{arith, mul-le-mul, div-le_self, FitsSigned, w64, to_z, of_z}
use Rattle.std.specs.Int.{int_div_euclid}
use Rattle.std.proofs.Math.Nat.{pow-le-pow_right}
use Rattle.std.proofs.lemmas.Int.{ints, to_z-of_z, unsigned_abs-mul}

-- whether a number is at most n in size
abbrev pub IsWithin : ℕ → ℤ → Type 0
IsWithin n z = (neg_ℤ (pos n) ≤ℤ z) × (z ≤ℤ pos n)

size-within : (z : ℤ) (n : ℕ) → IsWithin n z → unsigned_abs z ≤ n
size-within (pos a) n h = omega (arith, ints, h.1)
size-within (negsuc a) n h = omega (arith, ints, h.0)

within-size : (z : ℤ) (n : ℕ) → unsigned_abs z ≤ n → IsWithin n z
within-size (pos a) n few = (omega (arith, ints, few), omega (arith, ints, few))
within-size (negsuc a) n few = (omega (arith, ints, few), omega (arith, ints, few))

-- a product is no larger than the sizes allow
product-size : (x y : ℤ) (m n : ℕ) → IsWithin m x → IsWithin n y → unsigned_abs (x *ℤ y) ≤ m * n
product-size x y m n one two = subst (λ (k : ℕ). k ≤ m * n) (sym (unsigned_abs-mul x y)) (mul-le-mul (size-within x m one) (size-within y n two))

-- the bounds of a product
pub product-within : (x y : ℤ) (m n : ℕ) → IsWithin m x → IsWithin n y → IsWithin (m * n) (x *ℤ y)
product-within x y m n one two = within-size (x *ℤ y) (m * n) (product-size x y m n one two)

-- a quotient is no larger than what is divided
quotient-size : (z d : ℤ) → pos 1 ≤ℤ d → unsigned_abs (int_div_euclid z d) ≤ unsigned_abs z
quotient-size (pos a) (pos n) some = div-le_self a n
quotient-size (negsuc a) (pos n) some = omega (arith, div-le_self a n)
quotient-size z (negsuc n) some = absurd (omega (arith, ints, some))

-- the bounds of a quotient
pub quotient-within : (z d : ℤ) (n : ℕ) → IsWithin n z → pos 1 ≤ℤ d → IsWithin n (int_div_euclid z d)
quotient-within z d n h some =
    let few = quotient-size z d some in
    let most = size-within z n h in
    within-size (int_div_euclid z d) n (omega (arith, few, most))

-- a divisor of 1 changes nothing
pub quotient-of-one : (z : ℤ) → int_div_euclid z (pos 1) ≡ z
quotient-of-one (pos a) = ap pos (omega arith)
quotient-of-one (negsuc a) = ap negsuc (omega arith)

-- the bounds of a raw number less the range of its width
pub below-zero : (raw width : ℕ) → raw < 2 ^ width → width ≤ 32 → IsWithin 4294967296 (pos raw -ℤ pos (2 ^ width))
below-zero raw width below narrow =
    let most : 2 ^ width ≤ 2 ^ 32 = pow-le-pow_right (omega arith) narrow in
    (omega (arith, ints, below, most), omega (arith, ints, below, most))

-- the code computes that difference, which fits
turned : (raw width : ℕ) → raw < 2 ^ width → width ≤ 32
    → to_z w64 (of_z w64 (pos raw)) -ℤ to_z w64 (1 * 2 ^ width % 2 ^ 64) ≡ pos raw -ℤ pos (2 ^ width)
turned raw width below narrow =
    let most : 2 ^ width ≤ 2 ^ 32 = pow-le-pow_right (omega arith) narrow in
    omega (arith, ints, below, most)

pub turned-fits : (z : ℤ) (raw width : ℕ) → z ≡ pos raw → raw < 2 ^ width → width ≤ 32
    → FitsSigned w64 (to_z w64 (of_z w64 z) -ℤ to_z w64 (1 * 2 ^ width % 2 ^ 64))
turned-fits z raw width is below narrow =
    let within = below-zero raw width below narrow in
    rw (is, turned raw width below narrow) (omega (arith, ints, within.0, within.1))

-- the code computes the number below 0
pub turned-is : (z : ℤ) (raw width : ℕ) → z ≡ pos raw → raw < 2 ^ width → width ≤ 32
    → to_z w64 (of_z w64 (to_z w64 (of_z w64 z) -ℤ to_z w64 (1 * 2 ^ width % 2 ^ 64))) ≡ pos raw -ℤ pos (2 ^ width)
turned-is z raw width is below narrow =
    let within = below-zero raw width below narrow in
    let fits : FitsSigned w64 (pos raw -ℤ pos (2 ^ width)) = omega (arith, ints, within.0, within.1) in
    rw (is, turned raw width below narrow, to_z-of_z w64 (pos raw -ℤ pos (2 ^ width)) fits) refl

-- the code's test says that the highest bit of a field is set
pub highest-set : (z : ℤ) (raw width : ℕ) → z ≡ pos raw → raw < 2 ^ width → width ≤ 32
    → le_z (to_z w64 (1 * 2 ^ (width - 1) % 2 ^ 64)) (to_z w64 (of_z w64 z)) ≡ true → 2 ^ (width - 1) ≤ raw
highest-set z raw width is below narrow test =
    let most : 2 ^ width ≤ 2 ^ 32 = pow-le-pow_right (omega arith) narrow in
    let lower : width - 1 ≤ 32 = omega (arith, narrow) in
    let half : 2 ^ (width - 1) ≤ 2 ^ 32 = pow-le-pow_right (omega arith) lower in
    grind (arith, ints)

-- a signed field with its highest bit set is below 0
pub signed-below : (p : ParamRow) (raw : ℕ) → p.signed ≡ true → 2 ^ (p.width - 1) ≤ raw → pos raw -ℤ pos (2 ^ p.width) ≡ signed_of p raw
signed-below p raw is high =
    let set : nat_le (2 ^ (p.width - 1)) raw ≡ true = le-leb (2 ^ (p.width - 1)) raw high in
    rw (is, set) refl
