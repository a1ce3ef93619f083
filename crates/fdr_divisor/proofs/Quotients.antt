-- Quotients by a factor just above p divided by the divisor.
use Rattle.std.proofs.Common.{◌≡◌, ℕ, ◌+◌, ◌-◌, ◌*◌, ◌/◌, ◌%◌, ◌<◌, ◌≤◌, ap, subst, ◌∙◌, arith, mul-le-mul, le_refl, ◌^◌, ltb, ltb-true}
use Rattle.std.proofs.Math.Nat.{lt_of_mul-lt-mul_right}
use Rattle.std.proofs.lemmas.Bool.{and_parts}
use Rattle.std.proofs.lemmas.Nat.{div-mul-add, div_below, mod_below}
use Rattle.fdr_divisor.specs.Reach.{IsInReach}

pub quotient_is : (m n q r : ℕ) → r < n → m ≡ q * n + r → m / n ≡ q
quotient_is m n q r h e = ap (λ x. x / n) e ∙ div-mul-add q n r h

-- where s and e together are d, p is a * d + s and n is q * d + r: a product with a + 1
product : (a s e d q r : ℕ) → s + e ≡ d → (q * d + r) * (a + 1) ≡ q * (a * d + s) + (r * (a + 1) + q * e)
product a s e d q r h =
    let parts : q * (s + e) ≡ q * d = ap (λ x. q * x) h in
    omega (arith, parts)

-- what that has beyond q * p
over : (a s e d q r : ℕ) → s + e ≡ d → r < d → (q * d + r) * d < a * d + s → r * (a + 1) + q * e < a * d + s
over a s e d q r h low small =
    let p = a * d + s in
    let n = q * d + r in
    let parts : r * (s + e) ≡ r * d = ap (λ x. r * x) h in
    let times : (r * (a + 1) + q * e) * d ≡ r * p + e * n = omega (arith, parts) in
    let rounded : e * n ≤ d * n = mul-le-mul (omega (arith, h)) (le_refl n) in
    let rest : (r + 1) * p ≤ d * p = mul-le-mul (omega (arith, low)) (le_refl p) in
    lt_of_mul-lt-mul_right d (omega (arith, times, rounded, rest, small))

-- the quotient by d, as the quotient by p of a product
pub multiplied : (p d n : ℕ) → 0 < d → n * d < p → n * (p / d + 1) / p ≡ n / d
multiplied p d n some small =
    let s = p % d in
    let rest : s < d = mod_below p d some in
    let parts : s + (d - s) ≡ d = omega (arith, rest) in
    let split : p / d * d + s ≡ p = omega arith in
    let number : n / d * d + n % d ≡ n = omega arith in
    let whole : n * (p / d + 1) ≡ n / d * p + (n % d * (p / d + 1) + n / d * (d - s)) =
    subst (λ m. m * (p / d + 1) ≡ n / d * p + (n % d * (p / d + 1) + n / d * (d - s))) number
    (product (p / d) s (d - s) d (n / d) (n % d) parts ∙ ap (λ x. n / d * x + (n % d * (p / d + 1) + n / d * (d - s))) split) in
    let least : n % d * (p / d + 1) + n / d * (d - s) < p =
    subst (λ x. n % d * (p / d + 1) + n / d * (d - s) < x) split
    (over (p / d) s (d - s) d (n / d) (n % d) parts (mod_below n d some) (omega (arith, split, number, ap (λ m. m * d) number, small))) in
    quotient_is (n * (p / d + 1)) p (n / d) (n % d * (p / d + 1) + n / d * (d - s)) least whole

-- a number within reach: its product with the divisor, and itself
reached : (d n : ℕ) → IsInReach d n → (n * d < 2 ^ 40) × (n < d * 2 ^ 23)
reached d n h =
    let both = and_parts (ltb (n * d) (2 ^ 40)) (ltb n (d * 2 ^ 23)) h in
    (ltb-true _ _ both.0, ltb-true _ _ both.1)

-- its quotient from its product with the factor
pub shifted : (d f n : ℕ) → 0 < d → f ≡ 2 ^ 40 / d + 1 → IsInReach d n → n * f / 2 ^ 40 ≡ n / d
shifted d f n some factor h = ap (λ f. n * f / 2 ^ 40) factor ∙ multiplied (2 ^ 40) d n some (reached d n h).0

-- the quotient fits
pub quotient_fits : (d n : ℕ) → 0 < d → IsInReach d n → n / d < 2 ^ 23
quotient_fits d n some h = div_below n d (2 ^ 23) some (omega (arith, (reached d n h).1))

-- the product fits
pub product_fits : (d f n : ℕ) → 0 < d → f ≡ 2 ^ 40 / d + 1 → IsInReach d n → n * f < 2 ^ 64
product_fits d f n some factor h =
    let is = reached d n h in
    let whole : 2 ^ 40 / d * d ≤ 2 ^ 40 = omega arith in
    let high : n * (2 ^ 40 / d) ≤ d * 2 ^ 23 * (2 ^ 40 / d) = mul-le-mul (omega (arith, is.1)) (le_refl (2 ^ 40 / d)) in
    let least : n * 1 ≤ n * d = mul-le-mul (le_refl n) (omega (arith, some)) in
    let product : n * f ≡ n * (2 ^ 40 / d + 1) = ap (λ f. n * f) factor in
    omega (arith, product, whole, high, least, is.0)
