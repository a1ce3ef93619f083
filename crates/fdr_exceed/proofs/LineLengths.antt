-- How long the parts of an exceedance's line are.
use Rattle.std.proofs.Common.{◌≡◌, ap, ℕ, zero, suc, ◌+◌, ◌-◌, ◌*◌, ◌/◌, ◌%◌, ◌^◌, ◌<◌, ◌≤◌, ◌==◌, Bool, true, false, List, [], ◌∷◌}
use Rattle.std.proofs.Common.{length}
use Rattle.std.proofs.Common.{arith, lit<, length-append}
use Rattle.std.specs.Prelude.{ℤ, pos, negsuc, if◌then◌else◌, replicate}
use mir.Syntax.{w64}
use mir.Val.{SFits}
use Rattle.std.specs.Fmt.{decimal}
use Rattle.std.proofs.lemmas.Fmt.{length-decimal-le}
use Rattle.std.proofs.lemmas.Int.{ints}
use Rattle.std.proofs.lemmas.List.{length-replicate}
use Rattle.std.proofs.lemmas.Nat.{div_below, mod_below, pow-add}
use Rattle.std.proofs.Math.Nat.{one-le-pow, pow-le-pow_right}
use Rattle.fdr_listing.specs.Text.{digits_of, fraction_text, size_text, value_text}

pub length_decimal_3 : (n : ℕ) → n < 256 → length (decimal n) ≤ 3
length_decimal_3 n h = length-decimal-le 3 n (lit< tt) (omega arith) (omega arith)

pub length_decimal_5 : (n : ℕ) → n < 65536 → length (decimal n) ≤ 5
length_decimal_5 n h = length-decimal-le 5 n (lit< tt) (omega arith) (omega arith)

pub length_decimal_10 : (n : ℕ) → n < 2 ^ 32 → length (decimal n) ≤ 10
length_decimal_10 n h = length-decimal-le 10 n (lit< tt) (omega arith) (omega arith)

pub length_decimal_20 : (n : ℕ) → n < 2 ^ 64 → length (decimal n) ≤ 20
length_decimal_20 n h = length-decimal-le 20 n (lit< tt) (omega arith) h

cut : (b : Bool) (xs : List ℕ) → length (if b then [] else (46 ∷ xs)) ≤ length xs + 1
cut true xs = omega arith
cut false xs = omega arith

-- a point and so many digits
fraction_length : (m d : ℕ) → m < 10 ^ d → m < 2 ^ 64 → length (fraction_text m d) ≤ d + 1
unfolding fraction_text
fraction_length m zero small fits = omega arith
fraction_length m (suc d) small fits =
    let digits : length (decimal m) ≤ suc d = length-decimal-le (suc d) m (omega arith) small fits in
    let front : List ℕ = replicate (suc d - length (decimal m)) 48 in
    let zeros : length front ≡ suc d - length (decimal m) = length-replicate (suc d - length (decimal m)) 48 in
    let all = length-append front (decimal m) in
    let with_point = cut (suc d == 0) (digits_of (suc d) m) in
    omega (arith, digits, zeros, all, with_point)

-- the size of a value: at most 19 digits and a point
size_length : (n d : ℕ) → n < 10 ^ 19 → n < 2 ^ 64 → d ≤ 9 → length (size_text n d) ≤ 20
unfolding size_text
size_length n d small fits few =
    let unit : 0 < 10 ^ d = one-le-pow d 10 (omega arith) in
    let split : 10 ^ (19 - d + d) ≡ 10 ^ (19 - d) * 10 ^ d = pow-add 10 (19 - d) d in
    let exponent : 19 - d + d ≡ 19 = omega arith in
    let whole_power : 10 ^ (19 - d + d) ≡ 10 ^ 19 = ap (λ k. 10 ^ k) exponent in
    let within : n < 10 ^ (19 - d) * 10 ^ d = omega (arith, small, split, whole_power) in
    let below : n / 10 ^ d < 10 ^ (19 - d) = div_below n (10 ^ d) (10 ^ (19 - d)) unit within in
    let less : n / 10 ^ d ≤ n = div_at_most n (10 ^ d) unit in
    let whole : length (decimal (n / 10 ^ d)) ≤ 19 - d = length-decimal-le (19 - d) (n / 10 ^ d) (omega arith) below (omega (arith, less, fits)) in
    let rest : n % 10 ^ d < 10 ^ d = mod_below n (10 ^ d) unit in
    let unit_high : 10 ^ d ≤ 10 ^ 9 = pow-le-pow_right {n = 10} (omega arith) few in
    let part : length (fraction_text (n % 10 ^ d) d) ≤ d + 1 = fraction_length (n % 10 ^ d) d rest (omega (arith, rest, unit_high)) in
    omega (arith, whole, part, length-append (decimal (n / 10 ^ d)) (fraction_text (n % 10 ^ d) d))
  where
    div_at_most : (n k : ℕ) → 0 < k → n / k ≤ n
    div_at_most n k some = omega (arith, div_below n k (n + 1) some (more n k some))
      where
        more : (n k : ℕ) → 0 < k → n < (n + 1) * k
        more n (suc k) some = omega arith
        more n zero some = absurd (omega arith)

pub value_length : (v : ℤ) (d : ℕ) → SFits w64 v → d ≤ 9 → length (value_text v d) ≤ 21
unfolding value_text
value_length (pos n) d fits few = let size = size_length n d (omega (arith, ints, fits)) (omega (arith, ints, fits)) few in omega (arith, size)
value_length (negsuc n) d fits few = let size = size_length (suc n) d (omega (arith, ints, fits)) (omega (arith, ints, fits)) few in omega (arith, size)

pub ruleset line_parts = (length_decimal_3, length_decimal_5, length_decimal_10, length_decimal_20, value_length)
