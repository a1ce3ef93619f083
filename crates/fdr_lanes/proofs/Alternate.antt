-- Two lists of four numbers of 16 bits, taken in turn.
use Rattle.std.proofs.Common.{◌≡◌, ℕ, ◌+◌, ◌*◌, ◌/◌, ◌%◌, ◌^◌, ◌<◌, List, length, get_or, replicate, bit_or, refl, sym, ap, ◌∙◌, arith}
use Rattle.std.proofs.lemmas.Simd.{Each1-from_get_or, get_or_wider, get_or_narrower, get_or-zip2, get_or-replicate, length-zip2}
use Rattle.std.specs.Int.Bits.{or_shifted_r}
use lib.Lanes.{zip2, number_l, digits_l, Each1}
use Rattle.fdr_lanes.proofs.Numbers.{digits_below, number_of_chunk}

abbrev lifted : ℕ → ℕ → ℕ
lifted a b = a * 2 ^ b % 2 ^ 32

-- the second of each two above the first
abbrev pub both : List ℕ → List ℕ → List ℕ
both xs ys = zip2 bit_or xs (zip2 lifted ys (replicate 4 16))

abbrev pub in_turn : List ℕ → List ℕ → List ℕ
in_turn xs ys = digits_l (2 ^ 16) 8 (number_l (2 ^ 8) (digits_l (2 ^ 8) 16 (number_l (2 ^ 32) (both xs ys))))

module _ (xs ys : List ℕ) (xs_long : length xs ≡ 4) (ys_long : length ys ≡ 4) (xs_fit : (m : ℕ) → m < 4 → get_or xs m 0 < 2 ^ 16)
    (ys_fit : (m : ℕ) → m < 4 → get_or ys m 0 < 2 ^ 16) where
  both_at : (m : ℕ) → m < 4 → get_or (both xs ys) m 0 ≡ get_or ys m 0 * 2 ^ 16 + get_or xs m 0
  both_at m few =
      let inner : length (zip2 lifted ys (replicate 4 16)) ≡ 4 = length-zip2 lifted ys (replicate 4 16) ys_long ∙ ys_long in
      let up : get_or (zip2 lifted ys (replicate 4 16)) m 0 ≡ get_or ys m 0 * 2 ^ 16 =
      get_or-zip2 lifted ys (replicate 4 16) m 0 0 0 (omega arith) few ∙ ap (λ k. get_or ys m 0 * 2 ^ k % 2 ^ 32) (get_or-replicate 4 m 16 0 few)
      ∙ omega (arith, ys_fit m few) in
      get_or-zip2 bit_or xs (zip2 lifted ys (replicate 4 16)) m 0 0 0 (omega arith) (omega arith) ∙ ap (λ v. bit_or (get_or xs m 0) v) up
      ∙ or_shifted_r (get_or ys m 0) 16 (get_or xs m 0) (xs_fit m few)

  length-both : length (both xs ys) ≡ 4
  length-both =
      let inner : length (zip2 lifted ys (replicate 4 16)) ≡ 4 = length-zip2 lifted ys (replicate 4 16) ys_long ∙ ys_long in
      length-zip2 bit_or xs (zip2 lifted ys (replicate 4 16)) (xs_long ∙ sym inner) ∙ xs_long

  both_low : Each1 (λ x. x < 2 ^ 32) (both xs ys)
  both_low =
      Each1-from_get_or (λ x. x < 2 ^ 32) (both xs ys) 0 (λ m h.
      let few : m < 4 = omega (arith, length-both) in
      omega (arith, both_at m few, xs_fit m few, ys_fit m few))

  bytes : List ℕ
  bytes = digits_l (2 ^ 8) 16 (number_l (2 ^ 32) (both xs ys))

  byte_at : (m i : ℕ) → m < 4 → i < 4 → get_or bytes (4 * m + i) 0 ≡ (get_or ys m 0 * 2 ^ 16 + get_or xs m 0) / 256 ^ i % 256
  unfolding bytes
  byte_at m i few low = get_or_narrower (2 ^ 32) 4 256 16 (both xs ys) m i refl both_low low (omega arith) ∙ ap (λ v. v / 256 ^ i % 256) (both_at m few)

  number_at : (k : ℕ) → k < 8 → get_or (in_turn xs ys) k 0 ≡ get_or bytes (2 * k) 0 + 256 * get_or bytes (2 * k + 1) 0
  unfolding bytes
  number_at k few =
      get_or_wider 256 2 (2 ^ 16) 8 bytes k refl (digits_below 256 16 (number_l (2 ^ 32) (both xs ys)) (omega arith)) few
      ∙ number_of_chunk bytes (2 * k) (omega arith)

  pub these_at : (m : ℕ) → m < 4 → get_or (in_turn xs ys) (2 * m) 0 ≡ get_or xs m 0
  these_at m few =
      let first : 2 * (2 * m) ≡ 4 * m + 0 = omega arith in
      let second : 2 * (2 * m) + 1 ≡ 4 * m + 1 = omega arith in
      let low : get_or bytes (2 * (2 * m)) 0 ≡ (get_or ys m 0 * 2 ^ 16 + get_or xs m 0) / 256 ^ 0 % 256 =
      ap (λ k. get_or bytes k 0) first ∙ byte_at m 0 few (omega arith) in
      let high : get_or bytes (2 * (2 * m) + 1) 0 ≡ (get_or ys m 0 * 2 ^ 16 + get_or xs m 0) / 256 ^ 1 % 256 =
      ap (λ k. get_or bytes k 0) second ∙ byte_at m 1 few (omega arith) in
      number_at (2 * m) (omega arith) ∙ omega (arith, low, high, xs_fit m few)

  pub those_at : (m : ℕ) → m < 4 → get_or (in_turn xs ys) (2 * m + 1) 0 ≡ get_or ys m 0
  those_at m few =
      let first : 2 * (2 * m + 1) ≡ 4 * m + 2 = omega arith in
      let second : 2 * (2 * m + 1) + 1 ≡ 4 * m + 3 = omega arith in
      let low : get_or bytes (2 * (2 * m + 1)) 0 ≡ (get_or ys m 0 * 2 ^ 16 + get_or xs m 0) / 256 ^ 2 % 256 =
      ap (λ k. get_or bytes k 0) first ∙ byte_at m 2 few (omega arith) in
      let high : get_or bytes (2 * (2 * m + 1) + 1) 0 ≡ (get_or ys m 0 * 2 ^ 16 + get_or xs m 0) / 256 ^ 3 % 256 =
      ap (λ k. get_or bytes k 0) second ∙ byte_at m 3 few (omega arith) in
      number_at (2 * m + 1) (omega arith) ∙ omega (arith, low, high, xs_fit m few, ys_fit m few)
