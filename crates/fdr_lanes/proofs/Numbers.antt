-- Bytes as one number, the first byte the lowest, and the words in them.
use Rattle.std.proofs.Common.{◌≡◌, ℕ, ◌+◌, ◌-◌, ◌*◌, ◌/◌, ◌%◌, ◌^◌, ◌<◌, ◌≤◌, List, [], ◌∷◌, length, get_or, slice_index, sym, ap, ◌∙◌, ⊎_elim, arith}
use Rattle.std.proofs.Common.{zero, suc}
use Rattle.std.specs.Int.{bit_at as nat_bit}
use Rattle.std.proofs.lemmas.Bool.{cases_lt}
use Rattle.std.proofs.lemmas.Nat.{shr-shr, mod_below}
use Rattle.std.proofs.lemmas.Nat.Bits.{bit_at-zero, bit_at_cat_low, bit_at_cat_high}
use Rattle.std.proofs.lemmas.Simd.{get_or-chunk, length-chunk}
use lib.Lanes.{number_l, digits_l, chunk, Each1}
use Rattle.fdr_bits.specs.Bits.{bit_at, word_at}
use Rattle.fdr_bits.proofs.WordLemmas.{AreBytes, number_of-same, number_of-bits, word_at_same}

number_bit : (b : List ℕ) → AreBytes b → (i : ℕ) → nat_bit (number_l 256 b) i ≡ bit_at b i
unfolding bit_at
number_bit [] bytes i = bit_at-zero i ∙ sym (bit_at-zero (i % 8))
number_bit (x ∷ xs) bytes i =
    let n = number_l 256 xs in
    let joined : x + 256 * n ≡ n * 2 ^ 8 + x = omega arith in
    ap (λ v. nat_bit v i) joined ∙ ⊎_elim
    (λ low. let none : i / 8 ≡ 0 = omega arith in
    let same : i % 8 ≡ i = omega arith in
    bit_at_cat_low n 8 x i low ∙ sym (ap (λ k. slice_index (x ∷ xs) (i / 8) / 2 ^ k % 2) same ∙ ap (λ k. nat_bit (slice_index (x ∷ xs) k) i) none))
    (λ high. let next : i / 8 ≡ suc ((i - 8) / 8) = omega arith in
    let same : i % 8 ≡ (i - 8) % 8 = omega arith in
    bit_at_cat_high n 8 x i (bytes 0) high ∙ number_bit xs (λ k. bytes (suc k)) (i - 8)
    ∙ sym (ap (λ k. slice_index (x ∷ xs) (i / 8) / 2 ^ k % 2) same ∙ ap (λ k. nat_bit (slice_index (x ∷ xs) k) ((i - 8) % 8)) next))
    (cases_lt i 8)

-- a word of bytes that are one number
pub word_of_number : (b : List ℕ) → AreBytes b → (s : ℕ) → number_l 256 b / 2 ^ s % 2 ^ 12 ≡ word_at b s
unfolding word_at
word_of_number b bytes s =
    let n = number_l 256 b in
    sym (number_of-bits (n / 2 ^ s) 12)
    ∙ number_of-same (nat_bit (n / 2 ^ s)) (λ j. bit_at b (s + j)) 12 (λ j few. ap (λ v. v % 2) (shr-shr n s j) ∙ number_bit b bytes (s + j))

-- words at the same bit of bytes that are the same
pub word_of_same : (b c : List ℕ) (p q : ℕ) → p % 8 ≡ q % 8 → ((t : ℕ) → 8 * t < p % 8 + 12 → get_or b (p / 8 + t) 0 ≡ get_or c (q / 8 + t) 0)
    → word_at b p ≡ word_at c q
unfolding bit_at
word_of_same b c p q phase same =
    word_at_same b c p q (λ j few.
    let t = (p % 8 + j) / 8 in
    let b_place : (p + j) / 8 ≡ p / 8 + t = omega arith in
    let c_place : (q + j) / 8 ≡ q / 8 + t = omega arith in
    let low : (p + j) % 8 ≡ (q + j) % 8 = omega arith in
    ap (λ k. slice_index b k / 2 ^ ((p + j) % 8) % 2) b_place ∙ ap (λ k. slice_index b (p / 8 + t) / 2 ^ k % 2) low
    ∙ ap (λ v. v / 2 ^ ((q + j) % 8) % 2) (same t (omega arith)) ∙ sym (ap (λ k. slice_index c k / 2 ^ ((q + j) % 8) % 2) c_place))

-- the word at a bit of a chunk
pub word_of_chunk : (b : List ℕ) (at n p q : ℕ) → p + 12 ≤ 8 * n → q ≡ 8 * at + p → word_at (chunk at n b) p ≡ word_at b q
word_of_chunk b at n p q within is =
    word_of_same (chunk at n b) b p q (omega arith) (λ t few.
    let place : at + (p / 8 + t) ≡ q / 8 + t = omega arith in
    get_or-chunk at n b (p / 8 + t) 0 (omega arith) ∙ ap (λ k. get_or b k 0) place)

pub bytes_of_lanes : (xs : List ℕ) → Each1 (λ x. x < 256) xs → AreBytes xs
bytes_of_lanes [] h k = omega arith
bytes_of_lanes (x ∷ xs) h zero = h.0
bytes_of_lanes (x ∷ xs) h (suc k) = bytes_of_lanes xs h.1 k

pub digits_below : (p n x : ℕ) → 0 < p → Each1 (λ d. d < p) (digits_l p n x)
digits_below p zero x h = tt
digits_below p (suc n) x h = (mod_below x p h, digits_below p n (x / p) h)

number_of_two : (ys : List ℕ) → length ys ≡ 2 → number_l 256 ys ≡ get_or ys 0 0 + 256 * get_or ys 1 0
number_of_two [] e = absurd (omega arith)
number_of_two (x ∷ []) e = absurd (omega arith)
number_of_two (x ∷ y ∷ []) e = omega arith
number_of_two (x ∷ y ∷ z ∷ zs) e = absurd (omega arith)

-- two bytes of a list as one number
pub number_of_chunk : (xs : List ℕ) (i : ℕ) → i + 2 ≤ length xs → number_l 256 (chunk i 2 xs) ≡ get_or xs i 0 + 256 * get_or xs (i + 1) 0
number_of_chunk xs i within =
    let same : i + 0 ≡ i = omega arith in
    let first : get_or (chunk i 2 xs) 0 0 ≡ get_or xs i 0 = get_or-chunk i 2 xs 0 0 (omega arith) ∙ ap (λ k. get_or xs k 0) same in
    let second : get_or (chunk i 2 xs) 1 0 ≡ get_or xs (i + 1) 0 = get_or-chunk i 2 xs 1 0 (omega arith) in
    omega (arith, number_of_two (chunk i 2 xs) (length-chunk i 2 xs within), first, second)
