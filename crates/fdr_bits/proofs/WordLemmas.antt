-- Words of a byte list by whole bytes, and by single bits.
use Rattle.std.proofs.Common.{◌≡◌, ℕ, suc, zero, ◌+◌, ◌-◌, ◌*◌, ◌/◌, ◌%◌, ◌^◌, ◌<◌, ◌≤◌, List, sum_by, slice_index, refl, sym, ap, ◌∙◌, ⊎_elim}
use Rattle.std.proofs.Common.{arith}
use Rattle.std.specs.List.{range_with_len}
use Rattle.std.proofs.lemmas.Nat.{pow-add, shr-shr, mod-pow-add, mod_below, mul-le}
use Rattle.std.proofs.lemmas.Nat.Bits.{bit_at_cat_low, bit_at_cat_high}
use Rattle.std.proofs.lemmas.Bool.{cases_lt}
use Rattle.std.proofs.lemmas.List.Sums.{sum_by_push}
use Rattle.std.specs.Int.{bit_at as nat_bit}
use Rattle.fdr_bits.specs.Bits.{bit_at, number_of, word_at}
use Rattle.fdr_lists.proofs.Ranges.{range_suc}

-- every element is a byte
abbrev pub AreBytes : List ℕ → Type 0
AreBytes b = (k : ℕ) → slice_index b k < 256

-- three bytes from place q on, as one number; past the end they are 0
abbrev pub three_bytes : List ℕ → ℕ → ℕ
three_bytes b q = (slice_index b (q + 2) * 256 + slice_index b (q + 1)) * 256 + slice_index b q

pub bit_at_below : (b : List ℕ) (p : ℕ) → bit_at b p < 2
unfolding bit_at
bit_at_below b p = mod_below (slice_index b (p / 8) / 2 ^ (p % 8)) 2 (omega arith)

-- a sum over the numbers below n + 1
sum_more : (f : ℕ → ℕ) (n : ℕ) → sum_by f (range_with_len 0 (suc n)) ≡ sum_by f (range_with_len 0 n) + f n
sum_more f n =
    let e : 0 + n ≡ n = omega arith in
    ap (sum_by f) (range_suc 0 n) ∙ sum_by_push f (range_with_len 0 n) (0 + n) ∙ ap (λ x. sum_by f (range_with_len 0 n) + f x) e

sum_agree : (f g : ℕ → ℕ) (n : ℕ) → ((j : ℕ) → j < n → f j ≡ g j) → sum_by f (range_with_len 0 n) ≡ sum_by g (range_with_len 0 n)
sum_agree f g zero same = refl
sum_agree f g (suc n) same =
    let before : sum_by f (range_with_len 0 n) ≡ sum_by g (range_with_len 0 n) = sum_agree f g n (λ j h. same j (omega arith)) in
    let here : f n ≡ g n = same n (omega arith) in
    omega (arith, sum_more f n, sum_more g n, before, here)

-- the low n bits of a number, bit by bit
sum_of_bits : (m n : ℕ) → sum_by (λ j. nat_bit m j * 2 ^ j) (range_with_len 0 n) ≡ m % 2 ^ n
sum_of_bits m zero = omega arith
sum_of_bits m (suc n) =
    let e : suc n ≡ 1 + n = omega arith in
    let more = sum_more (λ j. nat_bit m j * 2 ^ j) n in
    let split = mod-pow-add m 1 n in
    let before = sum_of_bits m n in
    rw e (omega (arith, more, split, before))

-- ---- a number whose bits are given

number_of-more : (f : ℕ → ℕ) (n : ℕ) → number_of f (suc n) ≡ f n * 2 ^ n + number_of f n
unfolding number_of
number_of-more f n = omega (arith, sum_more (λ j. f j * 2 ^ j) n)

pub number_of-below : (f : ℕ → ℕ) → ((j : ℕ) → f j < 2) → (n : ℕ) → number_of f n < 2 ^ n
number_of-below f small zero = unfold number_of in omega arith
number_of-below f small (suc n) =
    let next : suc n ≡ 1 + n = omega arith in
    let twice : 2 ^ suc n ≡ 2 * 2 ^ n = ap (λ k. 2 ^ k) next ∙ pow-add 2 1 n in
    let one : f n * 2 ^ n ≤ 1 * 2 ^ n = mul-le (f n) (2 ^ n) 1 (2 ^ n) (omega (arith, small n)) (omega arith) in
    omega (arith, number_of-more f n, number_of-below f small n, twice, one)

pub number_of-bit : (f : ℕ → ℕ) → ((j : ℕ) → f j < 2) → (n j : ℕ) → j < n → nat_bit (number_of f n) j ≡ f j
number_of-bit f small zero j h = absurd (omega arith)
number_of-bit f small (suc n) j h =
    ap (λ v. nat_bit v j) (number_of-more f n) ∙ ⊎_elim
    (λ below. bit_at_cat_low (f n) n (number_of f n) j below ∙ number_of-bit f small n j below)
    (λ from. let here : j ≡ n = omega arith in
    let none : j - n ≡ 0 = omega arith in
    let lowest : nat_bit (f n) 0 ≡ f n = omega (arith, small n) in
    bit_at_cat_high (f n) n (number_of f n) j (number_of-below f small n) from ∙ ap (nat_bit (f n)) none ∙ lowest ∙ ap f (sym here))
    (cases_lt j n)

-- numbers with the same bits are equal
pub number_of-same : (f g : ℕ → ℕ) (n : ℕ) → ((j : ℕ) → j < n → f j ≡ g j) → number_of f n ≡ number_of g n
unfolding number_of
number_of-same f g n same = sum_agree (λ j. f j * 2 ^ j) (λ j. g j * 2 ^ j) n (λ j few. ap (λ x. x * 2 ^ j) (same j few))

-- the low n bits of a number
pub number_of-bits : (m n : ℕ) → number_of (nat_bit m) n ≡ m % 2 ^ n
unfolding number_of
number_of-bits m n = sum_of_bits m n

-- bit 8 k + r of three bytes is bit r of byte k among them
bit_of_three : (b : List ℕ) → AreBytes b → (q k r place i : ℕ) → k < 3 → r < 8 → place ≡ q + k → i ≡ 8 * k + r
    → nat_bit (three_bytes b q) i ≡ nat_bit (slice_index b place) r
bit_of_three b bytes q zero r place i few low at is =
    let same : i ≡ r = omega arith in
    let here : q ≡ place = omega arith in
    bit_at_cat_low (slice_index b (q + 2) * 256 + slice_index b (q + 1)) 8 (slice_index b q) i (omega arith) ∙ ap (nat_bit (slice_index b q)) same
    ∙ ap (λ x. nat_bit (slice_index b x) r) here
bit_of_three b bytes q (suc zero) r place i few low at is =
    let same : i - 8 ≡ r = omega arith in
    let here : q + 1 ≡ place = omega arith in
    bit_at_cat_high (slice_index b (q + 2) * 256 + slice_index b (q + 1)) 8 (slice_index b q) i (bytes q) (omega arith)
    ∙ bit_at_cat_low (slice_index b (q + 2)) 8 (slice_index b (q + 1)) (i - 8) (omega arith) ∙ ap (nat_bit (slice_index b (q + 1))) same
    ∙ ap (λ x. nat_bit (slice_index b x) r) here
bit_of_three b bytes q (suc (suc zero)) r place i few low at is =
    let same : i - 8 - 8 ≡ r = omega arith in
    let here : q + 2 ≡ place = omega arith in
    bit_at_cat_high (slice_index b (q + 2) * 256 + slice_index b (q + 1)) 8 (slice_index b q) i (bytes q) (omega arith)
    ∙ bit_at_cat_high (slice_index b (q + 2)) 8 (slice_index b (q + 1)) (i - 8) (bytes (q + 1)) (omega arith) ∙ ap (nat_bit (slice_index b (q + 2))) same
    ∙ ap (λ x. nat_bit (slice_index b x) r) here
bit_of_three b bytes q (suc (suc (suc k))) r place i few low at is = absurd (omega arith)

bit_at_by_three : (b : List ℕ) → AreBytes b → (p j : ℕ) → j < 12 → bit_at b (p + j) ≡ nat_bit (three_bytes b (p / 8) / 2 ^ (p % 8)) j
unfolding bit_at
bit_at_by_three b bytes p j few =
    sym (ap (λ v. v % 2) (shr-shr (three_bytes b (p / 8)) (p % 8) j)
    ∙ bit_of_three b bytes (p / 8) ((p + j) / 8 - p / 8) ((p + j) % 8) ((p + j) / 8) (p % 8 + j) (omega arith) (omega arith) (omega arith) (omega arith))

-- a word by three whole bytes
pub word_at_by_bytes : (b : List ℕ) (p : ℕ) → AreBytes b → word_at b p ≡ three_bytes b (p / 8) / 2 ^ (p % 8) % 2 ^ 12
word_at_by_bytes b p bytes =
    let m = three_bytes b (p / 8) / 2 ^ (p % 8) in
    unfold word_at in
    number_of-same (λ j. bit_at b (p + j)) (nat_bit m) 12 (λ j few. bit_at_by_three b bytes p j few) ∙ number_of-bits m 12

pub word_at_below : (b : List ℕ) (p : ℕ) → word_at b p < 4096
unfolding word_at
word_at_below b p = number_of-below (λ j. bit_at b (p + j)) (λ j. bit_at_below b (p + j)) 12

-- words with the same bits are equal
pub word_at_same : (b c : List ℕ) (p q : ℕ) → ((j : ℕ) → j < 12 → bit_at b (p + j) ≡ bit_at c (q + j)) → word_at b p ≡ word_at c q
unfolding word_at
word_at_same b c p q same = number_of-same (λ j. bit_at b (p + j)) (λ j. bit_at c (q + j)) 12 same
