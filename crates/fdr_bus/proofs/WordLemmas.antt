-- The bits of a bus word, one after the other.
use native.Mathlib.Nat.{div-div-eq-div-mul}
use lib.Count.{ones, ones_step}
use Rattle.std.proofs.Common.{◌≡◌, ℕ, suc, zero, ◌+◌, ◌-◌, ◌*◌, ◌/◌, ◌%◌, ◌^◌, ◌<◌, ◌≤◌, [], ◌∷◌, fold, sum_by, refl, sym, ap, ◌∙◌, arith}
use Rattle.std.specs.Prelude.{bit_and, count_ones}
use Rattle.std.specs.Int.{bit_at, reverse_bits, reverse_bits_onto, w8}
use Rattle.std.specs.List.{range_with_len}
use Rattle.std.proofs.lemmas.Nat.{and_mask, div-add-mod', pow-add}
use Rattle.std.proofs.lemmas.Nat.Bits.{bit_at_cat_low, shr_and_one}
use Rattle.std.proofs.lemmas.List.Sums.{sum_by_push, fold-append}
use Rattle.fdr_bus.specs.Words.{bus_bit, ones_to, reversed_to}
use Rattle.fdr_lists.proofs.Ranges.{range_suc}

-- bit n + 1 by a shift
bus_bit_shift : (word n : ℕ) → bus_bit word (1 + n) ≡ word / 2 ^ n % 2
bus_bit_shift word n = let e : 1 + n - 1 ≡ n = omega arith in ap (λ i. word / 2 ^ i % 2) e

-- one bit more
pub ones_to_more : (word n : ℕ) → ones_to word (suc n) ≡ ones_to word n + word / 2 ^ n % 2
unfolding ones_to
ones_to_more word n =
    ap (sum_by (bus_bit word)) (range_suc 1 n)
    ∙ sum_by_push (bus_bit word) (range_with_len 1 n) (1 + n)
    ∙ ap (λ x. sum_by (bus_bit word) (range_with_len 1 n) + x) (bus_bit_shift word n)

pub reversed_to_more : (word n : ℕ) → reversed_to word (suc n) ≡ reversed_to word n * 2 + word / 2 ^ n % 2
unfolding reversed_to
reversed_to_more word n =
    let step : ℕ → ℕ → ℕ = λ number i. number * 2 + bus_bit word i in
    ap (fold step 0) (range_suc 1 n)
    ∙ fold-append step 0 (range_with_len 1 n) ((1 + n) ∷ [])
    ∙ ap (λ x. fold step 0 (range_with_len 1 n) * 2 + x) (bus_bit_shift word n)

pub ones_to_none : (word : ℕ) → ones_to word 0 ≡ 0
unfolding ones_to
ones_to_none word = refl

pub reversed_to_none : (word : ℕ) → reversed_to word 0 ≡ 0
unfolding reversed_to
reversed_to_none word = refl

-- each shift by one more halves what is left
shift_more : (word n : ℕ) → word / 2 ^ n / 2 ≡ word / 2 ^ (n + 1)
shift_more word n = div-div-eq-div-mul word (2 ^ n) 2 ∙ ap (λ d. word / d) (sym (pow-add 2 n 1))

-- the bits up to one are counted, and what is above it
count_ones-split : (word n : ℕ) → count_ones word ≡ ones_to word n + count_ones (word / 2 ^ n)
count_ones-split word zero = rw ones_to_none (grind arith)
count_ones-split word (suc n) =
    let next : n + 1 ≡ suc n = omega arith in
    let half : count_ones (word / 2 ^ n / 2) ≡ count_ones (word / 2 ^ suc n) =
    ap count_ones (shift_more word n) ∙ ap (λ k. count_ones (word / 2 ^ k)) next in
    omega (arith, count_ones-split word n, ones_step (word / 2 ^ n), half, ones_to_more word n)

-- all bits of a word of 32
pub count_ones-word : (word : ℕ) → word < 2 ^ 32 → count_ones word ≡ ones_to word 32
unfolding ones
count_ones-word word fits =
    let nothing : word / 2 ^ 32 ≡ 0 = omega arith in
    let none : count_ones (word / 2 ^ 32) ≡ 0 = ap count_ones nothing ∙ refl in
    omega (arith, count_ones-split word 32, none)

-- the library's reversal of k bits takes one after the other
reverse_bits_onto-bits : (k i word number : ℕ)
    → reverse_bits_onto k (word / 2 ^ i) number ≡ fold (λ n j. n * 2 + bus_bit word j) number (range_with_len (1 + i) k)
unfolding reverse_bits_onto
reverse_bits_onto-bits zero i word number = refl
reverse_bits_onto-bits (suc k) i word number =
    let step : ℕ → ℕ → ℕ = λ n j. n * 2 + bus_bit word j in
    let bit : word / 2 ^ i % 2 ≡ bus_bit word (1 + i) = sym (bus_bit_shift word i) in
    let place : 1 + (i + 1) ≡ 1 + i + 1 = omega arith in
    ap (λ rest. reverse_bits_onto k rest (number * 2 + word / 2 ^ i % 2)) (shift_more word i)
    ∙ ap (λ b. reverse_bits_onto k (word / 2 ^ (i + 1)) (number * 2 + b)) bit
    ∙ reverse_bits_onto-bits k (i + 1) word (number * 2 + bus_bit word (1 + i))
    ∙ ap (λ first. fold step (number * 2 + bus_bit word (1 + i)) (range_with_len first k)) place

-- bit n by the library's name
shifted_bit : (word n : ℕ) → word / 2 ^ n % 2 ≡ bit_at word n
shifted_bit word n = sym (and_mask (word / 2 ^ n) 1) ∙ shr_and_one word n

-- the low bits of a word are those of its low part
low_bit : (word m n : ℕ) → n < m → word % 2 ^ m / 2 ^ n % 2 ≡ word / 2 ^ n % 2
low_bit word m n low =
    shifted_bit (word % 2 ^ m) n
    ∙ sym (bit_at_cat_low (word / 2 ^ m) m (word % 2 ^ m) n low)
    ∙ ap (λ w. bit_at w n) (div-add-mod' word (2 ^ m))
    ∙ sym (shifted_bit word n)

pub reversed_to-low : (word m n : ℕ) → n ≤ m → reversed_to (word % 2 ^ m) n ≡ reversed_to word n
reversed_to-low word m zero low = reversed_to_none (word % 2 ^ m) ∙ sym (reversed_to_none word)
reversed_to-low word m (suc n) low = omega (
  arith,
  reversed_to_more (word % 2 ^ m) n,
  reversed_to_more word n,
  reversed_to-low word m n (omega arith),
  low_bit word m n (omega arith),
)

-- a byte's bits the other way round
pub reverse_bits-low : (word : ℕ) → reverse_bits w8 (bit_and word 0xff) ≡ reversed_to word 8
unfolding reversed_to
reverse_bits-low word =
    let whole : word % 2 ^ 8 ≡ word % 2 ^ 8 / 2 ^ 0 = grind arith in
    ap (λ byte. reverse_bits_onto 8 byte 0) (and_mask word 8 ∙ whole)
    ∙ reverse_bits_onto-bits 8 0 (word % 2 ^ 8) 0
    ∙ reversed_to-low word 8 8 (omega arith)
