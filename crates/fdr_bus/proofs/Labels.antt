-- The label of a bus word, and the first byte of the words that have it.
use native.Mathlib.Nat.{div-div-eq-div-mul}
use Rattle.std.proofs.Common.{◌≡◌, ℕ, zero, suc, ◌+◌, ◌-◌, ◌*◌, ◌/◌, ◌%◌, ◌^◌, ◌<◌, ◌≤◌, Bool, true, ◌==◌, length, refl, sym, ap, ◌∙◌, subst, arith}
use Rattle.std.specs.Prelude.{nat_lt}
use Rattle.std.specs.List.{list_all, range_with_len}
use Rattle.std.proofs.lemmas.Bool.{eqb-true, ltb-true}
use Rattle.std.proofs.lemmas.List.FromFn.{get_or-range_with_len, length-range_with_len}
use Rattle.std.proofs.lemmas.List.Sums.{AllPass-from_list_all}
use Rattle.fdr_bus.specs.Words.{bus_bit, label_of, reversed_to}
use Rattle.fdr_bus.proofs.WordLemmas.{reversed_to-low, reversed_to_more}

turns_back : list_all (λ x. reversed_to (reversed_to x 8) 8 == x) (range_with_len 0 256) ≡ true
unfolding reversed_to
turns_back = refl

reversed_small : list_all (λ x. nat_lt (reversed_to x 8) 256) (range_with_len 0 256) ≡ true
unfolding reversed_to
reversed_small = refl

for_byte : (p : ℕ → Bool) → list_all p (range_with_len 0 256) ≡ true → (x : ℕ) → x < 256 → p x ≡ true
for_byte p all x low =
    let inside : x < length (range_with_len 0 256) = omega (arith, length-range_with_len 0 256) in
    let at : 0 + x ≡ x = omega arith in
    ap p (sym (get_or-range_with_len 0 256 x x low ∙ at)) ∙ AllPass-from_list_all p (range_with_len 0 256) all x x inside

-- it is that of the first byte alone
pub label_of-low : (word : ℕ) → label_of word ≡ label_of (word % 256)
label_of-low word = sym (reversed_to-low word 8 8 (omega arith))

-- a byte that is turned twice is what it was
pub label_turns : (label : ℕ) → label < 256 → label_of (label_of label) ≡ label
label_turns label low = eqb-true (label_of (label_of label)) label (for_byte (λ x. reversed_to (reversed_to x 8) 8 == x) turns_back label low)

pub label_fits : (word : ℕ) → label_of word < 256
label_fits word =
    subst (λ x. x < 256) (sym (label_of-low word))
    (ltb-true (label_of (word % 256)) 256 (for_byte (λ x. nat_lt (reversed_to x 8) 256) reversed_small (word % 256) (omega arith)))

-- the bits that are read first are the higher ones
reversed_high : (word n m : ℕ) → reversed_to word (n + m) / 2 ^ m ≡ reversed_to word n
reversed_high word n zero = let same : n + 0 ≡ n = omega arith in let whole : reversed_to word n / 2 ^ 0 ≡ reversed_to word n = omega arith in
    ap (λ k. reversed_to word k / 2 ^ 0) same ∙ whole
reversed_high word n (suc m) =
    let next : n + suc m ≡ suc (n + m) = omega arith in
    let half : reversed_to word (suc (n + m)) / 2 ≡ reversed_to word (n + m) = omega (arith, reversed_to_more word (n + m)) in
    let power : 2 ^ suc m ≡ 2 * 2 ^ m = omega arith in
    ap (λ k. reversed_to word k / 2 ^ suc m) next
    ∙ ap (λ d. reversed_to word (suc (n + m)) / d) power
    ∙ sym (div-div-eq-div-mul (reversed_to word (suc (n + m))) 2 (2 ^ m))
    ∙ ap (λ x. x / 2 ^ m) half
    ∙ reversed_high word n m

reversed_last : (word i : ℕ) → reversed_to word (suc i) % 2 ≡ bus_bit word (suc i)
reversed_last word i =
    let place : suc i - 1 ≡ i = omega arith in
    let last : reversed_to word (suc i) % 2 ≡ word / 2 ^ i % 2 = omega (arith, reversed_to_more word i) in
    last ∙ ap (λ k. word / 2 ^ k % 2) (sym place)

pub label_bit : (word i : ℕ) → 1 ≤ i → i ≤ 8 → bus_bit (label_of word) (9 - i) ≡ bus_bit word i
label_bit word zero some within = absurd (omega (arith, some))
label_bit word (suc i) some within =
    let m : 9 - suc i - 1 ≡ 7 - i = omega arith in
    let all : 8 ≡ suc i + (7 - i) = omega (arith, within) in
    ap (λ k. label_of word / 2 ^ k % 2) m
    ∙ ap (λ k. reversed_to word k / 2 ^ (7 - i) % 2) all
    ∙ ap (λ x. x % 2) (reversed_high word (suc i) (7 - i))
    ∙ reversed_last word i
