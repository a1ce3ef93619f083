-- A generated word reads as its fields.
use Rattle.std.proofs.Common.{◌≡◌, ℕ, zero, suc, ◌+◌, ◌-◌, ◌*◌, ◌/◌, ◌%◌, ◌^◌, ◌<◌, ◌≤◌, Bool, true, false, ◌==◌, ◌≢◌, length, refl, sym, ap, ◌∙◌, arith}
use Rattle.std.specs.Prelude.{bit_and, if◌then◌else◌, nat_le, nat_lt, IsTrue, Option, Some, None}
use Rattle.std.specs.Option.{option_map_or, unwrap_or}
use Rattle.fdr_table.specs.Bounds.{most_sdi}
use Rattle.std.specs.List.{list_all, range_with_len}
use Rattle.std.specs.Int.{reverse_bits, w8}
use Rattle.std.proofs.lemmas.Bool.{eqb-true, eq-eqb, leb-true, ltb-true}
use Rattle.std.proofs.lemmas.Nat.{and_mask, mod_below, pow-add, pow_pos}
use Rattle.std.proofs.Math.Nat.{add-mul-div_right, add-mul-mod_self_right}
use Rattle.std.proofs.lemmas.List.FromFn.{get_or-range_with_len, length-range_with_len}
use Rattle.std.proofs.lemmas.List.Sums.{AllPass-from_list_all}
use Rattle.fdr_bus.specs.Words.{bits_at, is_odd, label_of, ones_to, reversed_to, sdi_of}
use Rattle.fdr_bus.proofs.WordLemmas.{ones_to_more, ones_to_none, reversed_to_more, reversed_to_none, reverse_bits-low}
use Rattle.fdr_bus.proofs.Labels.{label_fits, label_turns}
use Rattle.fdr_gen.specs.Trace.{Sender, fields_of, bus_word_of}

-- a label the other way round
pub reversed_label : (label : ℕ) → label < 256 → reverse_bits w8 label ≡ reversed_to label 8
reversed_label label low =
    let whole : label % 2 ^ 8 ≡ label = omega arith in
    let same : bit_and label 0xff ≡ label = and_mask label 8 ∙ whole in
    ap (reverse_bits w8) (sym same) ∙ reverse_bits-low label

pub word_of-odd : (s : Sender) (number : ℕ) → is_odd (fields_of s number) ≡ true → bus_word_of s number ≡ fields_of s number
unfolding bus_word_of
word_of-odd s number odd = ap (λ b. if b then fields_of s number else fields_of s number + 2 ^ 31) odd

pub word_of-even : (s : Sender) (number : ℕ) → is_odd (fields_of s number) ≡ false → bus_word_of s number ≡ fields_of s number + 2 ^ 31
unfolding bus_word_of
word_of-even s number even = ap (λ b. if b then fields_of s number else fields_of s number + 2 ^ 31) even

pub fields_is : (s : Sender) (number reversed label sdi bits : ℕ) → reversed ≡ reverse_bits w8 s.label → label ≡ reversed
    → s.label < 256 → sdi ≡ s.sdi → s.sdi < 4 → bits ≡ bits_at number 11 21 → bits < 2 ^ 21
    → label + sdi * 256 % 4294967296 + bits * 1024 % 4294967296 ≡ fields_of s number
fields_is s number reversed label sdi bits is_reversed is_label byte is_sdi two is_bits fits =
    let lab : label ≡ reversed_to s.label 8 = is_label ∙ is_reversed ∙ reversed_label s.label byte in
    omega arith

pub odd_word : (s : Sender) (number fields : ℕ) → fields ≡ fields_of s number → is_odd fields ≡ true → fields ≡ bus_word_of s number
odd_word s number fields is odd = is ∙ sym (word_of-odd s number (ap is_odd (sym is) ∙ odd))

pub even_word : (s : Sender) (number fields : ℕ) → fields ≡ fields_of s number → is_odd fields ≡ false
    → fields + 2 ^ 31 ≡ bus_word_of s number
even_word s number fields is even = ap (λ n. n + 2 ^ 31) is ∙ sym (word_of-even s number (ap is_odd (sym is) ∙ even))

-- bits of a number stay where it is added to above them
low_bit : (low high k n : ℕ) → n < k → (low + high * 2 ^ k) / 2 ^ n % 2 ≡ low / 2 ^ n % 2
low_bit low high k n below =
    let m = k - suc n in
    let parts : k ≡ m + 1 + n = omega arith in
    let power : 2 ^ k ≡ 2 ^ m * 2 * 2 ^ n =
    ap (λ x. 2 ^ x) parts ∙ pow-add 2 (m + 1) n ∙ ap (λ x. x * 2 ^ n) (pow-add 2 m 1) in
    let above : high * (2 ^ m * 2 * 2 ^ n) ≡ high * 2 ^ m * 2 * 2 ^ n = omega arith in
    ap (λ x. (low + high * x) / 2 ^ n % 2) power
    ∙ ap (λ x. (low + x) / 2 ^ n % 2) above
    ∙ ap (λ x. x % 2) (add-mul-div_right low (high * 2 ^ m * 2) (pow_pos n))
    ∙ add-mul-mod_self_right (low / 2 ^ n) (high * 2 ^ m) 2

-- what is made of the n lowest bits, one bit at a time, is made of the lower part
low_bits : (f : ℕ → ℕ → ℕ) (more : ℕ → ℕ → ℕ) → ((m : ℕ) → f m 0 ≡ 0) → ((m n : ℕ) → f m (suc n) ≡ more (f m n) (m / 2 ^ n % 2))
    → (low high k n : ℕ) → n ≤ k → f (low + high * 2 ^ k) n ≡ f low n
low_bits f more none next low high k zero below = none (low + high * 2 ^ k) ∙ sym (none low)
low_bits f more none next low high k (suc n) below =
    next (low + high * 2 ^ k) n ∙ ap (λ x. more x ((low + high * 2 ^ k) / 2 ^ n % 2)) (low_bits f more none next low high k n (omega arith))
    ∙ ap (more (f low n)) (low_bit low high k n (omega arith)) ∙ sym (next low n)

second_field : (a b c : ℕ) → a < 256 → b < 4 → (a + 256 * b + 1024 * c) / 256 % 4 ≡ b
second_field a b c low two = omega arith

third_field : (a b c : ℕ) → a < 1024 → b < 2 ^ 21 → (a + 1024 * (b + 2 ^ 21 * c)) / 2 ^ 10 % 2 ^ 21 ≡ b
third_field a b c low fits = omega arith

-- bit 32 is 1 more
one_more : (f : ℕ) → f < 2 ^ 31 → ones_to (f + 2 ^ 31) 32 ≡ ones_to f 32 + 1
one_more f fits =
    let as_product : f + 1 * 2 ^ 31 ≡ f + 2 ^ 31 = omega arith in
    let with_bit : (f + 2 ^ 31) / 2 ^ 31 % 2 ≡ 1 = omega arith in
    let without : f / 2 ^ 31 % 2 ≡ 0 = omega arith in
    let low : ones_to (f + 2 ^ 31) 31 ≡ ones_to f 31 =
    ap (λ x. ones_to x 31) (sym as_product) ∙ low_bits ones_to (λ x bit. x + bit) ones_to_none ones_to_more f 1 31 31 (omega arith) in
    omega (arith, ones_to_more (f + 2 ^ 31) 31, ones_to_more f 31, low, with_bit, without)

made_odd : (f : ℕ) → f < 2 ^ 31 → is_odd (if is_odd f then f else f + 2 ^ 31) ≡ true
made_odd f fits =
    elim (is_odd f) as (λ odd. is_odd f ≡ odd → is_odd (if odd then f else f + 2 ^ 31) ≡ true) [
      | true ↦ (λ h. h)
      | false ↦ (λ h.
          let not_one : ones_to f 32 % 2 ≢ 1 = λ one. let yes : is_odd f ≡ true = eq-eqb (ones_to f 32 % 2) 1 one in absurd (cc) in
          let one : ones_to (f + 2 ^ 31) 32 % 2 ≡ 1 = omega (arith, one_more f fits, not_one) in
          eq-eqb (ones_to (f + 2 ^ 31) 32 % 2) 1 one)
    ] refl

bits_fit : (number : ℕ) → bits_at number 11 21 < 2 ^ 21
bits_fit number = mod_below (number / 2 ^ 10) (2 ^ 21) (pow_pos 21)

-- the word has its fields, and bit 32 or not
word_is : (s : Sender) (number : ℕ) → (top : ℕ) × (top < 2) × (bus_word_of s number ≡ fields_of s number + top * 2 ^ 31)
unfolding bus_word_of
word_is s number =
    elim (is_odd (fields_of s number)) as (λ odd. (top : ℕ) × (top < 2)
    × ((if odd then fields_of s number else fields_of s number + 2 ^ 31) ≡ fields_of s number + top * 2 ^ 31)) [
      | true ↦ (0, omega arith, omega arith)
      | false ↦ (1, omega arith, omega arith)
    ]

pub reads_label : (s : Sender) (number : ℕ) → s.label < 256 → label_of (bus_word_of s number) ≡ s.label
reads_label s number low =
    let w = word_is s number in
    let top = w.0 in
    let high = s.sdi + 4 * bits_at number 11 21 + top * 2 ^ 23 in
    let parts : bus_word_of s number ≡ reversed_to s.label 8 + high * 2 ^ 8 = omega (arith, w.2) in
    ap (λ x. reversed_to x 8) parts
    ∙ low_bits reversed_to (λ x bit. x * 2 + bit) reversed_to_none reversed_to_more (reversed_to s.label 8) high 8 8 (omega arith)
    ∙ label_turns s.label low

pub reads_sdi : (s : Sender) (number : ℕ) → s.label < 256 → s.sdi < 4 → sdi_of (bus_word_of s number) ≡ s.sdi
reads_sdi s number low two =
    let w = word_is s number in
    let top = w.0 in
    let fits = label_fits s.label in
    let rest = bits_at number 11 21 in
    let parts : bus_word_of s number ≡ reversed_to s.label 8 + 256 * s.sdi + 1024 * (rest + top * 2 ^ 21) = omega (arith, w.2) in
    ap (λ x. x / 256 % 4) parts ∙ second_field (reversed_to s.label 8) s.sdi (rest + top * 2 ^ 21) fits two

pub reads_data : (s : Sender) (number : ℕ) → s.label < 256 → s.sdi < 4
    → bits_at (bus_word_of s number) 11 21 ≡ bits_at number 11 21
reads_data s number low two =
    let w = word_is s number in
    let top = w.0 in
    let fits = label_fits s.label in
    let rest = bits_at number 11 21 in
    let parts : bus_word_of s number ≡ reversed_to s.label 8 + 256 * s.sdi + 1024 * (rest + 2 ^ 21 * top) = omega (arith, w.2) in
    ap (λ x. x / 2 ^ 10 % 2 ^ 21) parts
    ∙ third_field (reversed_to s.label 8 + 256 * s.sdi) rest top (omega arith) (bits_fit number)

pub reads_odd : (s : Sender) (number : ℕ) → s.label < 256 → s.sdi < 4 → is_odd (bus_word_of s number) ≡ true
unfolding bus_word_of
reads_odd s number low two =
    let f = fields_of s number in
    let label = label_fits s.label in
    let bits = bits_fit number in
    let fits : f < 2 ^ 31 = omega arith in
    made_odd f fits

pub small_sdi : (sdi : Option ℕ) → IsTrue (option_map_or (λ n. nat_le n most_sdi) sdi true) → unwrap_or sdi 0 < 4
small_sdi None low = omega arith
small_sdi (Some n) low = omega (arith, leb-true n most_sdi low)
