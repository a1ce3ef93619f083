-- Words packed as bytes: the bits of the bytes, and the bytes of a pair of words.
use Rattle.std.proofs.Common.{◌≡◌, ℕ, zero, suc, ◌+◌, ◌-◌, ◌*◌, ◌/◌, ◌%◌, ◌^◌, ◌<◌, ◌≤◌, List, [], ◌∷◌, ◌++◌, length, map, slice_index, refl, sym, ap, ◌∙◌}
use Rattle.std.proofs.Common.{⊎_elim, arith}
use Rattle.std.specs.Int.{bit_at as nat_bit}
use Rattle.std.specs.List.{range_with_len}
use Rattle.std.proofs.lemmas.Bool.{cases_lt}
use Rattle.std.proofs.lemmas.Nat.{shr-shr, mod_below}
use Rattle.std.proofs.lemmas.Nat.Bits.{bit_at_cat_low, bit_at_cat_high}
use Rattle.std.proofs.lemmas.List.FromFn.{length-map-range_with_len, get_or-map-range_with_len}
use Rattle.fdr_bits.specs.Bits.{bits_in, bit_at, number_of}
use Rattle.fdr_bits.proofs.WordLemmas.{number_of-bit, number_of-bits, number_of-same}
use Rattle.fdr_bits.proofs.PairLemmas.{pair_bytes}
use Rattle.fdr_sampler.specs.Stream.{word_bit, packed}

-- twelve bits
abbrev pub IsWord : ℕ → Type 0
IsWord word = word < 4096

byte_of : List ℕ → ℕ → ℕ
byte_of words i = number_of (λ j. word_bit words (8 * i + j)) 8

packed_is : (words : List ℕ) (n : ℕ) → (12 * length words + 7) / 8 ≡ n → packed words ≡ map (byte_of words) (range_with_len 0 n)
unfolding packed byte_of
packed_is words n count = ap (λ m. map (byte_of words) (range_with_len 0 m)) count

-- two words fill three bytes, and one fills two
pub length-packed : (words : List ℕ) → length (packed words) ≡ (3 * length words + 1) / 2
unfolding packed byte_of
length-packed words = length-map-range_with_len (byte_of words) 0 ((12 * length words + 7) / 8) ∙ omega arith

-- bit p of the bytes is bit p of the words
pub bit_at-packed : (words : List ℕ) (p : ℕ) → p < bits_in (packed words) → bit_at (packed words) p ≡ word_bit words p
unfolding bit_at packed byte_of
bit_at-packed words p within =
    let n = (12 * length words + 7) / 8 in
    let low : p / 8 < n = omega (arith, length-map-range_with_len (byte_of words) 0 n) in
    let place : 8 * (p / 8) + p % 8 ≡ p = omega arith in
    ap (λ x. nat_bit x (p % 8)) (get_or-map-range_with_len (byte_of words) 0 n (p / 8) (p / 8) 0 low (omega arith))
    ∙ number_of-bit (λ j. word_bit words (8 * (p / 8) + j)) (λ j. mod_below _ 2 (omega arith)) 8 (p % 8) (omega arith)
    ∙ ap (word_bit words) place

-- ---- by pairs of words

-- a bit of a pair of words is a bit of the two as one number
bit_of_pair : (words : List ℕ) (a b p : ℕ) → slice_index words 0 ≡ a → slice_index words 1 ≡ b → a < 4096 → p < 24 →
    word_bit words p ≡ nat_bit (b * 2 ^ 12 + a) p
bit_of_pair words a b p first second fits few =
    ⊎_elim
    (λ (low : p < 12).
    let at : p / 12 ≡ 0 = omega arith in
    let bit : p % 12 ≡ p = omega arith in
    ap (λ k. slice_index words k / 2 ^ (p % 12) % 2) at ∙ ap (λ x. x / 2 ^ (p % 12) % 2) first ∙ ap (λ k. a / 2 ^ k % 2) bit
    ∙ sym (bit_at_cat_low b 12 a p low))
    (λ (high : 12 ≤ p).
    let at : p / 12 ≡ 1 = omega arith in
    let bit : p % 12 ≡ p - 12 = omega arith in
    ap (λ k. slice_index words k / 2 ^ (p % 12) % 2) at ∙ ap (λ x. x / 2 ^ (p % 12) % 2) second ∙ ap (λ k. b / 2 ^ k % 2) bit
    ∙ sym (bit_at_cat_high b 12 a p fits high))
    (cases_lt p 12)

byte_of_pair : (words : List ℕ) (a b i : ℕ) → slice_index words 0 ≡ a → slice_index words 1 ≡ b → a < 4096 → i < 3 →
    byte_of words i ≡ (b * 2 ^ 12 + a) / 2 ^ (8 * i) % 2 ^ 8
unfolding byte_of
byte_of_pair words a b i first second fits few =
    let both = b * 2 ^ 12 + a in
    number_of-same (λ j. word_bit words (8 * i + j)) (nat_bit (both / 2 ^ (8 * i))) 8
    (λ j low. bit_of_pair words a b (8 * i + j) first second fits (omega arith) ∙ ap (λ x. x % 2) (sym (shr-shr both (8 * i) j)))
    ∙ number_of-bits (both / 2 ^ (8 * i)) 8

-- the bytes after a pair are those of the words after it
byte_of_later : (a b : ℕ) (words : List ℕ) (i : ℕ) → byte_of (a ∷ b ∷ words) (3 + i) ≡ byte_of words i
unfolding byte_of
byte_of_later a b words i =
    number_of-same (λ j. word_bit (a ∷ b ∷ words) (8 * (3 + i) + j)) (λ j. word_bit words (8 * i + j)) 8
    (λ j low.
    let at : (8 * (3 + i) + j) / 12 ≡ suc (suc ((8 * i + j) / 12)) = omega arith in
    let bit : (8 * (3 + i) + j) % 12 ≡ (8 * i + j) % 12 = omega arith in
    ap (λ k. slice_index (a ∷ b ∷ words) k / 2 ^ ((8 * (3 + i) + j) % 12) % 2) at ∙ ap (λ k. slice_index words ((8 * i + j) / 12) / 2 ^ k % 2) bit)

map_moved : (f g : ℕ → ℕ) (d a n : ℕ) → ((i : ℕ) → f (d + i) ≡ g i) → map f (range_with_len (d + a) n) ≡ map g (range_with_len a n)
map_moved f g d a zero same = refl
map_moved f g d a (suc n) same =
    let next : d + a + 1 ≡ d + (a + 1) = omega arith in
    ap (λ x. x ∷ map f (range_with_len (d + a + 1) n)) (same a)
    ∙ ap (λ xs. g a ∷ xs) (ap (λ x. map f (range_with_len x n)) next ∙ map_moved f g d (a + 1) n same)

pub packed-none : packed [] ≡ []
unfolding packed
packed-none = refl

-- one word fills a byte, and half of another one
pub packed-one : (a : ℕ) → IsWord a → packed (a ∷ []) ≡ a % 256 ∷ a / 256 ∷ []
packed-one a fits =
    let low : byte_of (a ∷ []) 0 ≡ a % 256 = byte_of_pair (a ∷ []) a 0 0 refl refl fits (omega arith) ∙ omega arith in
    let high : byte_of (a ∷ []) 1 ≡ a / 256 = byte_of_pair (a ∷ []) a 0 1 refl refl fits (omega arith) ∙ omega arith in
    packed_is (a ∷ []) 2 refl ∙ ap (λ x. x ∷ byte_of (a ∷ []) 1 ∷ []) low ∙ ap (λ x. a % 256 ∷ x ∷ []) high

-- a pair of words fills three bytes, and the words after it are packed by themselves
pub packed-pair : (a b : ℕ) (words : List ℕ) → IsWord a → IsWord b → packed (a ∷ b ∷ words) ≡ pair_bytes a b ++ packed words
packed-pair a b words a_fits b_fits =
    let all = a ∷ b ∷ words in
    let rest = (12 * length words + 7) / 8 in
    let count : (12 * length all + 7) / 8 ≡ suc (suc (suc rest)) = omega arith in
    let first : byte_of all 0 ≡ a % 256 = byte_of_pair all a b 0 refl refl a_fits (omega arith) ∙ omega arith in
    let second : byte_of all 1 ≡ a / 256 + 16 * (b % 16) = byte_of_pair all a b 1 refl refl a_fits (omega arith) ∙ omega arith in
    let third : byte_of all 2 ≡ b / 16 = byte_of_pair all a b 2 refl refl a_fits (omega arith) ∙ omega arith in
    let later = map (byte_of all) (range_with_len 3 rest) in
    packed_is all (suc (suc (suc rest))) count
    ∙ ap (λ x. x ∷ byte_of all 1 ∷ byte_of all 2 ∷ later) first
    ∙ ap (λ x. a % 256 ∷ x ∷ byte_of all 2 ∷ later) second
    ∙ ap (λ x. a % 256 ∷ (a / 256 + 16 * (b % 16)) ∷ x ∷ later) third
    ∙ ap (λ xs. pair_bytes a b ++ xs) (map_moved (byte_of all) (byte_of words) 3 0 rest (byte_of_later a b words) ∙ sym (packed_is words rest refl))
