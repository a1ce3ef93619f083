-- Bits and words of bytes that are followed, or preceded, by others.
use Rattle.std.proofs.Common.{◌≡◌, ℕ, ◌+◌, ◌/◌, ◌%◌, ◌^◌, ◌<◌, ◌≤◌, List, ◌++◌, length, slice_index, ap, ◌∙◌, arith}
use Rattle.std.proofs.lemmas.List.{get_or_append_left, get_or-append-add}
use Rattle.fdr_bits.specs.Bits.{bits_in, bit_at, word_at}
use Rattle.fdr_bits.proofs.WordLemmas.{word_at_same}

-- bytes that follow change no bit before them
pub bit_at_append_left : (b more : List ℕ) (p : ℕ) → p < bits_in b → bit_at (b ++ more) p ≡ bit_at b p
unfolding bit_at
bit_at_append_left b more p within = ap (λ x. x / 2 ^ (p % 8) % 2) (get_or_append_left b more 0 (p / 8) (omega arith))

-- bytes that go before move each bit
pub bit_at_append_right : (gone b : List ℕ) (p : ℕ) → bit_at (gone ++ b) (bits_in gone + p) ≡ bit_at b p
unfolding bit_at
bit_at_append_right gone b p =
    let place : (bits_in gone + p) / 8 ≡ length gone + p / 8 = omega arith in
    let low : (bits_in gone + p) % 8 ≡ p % 8 = omega arith in
    ap (λ x. slice_index (gone ++ b) x / 2 ^ ((bits_in gone + p) % 8) % 2) place
    ∙ ap (λ x. slice_index (gone ++ b) (length gone + p / 8) / 2 ^ x % 2) low
    ∙ ap (λ x. x / 2 ^ (p % 8) % 2) (get_or-append-add gone b (p / 8) 0)

pub word_at_append_left : (b more : List ℕ) (p : ℕ) → p + 12 ≤ bits_in b → word_at (b ++ more) p ≡ word_at b p
word_at_append_left b more p within = word_at_same (b ++ more) b p p (λ j few. bit_at_append_left b more (p + j) (omega arith))

pub word_at_append_right : (gone b : List ℕ) (p : ℕ) → word_at (gone ++ b) (bits_in gone + p) ≡ word_at b p
word_at_append_right gone b p = word_at_same (gone ++ b) b (bits_in gone + p) p
    (λ j few. let place : bits_in gone + p + j ≡ bits_in gone + (p + j) = omega arith in
    ap (bit_at (gone ++ b)) place ∙ bit_at_append_right gone b (p + j))
