-- Words that are packed one after another.
use Rattle.std.proofs.Common.{◌≡◌, ℕ, ◌+◌, ◌*◌, ◌/◌, ◌%◌, ◌≤◌, List, [], ◌∷◌, ◌++◌, Option, Some, None, length, refl, ap, ◌∙◌, arith}
use Rattle.std.specs.List.{All}
use Rattle.std.proofs.lemmas.List.Elements.{All-tail}
use Rattle.fdr_bits.proofs.PairLemmas.{pair_bytes}
use Rattle.fdr_sampler.specs.Stream.{packed}
use Rattle.fdr_sampler.proofs.Packing.{IsWord, packed-none, packed-one, packed-pair}
use Rattle.fdr_stream.specs.Packing.{unpaired, whole_bytes, filled_by, unpaired_after, last_byte}

-- the bits that wait after further words
pub unpaired-append : (words more : List ℕ) → unpaired (words ++ more) ≡ unpaired_after (unpaired words) more
unfolding unpaired unpaired_after
unpaired-append [] more = refl
unpaired-append (a ∷ []) [] = refl
unpaired-append (a ∷ []) (b ∷ more) = refl
unpaired-append (a ∷ b ∷ words) more = unpaired-append words more

-- the bytes that are whole after further words
pub whole_bytes-append : (words more : List ℕ) → whole_bytes (words ++ more) ≡ whole_bytes words ++ filled_by (unpaired words) more
unfolding unpaired whole_bytes filled_by
whole_bytes-append [] more = refl
whole_bytes-append (a ∷ []) [] = refl
whole_bytes-append (a ∷ []) (b ∷ more) = refl
whole_bytes-append (a ∷ b ∷ words) more =
    ap (λ bytes. a % 256 ∷ (a / 256 + 16 * (b % 16)) ∷ b / 16 ∷ bytes) (whole_bytes-append words more)

-- and after more of them, where four bits may wait for the first
pub unpaired_after-append : (odd : Option ℕ) (words more : List ℕ) → unpaired_after odd (words ++ more) ≡ unpaired_after (unpaired_after odd words) more
unfolding unpaired_after
unpaired_after-append None words more = unpaired-append words more
unpaired_after-append (Some bits) [] more = refl
unpaired_after-append (Some bits) (word ∷ words) more = unpaired-append words more

pub filled_by-append : (odd : Option ℕ) (words more : List ℕ) → filled_by odd (words ++ more) ≡ filled_by odd words ++ filled_by (unpaired_after odd words) more
unfolding filled_by unpaired_after
filled_by-append None words more = whole_bytes-append words more
filled_by-append (Some bits) [] more = refl
filled_by-append (Some bits) (word ∷ words) more =
    ap (λ bytes. (bits + 16 * (word % 16)) ∷ word / 16 ∷ bytes) (whole_bytes-append words more)

pub length-last_byte : (odd : Option ℕ) → length (last_byte odd) ≤ 1
unfolding last_byte
length-last_byte None = omega arith
length-last_byte (Some a) = omega arith

-- three bytes are whole of two words
pub length-whole_bytes : (words : List ℕ) → length (whole_bytes words) ≡ 3 * length words / 2
unfolding whole_bytes
length-whole_bytes [] = refl
length-whole_bytes (a ∷ []) = refl
length-whole_bytes (a ∷ b ∷ words) = omega (arith, length-whole_bytes words)

-- this many bytes are whole of further words
pub length-filled_by : (odd : Option ℕ) (words : List ℕ) → (3 * length words / 2 ≤ length (filled_by odd words))
    × (length (filled_by odd words) ≤ (3 * length words + 1) / 2)
unfolding filled_by
length-filled_by None words = (omega (arith, length-whole_bytes words), omega (arith, length-whole_bytes words))
length-filled_by (Some bits) [] = (omega arith, omega arith)
length-filled_by (Some bits) (word ∷ words) = (omega (arith, length-whole_bytes words), omega (arith, length-whole_bytes words))

-- the bytes after those that some words fill, where more words come
unfoldable pub bytes_after : Option ℕ → List ℕ → List ℕ
bytes_after None more = packed more
bytes_after (Some bits) [] = bits ∷ []
bytes_after (Some bits) (b ∷ more) = (bits + 16 * (b % 16)) ∷ b / 16 ∷ packed more

tail_fits : (a b : ℕ) (words : List ℕ) → All IsWord (a ∷ b ∷ words) → All IsWord words
tail_fits a b words fit = All-tail IsWord b words (All-tail IsWord a (b ∷ words) fit)

-- a pair of words, and those after it
pair_first : (a b : ℕ) (words : List ℕ) → All IsWord (a ∷ b ∷ words) → packed (a ∷ b ∷ words) ≡ pair_bytes a b ++ packed words
pair_first a b words fit = packed-pair a b words (fit 0 0 (omega arith)) (fit 1 0 (omega arith))

-- more words change no whole byte
pub packed-whole : (words more : List ℕ) → All IsWord (words ++ more) → packed (words ++ more) ≡ whole_bytes words ++ bytes_after (unpaired words) more
unfolding unpaired whole_bytes bytes_after
packed-whole [] more fit = refl
packed-whole (a ∷ []) [] fit = packed-one a (fit 0 0 (omega arith))
packed-whole (a ∷ []) (b ∷ more) fit = pair_first a b more fit
packed-whole (a ∷ b ∷ words) more fit =
    pair_first a b (words ++ more) fit ∙ ap (λ bytes. pair_bytes a b ++ bytes) (packed-whole words more (tail_fits a b (words ++ more) fit))

-- the bytes of some words and no more
pub packed-last : (words : List ℕ) → All IsWord words → packed words ≡ whole_bytes words ++ last_byte (unpaired words)
unfolding unpaired whole_bytes last_byte
packed-last [] fit = packed-none
packed-last (a ∷ []) fit = packed-one a (fit 0 0 (omega arith))
packed-last (a ∷ b ∷ words) fit =
    pair_first a b words fit ∙ ap (λ bytes. pair_bytes a b ++ bytes) (packed-last words (tail_fits a b words fit))
