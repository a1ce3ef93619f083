-- The words that are in the three bytes of a pair.
use Rattle.std.proofs.Common.{◌≡◌, ℕ, suc, zero, ◌+◌, ◌*◌, ◌/◌, ◌%◌, ◌<◌, List, [], ◌∷◌, ◌∙◌, arith}
use Rattle.fdr_bits.specs.Bits.{word_at}
use Rattle.fdr_bits.proofs.WordLemmas.{AreBytes, word_at_by_bytes}

-- the bytes of a pair of words
abbrev pub pair_bytes : ℕ → ℕ → List ℕ
pair_bytes a b = (a % 256) ∷ (a / 256 + 16 * (b % 16)) ∷ (b / 16) ∷ []

AreBytes-pair : (a b : ℕ) → a < 4096 → b < 4096 → AreBytes (pair_bytes a b)
AreBytes-pair a b a_fits b_fits zero = omega arith
AreBytes-pair a b a_fits b_fits (suc zero) = omega arith
AreBytes-pair a b a_fits b_fits (suc (suc zero)) = omega arith
AreBytes-pair a b a_fits b_fits (suc (suc (suc k))) = omega arith

pub first_of_pair : (a b : ℕ) → a < 4096 → b < 4096 → word_at (pair_bytes a b) 0 ≡ a
first_of_pair a b a_fits b_fits = word_at_by_bytes (pair_bytes a b) 0 (AreBytes-pair a b a_fits b_fits) ∙ omega arith

pub second_of_pair : (a b : ℕ) → a < 4096 → b < 4096 → word_at (pair_bytes a b) 12 ≡ b
second_of_pair a b a_fits b_fits = word_at_by_bytes (pair_bytes a b) 12 (AreBytes-pair a b a_fits b_fits) ∙ omega arith
