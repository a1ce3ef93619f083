-- Words of 12 bits that are packed while more words are to come.
use Rattle.std.specs.Prelude.{ℕ, ◌+◌, ◌*◌, ◌/◌, ◌%◌, List, [], ◌∷◌, Option, Some, None}

-- the last four bits of an odd number of words, which share a byte with the word that comes next
unfoldable pub unpaired : List ℕ → Option ℕ
unpaired [] = None
unpaired (a ∷ []) = Some (a / 256)
unpaired (a ∷ b ∷ words) = unpaired words

-- the bytes that words of 12 bits fill, which no later word changes
unfoldable pub whole_bytes : List ℕ → List ℕ
whole_bytes [] = []
whole_bytes (a ∷ []) = a % 256 ∷ []
whole_bytes (a ∷ b ∷ words) = a % 256 ∷ (a / 256 + 16 * (b % 16)) ∷ b / 16 ∷ whole_bytes words

-- the bytes that further words of 12 bits fill, where four bits may wait for them
unfoldable pub filled_by : Option ℕ → List ℕ → List ℕ
filled_by None words = whole_bytes words
filled_by (Some bits) [] = []
filled_by (Some bits) (word ∷ words) = (bits + 16 * (word % 16)) ∷ word / 16 ∷ whole_bytes words

-- the four bits that wait after further words, where there are some
unfoldable pub unpaired_after : Option ℕ → List ℕ → Option ℕ
unpaired_after None words = unpaired words
unpaired_after (Some bits) [] = Some bits
unpaired_after (Some bits) (word ∷ words) = unpaired words

-- the byte that waiting bits begin, filled with zeros, as a list
unfoldable pub last_byte : Option ℕ → List ℕ
last_byte None = []
last_byte (Some bits) = bits ∷ []
