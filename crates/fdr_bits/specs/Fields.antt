-- Fields of a word: n bits from bit a on, where bit 0 is the least significant.
use Rattle.std.specs.Prelude.{ℕ, ◌+◌, ◌*◌, ◌/◌, ◌%◌, ◌^◌}

-- the number in n bits of a word, from bit a on, where bit 0 is the least significant
abbrev pub field_of : ℕ → ℕ → ℕ → ℕ
field_of word a n = word / 2 ^ a % 2 ^ n

-- the word with v in its n bits from bit a on, and all other bits kept
abbrev pub with_field : ℕ → ℕ → ℕ → ℕ → ℕ
with_field word a n v = word % 2 ^ a + 2 ^ a * (v + 2 ^ n * (word / 2 ^ (a + n)))
