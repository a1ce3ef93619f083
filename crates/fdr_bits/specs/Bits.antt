-- Bits and 12-bit words of a byte list. In a byte, and in a word, the least significant bit comes first.
use Rattle.std.specs.Prelude.{ℕ, ◌+◌, ◌*◌, ◌/◌, ◌%◌, ◌^◌, List, length, slice_index, sum_by}
use Rattle.std.specs.List.{range_with_len}

-- how many bits the bytes have: 8 times their number
abbrev pub bits_in : List ℕ → ℕ
bits_in b = 8 * length b

-- bit p, 0 or 1: bit p mod 8 of byte p / 8, where bit 0 of a byte is its least significant
unfoldable pub bit_at : List ℕ → ℕ → ℕ
bit_at b p = slice_index b (p / 8) / 2 ^ (p % 8) % 2

-- the number of n bits whose bit j, from the least significant on, is `bits j`
unfoldable pub number_of : (ℕ → ℕ) → ℕ → ℕ
number_of bits n = sum_by (λ j. bits j * 2 ^ j) (range_with_len 0 n)

-- the word of 12 bits that begins at bit p, its least significant bit first
unfoldable pub word_at : List ℕ → ℕ → ℕ
word_at b p = number_of (λ j. bit_at b (p + j)) 12
