-- Words of an ARINC 429 bus. Bits are numbered from 1, which is the least significant.
use Rattle.std.specs.Prelude.{ℕ, ◌+◌, ◌-◌, ◌*◌, ◌/◌, ◌%◌, ◌^◌, ◌==◌, Bool, fold, sum_by}
use Rattle.std.specs.List.{range_with_len}

-- the number in `width` bits of a bus word from bit `lsb` on, where bit 1 is the least significant (ARINC 429)
abbrev pub bits_at : ℕ → ℕ → ℕ → ℕ
bits_at word lsb width = word / 2 ^ (lsb - 1) % 2 ^ width

-- bit i of a bus word, 0 or 1, where bit 1 is the least significant (ARINC 429)
abbrev pub bus_bit : ℕ → ℕ → ℕ
bus_bit word i = word / 2 ^ (i - 1) % 2

-- how many of bits 1 to n of a bus word are 1
unfoldable pub ones_to : ℕ → ℕ → ℕ
ones_to word n = sum_by (bus_bit word) (range_with_len 1 n)

-- whether an odd number of the 32 bits of a bus word are 1 (ARINC 429)
abbrev pub is_odd : ℕ → Bool
is_odd word = ones_to word 32 % 2 == 1

-- the number in bits 1 to n of a bus word, of which bit 1 is the most significant
unfoldable pub reversed_to : ℕ → ℕ → ℕ
reversed_to word n = fold (λ number i. number * 2 + bus_bit word i) 0 (range_with_len 1 n)

-- the label of a bus word: the number in bits 1 to 8, of which bit 1 is the most significant (ARINC 429)
abbrev pub label_of : ℕ → ℕ
label_of word = reversed_to word 8

-- the SDI of a bus word: the number in bits 9 and 10, of which bit 9 is the lower one (ARINC 429)
abbrev pub sdi_of : ℕ → ℕ
sdi_of word = bits_at word 9 2
