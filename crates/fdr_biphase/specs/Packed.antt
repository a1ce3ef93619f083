-- Bits as numbers and as bytes.
use Rattle.std.specs.Prelude.{ℕ, ◌+◌, ◌*◌, ◌/◌, ◌%◌, ◌^◌, ◌==◌, Bool}
use Rattle.std.specs.Prelude.{if◌then◌else◌, List, [], ◌∷◌, length, map, take, drop, Option, Some, None}
use Rattle.std.specs.List.{range_with_len}
use Rattle.fdr_biphase.specs.Cells.{bits_of_bytes, cells_of}
use Rattle.fdr_biphase.specs.Phases.{cell_bits}

-- the number that packs bits, the first of them as its least significant
abbrev pub packed_bits : List Bool → ℕ
packed_bits [] = 0
packed_bits (bit ∷ bits) = (if bit then 1 else 0) + 2 * packed_bits bits

-- the four lowest bits of a byte, the least significant first
abbrev pub low_bits : ℕ → List Bool
low_bits b = map (λ j. b / 2 ^ j % 2 == 1) (range_with_len 0 4)

-- the eight bits of a byte, the least significant first
abbrev pub byte_bits : ℕ → List Bool
byte_bits b = map (λ j. b / 2 ^ j % 2 == 1) (range_with_len 0 8)

-- the bytes that pack bits, eight in each and the first as its least significant; zero bits fill the last byte
unfoldable pub bytes_of_bits : List Bool → List ℕ
bytes_of_bits bits = map (λ i. packed_bits (take 8 (drop (8 * i) bits))) (range_with_len 0 ((length bits + 7) / 8))

-- the bytes that pack the cells of the bits of these bytes, where `first` is the level before the first cell
abbrev pub encoded_bytes : Bool → List ℕ → List ℕ
encoded_bytes first bytes = bytes_of_bits (cells_of first (bits_of_bytes bytes))

-- the bytes that pack the bits of the levels that these bytes pack
abbrev pub decoded_bytes : List ℕ → List ℕ
decoded_bytes levels = bytes_of_bits (cell_bits (bits_of_bytes levels))

-- what turns each level of a word after a level: only ones after a high level, and else only zeros
abbrev pub turn_of : Bool → ℕ
turn_of level = if level then 65535 else 0

-- the byte that an answer of a packer gives, as a list: of one byte, or empty where it gives none
abbrev pub answered_byte : Option ℕ → List ℕ
answered_byte None = []
answered_byte (Some byte) = byte ∷ []
