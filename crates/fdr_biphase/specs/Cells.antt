-- Harvard biphase: each bit is a cell of two levels. The level changes where a cell begins, and in its middle where the bit is 1.
use Rattle.std.specs.Prelude.{ℕ, ◌≡◌, ◌≢◌, ◌↔◌, ◌+◌, ◌*◌, ◌<◌, ◌==◌, Bool, true, false, not, if◌then◌else◌, List, [], ◌∷◌, length, map}
use Rattle.std.specs.List.{range_with_len, slice_index_or}
use Rattle.fdr_bits.specs.Bits.{bits_in, bit_at}

-- the bits of bytes, in the order of `bit_at`; or, where bytes pack levels, these levels
abbrev pub bits_of_bytes : List ℕ → List Bool
bits_of_bytes bytes = map (λ p. bit_at bytes p == 1) (range_with_len 0 (bits_in bytes))

-- the level at place p, counted from 0
abbrev pub level_at : List Bool → ℕ → Bool
level_at levels p = slice_index_or levels p false

-- the level before place p, where `first` is the level before place 0
abbrev pub level_before : Bool → List Bool → ℕ → Bool
level_before first levels p = level_at (first ∷ levels) p

-- The levels are the cells of the bits: two for each bit. The level changes where a cell begins, and in its middle exactly where
-- the bit is 1. `first` is the level before the first cell.
pub record Cells (first : Bool) (bits levels : List Bool) : Type 0 where
  pub two_each : length levels ≡ 2 * length bits
  pub begin : (i : ℕ) → i < length bits → level_at levels (2 * i) ≢ level_before first levels (2 * i)
  pub middle : (i : ℕ) → i < length bits → (level_at levels (2 * i + 1) ≢ level_at levels (2 * i)) ↔ (slice_index_or bits i false ≡ true)

-- the level that the cell of a bit ends with, where `first` is the level before the cell
abbrev pub cell_end : Bool → Bool → Bool
cell_end first bit = if bit then first else not first

-- the cells of the bits, two levels each, where `first` is the level before the first cell
unfoldable pub cells_of : Bool → List Bool → List Bool
cells_of first [] = []
cells_of first (bit ∷ bits) = not first ∷ cell_end first bit ∷ cells_of (cell_end first bit) bits

-- the level that the cells of the bits end with, where `first` is the level before the first cell
unfoldable pub level_after : Bool → List Bool → Bool
level_after first [] = first
level_after first (bit ∷ bits) = level_after (cell_end first bit) bits
