-- The accepted frames of a bit list: of frame positions that overlap, the earlier one is taken.
use Rattle.std.specs.Prelude.{ℕ, ◌+◌, ◌*◌, ◌<◌, ◌≤◌, nat_le, if◌then◌else◌, List, [], ◌∷◌, ◌⊎◌, filter, All, AllPairs, Contains}
use Rattle.std.specs.List.{range_with_len}
use Rattle.fdr_bits.specs.Bits.{bits_in}
use Rattle.fdr_sync.specs.Frames.{is_frame_position, IsFramePosition}

-- The accepted frames of bits are frame positions in order, none less than 48 w bits after the one before, and every other frame
-- position begins inside one of them.
pub record AreAcceptedFrames (b : List ℕ) (w : ℕ) (xs : List ℕ) : Type 0 where
  pub positions : All (IsFramePosition b w) xs
  pub apart : AllPairs (λ earlier later. earlier + 48 * w ≤ later) xs
  pub others : (p : ℕ) → IsFramePosition b w p → Contains xs p ⊎ ((a : ℕ) × Contains xs a × (a < p) × (p < a + 48 * w))

-- all frame positions of bits in order, where a subframe has w words
abbrev pub frame_positions : List ℕ → ℕ → List ℕ
frame_positions b w = filter (is_frame_position b w) (range_with_len 0 (bits_in b))

-- those of some places in order that are taken going up: each that isn't before `free`, and from then on none less than `len`
-- after the last one taken
unfoldable pub chosen_from : ℕ → ℕ → List ℕ → List ℕ
chosen_from len free [] = []
chosen_from len free (p ∷ ps) = if nat_le free p then p ∷ chosen_from len (p + len) ps else chosen_from len free ps

-- the frames of bits that are accepted where the search begins at bit `free`
unfoldable pub accepted_from : List ℕ → ℕ → ℕ → List ℕ
accepted_from b w free = chosen_from (48 * w) free (frame_positions b w)

-- the accepted frames of bits: going up, each frame position that doesn't overlap the last one taken
abbrev pub accepted_frames : List ℕ → ℕ → List ℕ
accepted_frames b w = accepted_from b w 0
