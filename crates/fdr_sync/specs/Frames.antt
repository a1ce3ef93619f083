-- Where a frame begins in a bit list. A frame has four subframes of w words of 12 bits.
use Rattle.std.specs.Prelude.{ℕ, Bool, ◌+◌, ◌*◌, ◌<◌, ◌≤◌, ◌==◌, ◌&&◌, nat_le, List, IsTrue}
use Rattle.fdr_bits.specs.Bits.{bits_in, word_at}
use Rattle.fdr_frame.specs.Slots.{sync_word}

-- whether a frame begins at bit p, where a subframe has w words: its 48 w bits lie within the bytes, and its four sync words are
-- at p, p + 12 w, p + 24 w and p + 36 w
unfoldable pub is_frame_position : List ℕ → ℕ → ℕ → Bool
is_frame_position b w p =
    nat_le (p + 48 * w) (bits_in b) && (word_at b p == sync_word 1) && (word_at b (p + 12 * w) == sync_word 2) && (word_at b (p + 24 * w) == sync_word 3) &&
    (word_at b (p + 36 * w) == sync_word 4)

-- A frame begins at bit p, where a subframe has w words: its 48 w bits lie within the bytes, and its four sync words are at p, p
-- + 12 w, p + 24 w and p + 36 w.
abbrev pub IsFramePosition : List ℕ → ℕ → ℕ → Type 0
IsFramePosition b w p = IsTrue (is_frame_position b w p)

-- Bit p is the first frame position from bit `from` on.
pub record IsFirstFrameFrom (b : List ℕ) (w from p : ℕ) : Type 0 where
  pub behind : from ≤ p
  pub position : IsFramePosition b w p
  pub first : (q : ℕ) → from ≤ q → q < p → ¬ IsFramePosition b w q

-- No frame position is at bit `from` or after it.
abbrev pub HasNoFrameFrom : List ℕ → ℕ → ℕ → Type 0
HasNoFrameFrom b w from = (q : ℕ) → from ≤ q → ¬ IsFramePosition b w q
