-- What a deck means.
use Rattle.std.specs.Prelude.{ℕ, Bool, List}

-- what a deck tells: its input, the bytes of its disk, and what a stop may leave
pub record Tells : Type 0 where
  pub input : Bool
  pub bytes : Bool
  pub stops : Bool

-- what is so at one moment: the image on the disk, the announced number, the number of bytes pulled so far, and that number as it
-- was when the last pull that gave bytes began
pub record Moment : Type 0 where
  pub image : List ℕ
  pub announced : ℕ
  pub taken : ℕ
  pub pulled_before : ℕ

-- what a deck means. The disk: its length, the bytes that it holds, the images that a stop now may leave. The past: the clock,
-- and the moments since a time. The announced number, and the least and the greatest one since the last call that wasn't an
-- announcement. The rest of the input, the number of bytes pulled, and that number as it was when the last pull that gave bytes
-- began, or 0 where there was none. The counts of faults of the disk and of the input
pub record State : Type 1 where
  pub extent : ℕ
  pub held : List ℕ
  pub may_leave : List ℕ → Type 0
  pub clock : ℕ
  pub since : ℕ → Moment → Type 0
  pub announced : ℕ
  pub least : ℕ
  pub greatest : ℕ
  pub input : List ℕ
  pub taken : ℕ
  pub pulled_before : ℕ
  pub disk_faults : ℕ
  pub input_faults : ℕ
