-- What calls do to the input.
use Rattle.std.specs.Prelude.{◌≡◌, ℕ, ◌+◌, ◌<◌, ◌≤◌, List, ◌++◌, length, drop, IsTrue}
use Rattle.fdr_io.specs.Limits.{piece_bytes}
use Rattle.fdr_io.specs.Told.{Gives}
use Rattle.fdr_deck.specs.State.{State, Tells}

-- A pull gave n bytes, which are at the front of the buffer and, where the input is told, are its next ones. The number of bytes
-- pulled rose by n. Where n isn't 0, `pulled_before` is that number as it was before the pull.
pub record GivesPiece (tells : Tells) (old new : State) (buffer : List ℕ) (n : ℕ) : Type 0 where
  pub taken : new.taken ≡ old.taken + n
  pub began : 0 < n → new.pulled_before ≡ old.taken
  pub ended : n ≡ 0 → new.pulled_before ≡ old.pulled_before
  pub given : IsTrue tells.input → Gives old.input buffer n
  pub left : IsTrue tells.input → new.input ≡ drop n old.input
  pub faults : new.input_faults ≡ old.input_faults

-- The last pull that gave bytes was made once `start` bytes or more were taken. It gave those from `before` to `taken`, at
-- most 4,096.
pub record IsLastPull (start before taken : ℕ) : Type 0 where
  pub begins : start ≤ before
  pub gave_bytes : before < taken
  pub within_piece : taken ≤ before + piece_bytes

-- The rest of the input and the numbers of bytes pulled are as they were.
pub record KeepsInput (old new : State) : Type 0 where
  pub input : new.input ≡ old.input
  pub taken : new.taken ≡ old.taken
  pub pulled_before : new.pulled_before ≡ old.pulled_before

-- Calls took these bytes of the input, one after another.
pub record TakesInput (tells : Tells) (old new : State) (bytes : List ℕ) : Type 0 where
  pub taken : new.taken ≡ old.taken + length bytes
  pub input : IsTrue tells.input → old.input ≡ bytes ++ new.input
