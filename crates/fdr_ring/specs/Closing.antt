-- A gate that is closed where it is open.
use Rattle.std.specs.Prelude.{◌≡◌, ◌≢◌, ℕ, ◌==◌, if◌then◌else◌, List, [], ◌∷◌, slice_index, IsTrue}
use Rattle.fdr_deck.specs.State.{State, Tells}
use Rattle.fdr_deck.specs.Disk.{Torn, patched}
use Rattle.fdr_deck.specs.Calls.{IsDiskWork, Succeeds}

-- the image with the gate at this place 00 where it was open, and as it was elsewhere
abbrev pub image_with_closed_gate : ℕ → List ℕ → List ℕ
image_with_closed_gate at image = if slice_index image at == 0x5a then patched at (0 ∷ []) image else image

-- Only the gate at this place may be another byte than before, and only where it was open.
pub record IsTurned (at : ℕ) (old new : List ℕ) : Type 0 where
  pub torn : Torn at 1 old new
  pub same : slice_index old at ≢ 0x5a → new ≡ old

-- The image is one that a stop at entry could leave, except that the gate at this place may be another byte where the disk held
-- it open.
pub record Closing (at : ℕ) (entry : State) (image : List ℕ) : Type 0 where
  pub from : List ℕ
  pub left : entry.may_leave from
  pub torn : Torn at 1 from image
  pub same : slice_index entry.held at ≢ 0x5a → image ≡ from

-- What a call that closes the gate at this place may leave of a disk, whatever it answers, at its end and at each moment.
pub record ClosesGate (tells : Tells) (at : ℕ) (old new : State) : Type 0 where
  pub turned : IsTrue tells.bytes → IsTurned at old.held new.held
  pub extent : new.extent ≡ old.extent
  pub disk_work : IsDiskWork tells (Closing at old) old new

-- What a call that closes the gate at this place has done where it answers: the gate is 00 where it was open, and no fault was
-- counted.
pub record HasClosedGate (tells : Tells) (at : ℕ) (old new : State) : Type 0 where
  pub held : IsTrue tells.bytes → new.held ≡ image_with_closed_gate at old.held
  pub succeeds : Succeeds old new
