-- What calls leave besides the disk.
use Rattle.std.specs.Prelude.{◌≡◌, ◌⊎◌, ℕ, ◌≤◌, List, min, max}
use Rattle.fdr_deck.specs.State.{State, Tells, Moment}
use Rattle.fdr_deck.specs.Disk.{KeepsDisk}
use Rattle.fdr_deck.specs.Pull.{KeepsInput}
use Rattle.fdr_deck.specs.Moments.{Elapses, EachMoment, HasSamePulls}

-- The announced number stays, and it is the least and the greatest since the call, or both these numbers are as they were.
pub record KeepsAnnounced (old new : State) : Type 0 where
  pub announced : new.announced ≡ old.announced
  pub numbers : ((new.least ≡ new.announced) × (new.greatest ≡ new.announced)) ⊎ ((new.least ≡ old.least) × (new.greatest ≡ old.greatest))

-- What a call of the disk leaves besides the disk, whatever it answers: the input and its faults stay, the announced number
-- stays, the count of the disk's faults doesn't fall, and time goes on.
pub record Passes (tells : Tells) (old new : State) : Type 0 where
  pub input : KeepsInput old new
  pub input_faults : new.input_faults ≡ old.input_faults
  pub announced : KeepsAnnounced old new
  pub disk_faults : old.disk_faults ≤ new.disk_faults
  pub time : Elapses tells old new

-- The announced number is the least and the greatest one, as after a call of the disk that did what it is for.
pub record HasOneAnnounced (new : State) : Type 0 where
  pub least : new.least ≡ new.announced
  pub greatest : new.greatest ≡ new.announced

-- A call of the disk did what it is for: the announced number is the least and the greatest one, and no fault was counted.
pub record Succeeds (old new : State) : Type 0 where
  pub fresh : HasOneAnnounced new
  pub disk_faults : new.disk_faults ≡ old.disk_faults

-- A call had nothing to do with the disk: what it holds, what a stop may leave, its length and its count of faults are as they
-- were.
pub record LeavesDisk (old new : State) : Type 0 where
  pub disk : KeepsDisk old new
  pub extent : new.extent ≡ old.extent
  pub disk_faults : new.disk_faults ≡ old.disk_faults

-- The number `count` was announced: the least and the greatest one since the last call of another kind take it in.
pub record Announces (count : ℕ) (old new : State) : Type 0 where
  pub announced : new.announced ≡ count
  pub least : new.least ≡ min old.least count
  pub greatest : new.greatest ≡ max old.greatest count

-- A moment of calls that announce nothing and pull nothing: its image has the property P, its announced number is one of before,
-- and its numbers of bytes pulled are those of before.
pub record IsDiskMoment (P : List ℕ → Type 0) (old : State) (m : Moment) : Type 0 where
  pub image : P m.image
  pub least : old.least ≤ m.announced
  pub greatest : m.announced ≤ old.greatest
  pub pulled : HasSamePulls old m

-- The calls are ones of the disk, which announce nothing and pull nothing, and at each of their moments the image has the
-- property P.
pub record IsDiskWork (tells : Tells) (P : List ℕ → Type 0) (old new : State) : Type 0 where
  pub passes : Passes tells old new
  pub moments : EachMoment tells old new (IsDiskMoment P old)
