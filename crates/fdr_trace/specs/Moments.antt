-- The moments of a call that reads the next record of a trace.
use Rattle.std.specs.Prelude.{◌≡◌, ◌⊎◌, ℕ, ◌+◌, ◌-◌, ◌<◌, ◌≤◌, List, ◌++◌, length, take}
use Rattle.fdr_bus.specs.declared.BusRecord.{BusRecord}
use Rattle.fdr_bus.specs.Records.{IsDecided, good_prefix}
use Rattle.fdr_deck.specs.State.{State, Tells, Moment}
use Rattle.fdr_deck.specs.Moments.{HasSamePulls, EachMoment}
use Rattle.fdr_deck.specs.Pull.{IsLastPull}

-- After these bytes, which were pulled up to `start`, more were pulled, and by the last pull that gave bytes those from `before`
-- to `taken`, at most 4,096. No whole record was kept back then: the good ones of the bytes before that pull are those that had
-- been read, and these bytes don't decide the trace.
pub record IsNeededPull (start : ℕ) (bytes more : List ℕ) (records : List BusRecord) (before taken : ℕ) : Type 0 where
  pub pull : IsLastPull start before taken
  pub within : taken ≤ start + length more
  pub read : good_prefix (bytes ++ take (before - start) more) ≡ records
  pub undecided : IsDecided (bytes ++ take (before - start) more) → ⊥

-- A moment after a pull that was made since entry and gave bytes: the announced number is that at entry, and the last such pull
-- was needed.
pub record IsPullMoment (old : State) (bytes more : List ℕ) (records : List BusRecord) (m : Moment) : Type 0 where
  pub announced : m.announced ≡ old.announced
  pub last : IsNeededPull old.taken bytes more records m.pulled_before m.taken

-- A moment while the record after these is read: the image is one that a stop at entry may leave, the announced number is one at
-- entry, and the numbers of bytes pulled are those at entry or those after a needed pull.
pub record IsTraceMoment (old : State) (bytes more : List ℕ) (records : List BusRecord) (m : Moment) : Type 0 where
  pub image : old.may_leave m.image
  pub least : old.least ≤ m.announced
  pub greatest : m.announced ≤ old.greatest
  pub pulled : HasSamePulls old m ⊎ IsPullMoment old bytes more records m

-- More was pulled after these bytes for the record after these records, and only by needed pulls.
pub record PullsForRecord (tells : Tells) (old new : State) (bytes more : List ℕ) (records : List BusRecord) : Type 0 where
  pub last : 0 < length more → IsNeededPull old.taken bytes more records new.pulled_before new.taken
  pub moments : EachMoment tells old new (IsTraceMoment old bytes more records)
