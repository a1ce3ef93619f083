-- Calls that only look at the disk.
use Rattle.std.specs.Prelude.{◌≡◌}
use Rattle.fdr_deck.specs.State.{State, Tells}
use Rattle.fdr_deck.specs.Disk.{KeepsDisk}
use Rattle.fdr_deck.specs.Calls.{IsDiskWork}

-- Calls only looked at the disk: it is as it was, and at each moment a stop leaves what it could leave before.
pub record Looks (tells : Tells) (old new : State) : Type 0 where
  pub extent : new.extent ≡ old.extent
  pub disk : KeepsDisk old new
  pub disk_work : IsDiskWork tells old.may_leave old new
