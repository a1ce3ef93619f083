-- How far what is announced lags behind what was pulled.
use Rattle.std.specs.Prelude.{◌⊎◌, ℕ, ◌+◌, ◌-◌, ◌<◌, ◌≤◌, List, [], length, take}
use Rattle.fdr_bus.specs.declared.BusRecord.{BusRecord}
use Rattle.fdr_bus.specs.Records.{good_prefix}
use Rattle.fdr_deck.specs.State.{State, Tells, Moment}
use Rattle.fdr_deck.specs.Moments.{HasSamePulls}
use Rattle.fdr_deck.specs.Pull.{IsLastPull}
use Rattle.fdr_trace.specs.Pulls.{PullsUntilDecided}

-- The last pull that gave bytes gave at most 4,096 of these, and what is owed for the good records of those before it is
-- announced.
pub record IsInTime (owed : List BusRecord → ℕ) (start : ℕ) (bytes : List ℕ) (number before taken : ℕ) : Type 0 where
  pub pull : IsLastPull start before taken
  pub within : taken ≤ start + length bytes
  pub announced : owed (good_prefix (take (before - start) bytes)) ≤ number

-- A moment at which a recording keeps up: nothing was pulled yet, or what is owed for the good records of the bytes before the
-- last pull that gave some is announced.
pub record IsLagMoment (owed : List BusRecord → ℕ) (first : State) (bytes : List ℕ) (m : Moment) : Type 0 where
  pub pulled : HasSamePulls first m ⊎ IsInTime owed first.taken bytes m.announced m.pulled_before m.taken

-- Between two records a recording keeps up with what was pulled, also by the least number that may be announced at a moment, and
-- what is owed for all records so far is announced.
pub record KeepsUp (owed : List BusRecord → ℕ) (tells : Tells) (first now : State) (bytes : List ℕ)
    (records : List BusRecord) : Type 0 where
  pub pulls : PullsUntilDecided tells first now [] bytes
  pub least : 0 < length bytes → IsInTime owed first.taken bytes now.least now.pulled_before now.taken
  pub announced : owed records ≤ now.announced
