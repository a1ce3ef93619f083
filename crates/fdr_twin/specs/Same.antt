-- Things that mean the same.
use Rattle.std.specs.Prelude.{◌≡◌, ℕ, List}
use Rattle.fdr_deck.specs.State.{State, Moment}
use Rattle.fdr_twin.specs.declared.side.Side.{Side}
use Rattle.fdr_twin.specs.Pair.{Pair, PairMoment, Disk}

-- Two states of a deck mean the same: all that is said of one holds of the other.
pub record IsSameState (a b : State) : Type 0 where
  pub extent : b.extent ≡ a.extent
  pub held : b.held ≡ a.held
  pub leaves : (image : List ℕ) → a.may_leave image → b.may_leave image
  pub left : (image : List ℕ) → b.may_leave image → a.may_leave image
  pub clock : b.clock ≡ a.clock
  pub moments : (t : ℕ) (m : Moment) → a.since t m → b.since t m
  pub only : (t : ℕ) (m : Moment) → b.since t m → a.since t m
  pub announced : b.announced ≡ a.announced
  pub least : b.least ≡ a.least
  pub greatest : b.greatest ≡ a.greatest
  pub input : b.input ≡ a.input
  pub taken : b.taken ≡ a.taken
  pub pulled_before : b.pulled_before ≡ a.pulled_before
  pub disk_faults : b.disk_faults ≡ a.disk_faults
  pub input_faults : b.input_faults ≡ a.input_faults

-- A disk is as it was, and so is its count of faults.
pub record IsSameDisk (old new : Disk) : Type 0 where
  pub extent : new.extent ≡ old.extent
  pub held : new.held ≡ old.held
  pub no_more : (image : List ℕ) → new.may_leave image → old.may_leave image
  pub no_less : (image : List ℕ) → old.may_leave image → new.may_leave image
  pub faults : new.faults ≡ old.faults

-- The twin is turned to this side, and all else is as it was.
pub record Turns (side : Side) (old new : Pair) : Type 0 where
  pub turned : new.turned ≡ side
  pub first : IsSameDisk old.first new.first
  pub second : IsSameDisk old.second new.second
  pub clock : new.clock ≡ old.clock
  pub moments : (t : ℕ) (m : PairMoment) → old.since t m → new.since t m
  pub only : (t : ℕ) (m : PairMoment) → new.since t m → old.since t m
  pub announced : new.announced ≡ old.announced
  pub least : new.least ≡ old.least
  pub greatest : new.greatest ≡ old.greatest
  pub input : new.input ≡ old.input
  pub taken : new.taken ≡ old.taken
  pub pulled_before : new.pulled_before ≡ old.pulled_before
  pub input_faults : new.input_faults ≡ old.input_faults
