-- Calls that serve one side of a twin.
use Rattle.std.specs.Prelude.{◌≡◌, ◌≤◌, ℕ, List, IsTrue}
use Rattle.fdr_deck.specs.State.{Tells}
use Rattle.fdr_deck.specs.Calls.{IsDiskWork}
use Rattle.fdr_twin.specs.declared.side.Side.{Side}
use Rattle.fdr_twin.specs.Pair.{Pair, PairMoment, other_side, disk_on, image_on, seen}
use Rattle.fdr_twin.specs.Rest.{PairElapses, LeavesSide}

-- Each moment of the twin since the old one has this property, where the stops are told.
abbrev pub EachPairMoment : Tells → Pair → Pair → (PairMoment → Type 0) → Type 0
EachPairMoment tells old new P = IsTrue tells.stops → (m : PairMoment) → new.since old.clock m → P m

-- A moment of calls that serve a side, and announce and pull nothing: its image has the property P, and the other side's image is
-- one that a stop could leave before.
pub record IsServed (side : Side) (P : List ℕ → Type 0) (old : Pair) (m : PairMoment) : Type 0 where
  pub image : P (image_on side m)
  pub other : (disk_on (other_side side) old).may_leave (image_on (other_side side) m)
  pub least : old.least ≤ m.announced
  pub greatest : m.announced ≤ old.greatest
  pub taken : m.taken ≡ old.taken
  pub pulled_before : m.pulled_before ≡ old.pulled_before

-- Calls worked on the disk of one side alone, and announced and pulled nothing: at each moment the image of that side has the
-- property P, and the other side is left.
pub record Serves (tells : Tells) (side : Side) (P : List ℕ → Type 0) (old new : Pair) : Type 0 where
  pub turned : new.turned ≡ side
  pub disk_work : IsDiskWork tells P (seen side old) (seen side new)
  pub other : LeavesSide (other_side side) old new
  pub time : PairElapses old new
  pub moments : EachPairMoment tells old new (IsServed side P old)
