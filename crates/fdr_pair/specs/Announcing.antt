-- An announcement of a twin.
use Rattle.std.specs.Prelude.{◌≡◌, ◌≤◌, ℕ, min, max, Option, Some, None}
use Rattle.fdr_deck.specs.State.{Tells}
use Rattle.fdr_ring.specs.declared.ring.Ring.{Ring}
use Rattle.fdr_twin.specs.declared.side.Side.{Side}
use Rattle.fdr_twin.specs.declared.side.Side.TheVariants.{First, Second}
use Rattle.fdr_twin.specs.Pair.{Pair, PairMoment, other_side, disk_on, image_on}
use Rattle.fdr_twin.specs.Same.{IsSameDisk}
use Rattle.fdr_twin.specs.Rest.{PairElapses, LeavesSide}
use Rattle.fdr_twin.specs.Serving.{EachPairMoment}
use Rattle.fdr_pair.specs.Numbers.{KeepsLine, HasPulled}
use Rattle.fdr_pair.specs.SideCounts.{CountsBoth}

-- A moment of an announcement of this count: its number is no less and no greater than one could be before or than the count, the
-- side's image is one that a stop could leave, and nothing was pulled.
pub record IsAnnouncedMoment (side : Side) (count : ℕ) (old : Pair) (m : PairMoment) : Type 0 where
  pub least : min old.least count ≤ m.announced
  pub announced : m.announced ≤ max old.greatest count
  pub pulled : HasPulled old m
  pub image : (disk_on side old).may_leave (image_on side m)

-- A twin that is turned to this side announced this count, and both sides are left.
pub record PairAnnounces (tells : Tells) (side : Side) (count : ℕ) (old new : Pair) : Type 0 where
  pub time : PairElapses old new
  pub counts : CountsBoth old new
  pub away : LeavesSide (other_side side) old new
  pub own : IsSameDisk (disk_on side old) (disk_on side new)
  pub line : KeepsLine old new
  pub announced : new.announced ≡ count
  pub least : new.least ≡ min old.least count
  pub greatest : new.greatest ≡ max old.greatest count
  pub moments : EachPairMoment tells old new (IsAnnouncedMoment side count old)

-- Nothing was announced, and both sides are left.
pub record PairStays (old new : Pair) : Type 0 where
  pub time : PairElapses old new
  pub counts : CountsBoth old new
  pub first : LeavesSide First old new
  pub second : LeavesSide Second old new
  pub line : KeepsLine old new
  pub least : new.least ≡ old.least
  pub greatest : new.greatest ≡ old.greatest
  pub moments : (m : PairMoment) → new.since old.clock m → old.since old.clock m

-- The count was announced by a side that hasn't failed, the first where it hasn't; where both have, nothing was.
abbrev pub AnnouncesLiving : Tells → Option Ring → Option Ring → ℕ → Pair → Pair → Type 0
AnnouncesLiving tells (Some r) o count old new = PairAnnounces tells First count old new
AnnouncesLiving tells None (Some s) count old new = PairAnnounces tells Second count old new
AnnouncesLiving tells None None count old new = PairStays old new
