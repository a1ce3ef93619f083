-- Calls that work on the disks of a twin, and announce and pull nothing.
use Rattle.std.specs.Prelude.{◌≡◌, ◌≤◌, ℕ, List}
use Rattle.fdr_deck.specs.State.{Tells}
use Rattle.fdr_twin.specs.Pair.{Pair, PairMoment, Disk}
use Rattle.fdr_twin.specs.Rest.{PairElapses}
use Rattle.fdr_twin.specs.Serving.{EachPairMoment}
use Rattle.fdr_pair.specs.SideCounts.{CountsBoth}

-- A disk is as it was, except for its count of faults.
pub record IsSameContent (old new : Disk) : Type 0 where
  pub extent : new.extent ≡ old.extent
  pub held : new.held ≡ old.held
  pub no_more : (image : List ℕ) → new.may_leave image → old.may_leave image
  pub no_less : (image : List ℕ) → old.may_leave image → new.may_leave image

-- Nothing was pulled and nothing was announced: the input and its count of faults are as they were, and so is the announced
-- number.
pub record LeavesLine (old new : Pair) : Type 0 where
  pub input : new.input ≡ old.input
  pub taken : new.taken ≡ old.taken
  pub pulled_before : new.pulled_before ≡ old.pulled_before
  pub input_faults : new.input_faults ≡ old.input_faults
  pub announced : new.announced ≡ old.announced
  pub least : old.least ≤ new.least
  pub greatest : new.greatest ≤ old.greatest

-- A moment before which nothing was pulled or announced: its announced number is one from before, and its numbers of bytes
-- pulled are those from before.
pub record IsLineMoment (old : Pair) (m : PairMoment) : Type 0 where
  pub least : old.least ≤ m.announced
  pub greatest : m.announced ≤ old.greatest
  pub taken : m.taken ≡ old.taken
  pub pulled_before : m.pulled_before ≡ old.pulled_before

-- Calls worked on the disks of both sides, and announced and pulled nothing: each of their moments has the property P.
pub record PairWork (tells : Tells) (P : PairMoment → Type 0) (old new : Pair) : Type 0 where
  pub time : PairElapses old new
  pub counts : CountsBoth old new
  pub line : LeavesLine old new
  pub line_moments : EachPairMoment tells old new (IsLineMoment old)
  pub moments : EachPairMoment tells old new P

-- A moment at which both images are ones that a stop could leave before.
pub record IsLookedAt (old : Pair) (m : PairMoment) : Type 0 where
  pub first : old.first.may_leave m.first
  pub second : old.second.may_leave m.second
