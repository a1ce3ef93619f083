-- How far the blocks on a disk are ahead of what is announced.
use Rattle.std.specs.Prelude.{◌≤◌, ℕ, ◌+◌, max, List, IsTrue}
use Rattle.fdr_deck.specs.State.{State, Tells}
use Rattle.fdr_deck.specs.Moments.{EachMoment}
use Rattle.fdr_slot.specs.declared.image.Header.{Header}
use Rattle.fdr_recover.specs.Images.{next_of}
use Rattle.fdr_recorder.specs.Recording.{IsClose}
use Rattle.fdr_twin.specs.declared.side.Side.{Side}
use Rattle.fdr_twin.specs.Pair.{Pair, PairMoment, image_on, seen}
use Rattle.fdr_twin.specs.Serving.{EachPairMoment}

-- At this moment at most one block of a side's image after the mark isn't announced.
abbrev pub IsCloseOn : Header → ℕ → Side → PairMoment → Type 0
IsCloseOn h mark side m = next_of h (image_on side m) ≤ max mark m.announced + 1

-- Whatever a stop now leaves of the disk, and whichever number is told then, at most one block after the mark isn't announced.
abbrev pub IsNearNow : Header → ℕ → State → Type 0
IsNearNow h mark d = (image : List ℕ) → d.may_leave image → next_of h image ≤ max mark d.least + 1

-- Where at most one block after a mark wasn't announced before these calls, so it is at each of their moments and
-- after them.
pub record StaysNear (tells : Tells) (h : Header) (old new : State) : Type 0 where
  pub moments : (mark : ℕ) → IsNearNow h mark old → EachMoment tells old new (IsClose h mark)
  pub now : IsTrue tells.stops → (mark : ℕ) → IsNearNow h mark old → IsNearNow h mark new

-- Where at most one block of a side after a mark wasn't announced before these calls, so it is at each of their
-- moments and after them.
pub record StaysNearOn (tells : Tells) (h : Header) (side : Side) (old new : Pair) : Type 0 where
  pub moments : (mark : ℕ) → IsNearNow h mark (seen side old) → EachPairMoment tells old new (IsCloseOn h mark side)
  pub now : IsTrue tells.stops → (mark : ℕ) → IsNearNow h mark (seen side old) → IsNearNow h mark (seen side new)
