-- A block on a side that may have failed.
use Rattle.std.specs.Prelude.{◌≡◌, ◌<◌, ◌≤◌, ℕ, ◌+◌, List, [], ◌∷◌, length, Option, Some, None, IsTrue, ⊤}
use Rattle.fdr_io.specs.Faults.{Rose}
use Rattle.fdr_deck.specs.State.{Tells}
use Rattle.fdr_deck.specs.Disk.{IsSettled}
use Rattle.fdr_slot.specs.Limits.{sequence_end}
use Rattle.fdr_recover.specs.Blocks.{Block}
use Rattle.fdr_ring.specs.Rings.{IsSureRing}
use Rattle.fdr_ring.specs.declared.ring.Ring.{Ring}
use Rattle.fdr_twin.specs.declared.side.Side.{Side}
use Rattle.fdr_twin.specs.Pair.{Pair, PairMoment, other_side, disk_on, image_on, seen}
use Rattle.fdr_twin.specs.Rest.{PairElapses, LeavesSide}
use Rattle.fdr_twin.specs.Serving.{EachPairMoment}
use Rattle.fdr_pair.specs.Putting.{AddsExactly, HasPut, MayPut}
use Rattle.fdr_pair.specs.Numbers.{KeepsLine, HasPulled}
use Rattle.fdr_pair.specs.SideCounts.{CountsBoth}
use Rattle.fdr_pair.specs.Ahead.{StaysNearOn}
use Rattle.fdr_slot.specs.declared.image.Header.{Header}
use Rattle.std.specs.Option.{ForSome}

-- the next block of a ring, of the session with this number and with these bytes
abbrev pub next_block : Ring → ℕ → List ℕ → Block
next_block r session bytes = record { number = r.next; session = session; payload = bytes }

-- The ring is on a side of the pair whose disk is settled.
pub record IsSettledRing (tells : Tells) (side : Side) (r : Ring) (p : Pair) : Type 0 where
  pub sure : IsSureRing tells r.header r.next (seen side p)
  pub settled : IsTrue tells.stops → IsSettled (seen side p)

-- The block fits into the slots of a ring on a settled side, and there is a number for it; in version 1 it has no session.
pub record HasRoomFor (tells : Tells) (side : Side) (r : Ring) (session : ℕ) (bytes : List ℕ) (p : Pair) : Type 0 where
  pub ring : IsSettledRing tells side r p
  pub old_version : r.header.version ≡ 1 → session ≡ 0
  pub fits : length bytes ≤ r.header.payload
  pub bound : r.next < sequence_end

-- A side is ready for a block: its ring has room for it, or the side has failed.
abbrev pub IsPutReady : Tells → Side → Option Ring → ℕ → List ℕ → Pair → Type 0
IsPutReady tells side None session bytes p = ⊤
IsPutReady tells side (Some r) session bytes p = HasRoomFor tells side r session bytes p

-- At each moment the side's image keeps the run, with the next block of the ring or without it.
abbrev pub OwnMoments : Tells → Side → Ring → ℕ → List ℕ → Pair → Pair → Type 0
OwnMoments tells side r session bytes old new =
    EachPairMoment tells old new (λ m. MayPut r.header (next_block r session bytes) (disk_on side old).held (image_on side m))

-- The side failed while the block was put: at each moment it has the block or hasn't, and its count of faults rose.
pub record HasFailedNow (tells : Tells) (side : Side) (r : Ring) (session : ℕ) (bytes : List ℕ) (old new : Pair) : Type 0 where
  pub moments : OwnMoments tells side r session bytes old new
  pub faults : Rose (disk_on side old).faults (disk_on side new).faults

-- The block was put on the side, and the ring r is now the ring s.
pub record HasPutNow (tells : Tells) (side : Side) (r s : Ring) (session : ℕ) (bytes : List ℕ) (old new : Pair) : Type 0 where
  pub moments : OwnMoments tells side r session bytes old new
  pub header : s.header ≡ r.header
  pub next : s.next ≡ r.next + 1
  pub faults : (disk_on side new).faults ≡ (disk_on side old).faults
  pub put : IsTrue tells.bytes → HasPut r.header (next_block r session bytes) (disk_on side old).held (disk_on side new).held
  pub exact : IsTrue tells.bytes → AddsExactly r.header (next_block r session bytes ∷ []) (disk_on side old).held (disk_on side new).held
  pub ring : IsSettledRing tells side s new

-- Nothing was done on the side: no moment is new to it, and its count of faults is as it was.
pub record HasLeftAll (tells : Tells) (side : Side) (old new : Pair) : Type 0 where
  pub moments : EachPairMoment tells old new (λ m. old.since old.clock m)
  pub faults : (disk_on side new).faults ≡ (disk_on side old).faults

-- What became of a block on a side: it was put, the side failed meanwhile, or nothing was done since the side had failed before.
abbrev pub PutOwn : Tells → Side → Option Ring → Option Ring → ℕ → List ℕ → Pair → Pair → Type 0
PutOwn tells side None None session bytes old new = HasLeftAll tells side old new
PutOwn tells side None (Some s) session bytes old new = ⊥
PutOwn tells side (Some r) None session bytes old new = HasFailedNow tells side r session bytes old new
PutOwn tells side (Some r) (Some s) session bytes old new = HasPutNow tells side r s session bytes old new

-- A moment of calls that pull nothing and announce nothing: its number is one that may have been announced before.
pub record IsQuiet (old : Pair) (m : PairMoment) : Type 0 where
  pub least : old.least ≤ m.announced
  pub greatest : m.announced ≤ old.greatest
  pub pulled : HasPulled old m

-- A block was put on a side unless that has failed; the other side is left, and nothing was announced or pulled.
pub record PutsUnlessFailed (tells : Tells) (side : Side) (ring result : Option Ring) (session : ℕ) (bytes : List ℕ) (old new : Pair) : Type 0 where
  pub time : PairElapses old new
  pub counts : CountsBoth old new
  pub away : LeavesSide (other_side side) old new
  pub line : KeepsLine old new
  pub told : new.announced ≡ old.announced
  pub least : old.least ≤ new.least
  pub greatest : new.greatest ≤ old.greatest
  pub moments : EachPairMoment tells old new (IsQuiet old)
  pub own : PutOwn tells side ring result session bytes old new
  -- where the number before the block is announced, the side gets no further ahead of what is
  pub near : (h : Header) → ForSome ring (λ r. (r.header ≡ h) × (r.next ≡ old.announced)) → StaysNearOn tells h side old new
  pub near_away : (h : Header) → StaysNearOn tells h (other_side side) old new
