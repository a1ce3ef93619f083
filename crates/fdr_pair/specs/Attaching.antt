-- How both sides are attached for a recording on two disks.
use Rattle.std.specs.Prelude.{◌≡◌, ◌≢◌, ◌⊎◌, ◌≤◌, ◌-◌, ℕ, min, max, Option, Some, None, IsTrue, ⊤}
use Rattle.fdr_io.specs.Faults.{Rose}
use Rattle.fdr_deck.specs.State.{Tells}
use Rattle.fdr_slot.specs.declared.image.Header.{Header}
use Rattle.fdr_slot.specs.Places.{image_size}
use Rattle.fdr_recover.specs.Images.{recovered_run, next_of}
use Rattle.fdr_ring.specs.Rings.{IsAttaching, OfSettled}
use Rattle.fdr_ring.specs.Runs.{last_blocks}
use Rattle.fdr_ring.specs.declared.ring.Ring.{Ring}
use Rattle.fdr_twin.specs.declared.side.Side.{Side}
use Rattle.fdr_twin.specs.declared.side.Side.TheVariants.{First, Second}
use Rattle.fdr_twin.specs.Pair.{Pair, PairMoment, disk_on, image_on, seen}
use Rattle.fdr_twin.specs.Same.{IsSameDisk}
use Rattle.fdr_twin.specs.Rest.{PairElapses, StaysOn}
use Rattle.fdr_twin.specs.Serving.{EachPairMoment}
use Rattle.fdr_pair.specs.Numbers.{KeepsLine, HasPulled}
use Rattle.fdr_pair.specs.SidePuts.{IsSettledRing}
use Rattle.fdr_pair.specs.PairWork.{PairWork}
use Rattle.fdr_pair.specs.Bringing.{HasNoFault}
use Rattle.fdr_pair.specs.declared.join.Follower.{Follower}
use Rattle.fdr_pair.specs.declared.join.Follower.TheVariants as follower
use Rattle.fdr_pair.specs.declared.join.Joined.{Joined}
use Rattle.fdr_pair.specs.declared.outcome.PairOutcome.{PairOutcome}
use Rattle.fdr_pair.specs.declared.outcome.PairOutcome.TheVariants as outcome
use Rattle.fdr_pair.specs.declared.rings.PairRings.{PairRings}
use Rattle.fdr_pair.specs.SideCounts.{CountsBoth}

-- what a side is attached from, where this side leads and the other is this: the lead as a side whose ring isn't attached yet
abbrev pub start_on : Side → Side → Follower → Follower
start_on First First other = follower.Level
start_on First Second other = other
start_on Second First other = other
start_on Second Second other = follower.Level

-- A side is ready to be attached: it has failed; the disk has room for an image with this header; or its ring is on a settled
-- disk.
abbrev pub IsAttachReady : Tells → Header → Side → Follower → Pair → Type 0
IsAttachReady tells h side follower.Failed p = ⊤
IsAttachReady tells h side follower.Level p = image_size h ≤ (disk_on side p).extent
IsAttachReady tells h side (follower.Brought r) p = IsSettledRing tells side r p × (r.header ≡ h)

-- A side goes on with this number: it has failed; the disk's next number is this one, where bytes are told; or its ring's is.
abbrev pub HasNext : Tells → Header → Side → Follower → ℕ → Pair → Type 0
HasNext tells h side follower.Failed next p = ⊤
HasNext tells h side follower.Level next p = IsTrue tells.bytes → next_of h (disk_on side p).held ≡ next
HasNext tells h side (follower.Brought r) next p = r.next ≡ next

-- A side was attached in this ring: it is on a settled disk, whose next number is that of the ring. The last N - 1 blocks are
-- left of the run, and no fault was counted.
pub record HasAttachedOn (tells : Tells) (h : Header) (side : Side) (r : Ring) (old new : Pair) : Type 0 where
  pub header : r.header ≡ h
  pub next : IsTrue tells.bytes → r.next ≡ next_of h (disk_on side old).held
  pub keeps : IsTrue tells.bytes → IsAttaching h (disk_on side old).held (disk_on side new).held
  pub run : IsTrue tells.bytes → recovered_run h (disk_on side new).held ≡ last_blocks (h.slots - 1) (recovered_run h (disk_on side old).held)
  pub ring : IsSettledRing tells side r new
  pub faults : (disk_on side new).faults ≡ (disk_on side old).faults

-- A side has this ring already, and its disk is as it was.
pub record HasRingStill (tells : Tells) (side : Side) (r s : Ring) (old new : Pair) : Type 0 where
  pub same : s ≡ r
  pub ring : IsSettledRing tells side s new
  pub disk : IsSameDisk (disk_on side old) (disk_on side new)

-- What became of a side that was to be attached: it had failed before, it failed now, it was attached, or its ring is the one
-- that it had.
abbrev pub AttachedNow : Tells → Header → Side → Follower → Option Ring → Pair → Pair → Type 0
AttachedNow tells h side follower.Failed None old new = (disk_on side new).faults ≡ (disk_on side old).faults
AttachedNow tells h side follower.Failed (Some r) old new = ⊥
AttachedNow tells h side follower.Level None old new = Rose (disk_on side old).faults (disk_on side new).faults
AttachedNow tells h side follower.Level (Some r) old new = HasAttachedOn tells h side r old new
AttachedNow tells h side (follower.Brought r) None old new = ⊥
AttachedNow tells h side (follower.Brought r) (Some s) old new = HasRingStill tells side r s old new

-- A moment of a side while both are attached and the next number is announced. One that had failed is left. The
-- image of one that is attached, whether it has failed or not, is what `attach` may leave of a settled disk. One that has its
-- ring already is left.
abbrev pub AttachMoment : Header → Side → Follower → Pair → PairMoment → Type 0
AttachMoment h side follower.Failed old m = old.since old.clock m ⊎ StaysOn side old m
AttachMoment h side follower.Level old m = OfSettled (seen side old) (IsAttaching h) (image_on side m)
AttachMoment h side (follower.Brought r) old m = (disk_on side old).may_leave (image_on side m)

-- A moment of both sides while they are attached, where this side leads and the other is this.
pub record AreAttachMoments (h : Header) (lead : Side) (other : Follower) (old : Pair) (m : PairMoment) : Type 0 where
  pub first : AttachMoment h First (start_on First lead other) old m
  pub second : AttachMoment h Second (start_on Second lead other) old m

-- The rings that there are, at least one, have this next number.
abbrev pub AgreeOnNext : Option Ring → Option Ring → ℕ → Type 0
AgreeOnNext None None next = ⊥
AgreeOnNext (Some r) None next = r.next ≡ next
AgreeOnNext None (Some s) next = s.next ≡ next
AgreeOnNext (Some r) (Some s) next = (r.next ≡ next) × (s.next ≡ next)

-- Why no number is that of all rings: there is none, or there are two with different numbers, of which the answer names the
-- lesser. No other answer comes.
abbrev pub IsNotGoneOn : Option Ring → Option Ring → PairOutcome → Type 0
IsNotGoneOn None None outcome.DiskFault = ⊤
IsNotGoneOn (Some r) (Some s) (outcome.BlocksDiffer seq) = (r.next ≢ s.next) × (seq ≡ min r.next s.next)
IsNotGoneOn o u why = ⊥

-- A moment of both sides while they are attached and this number is announced: it announces none that is under those from before
-- and this one, or over them, and nothing is pulled.
pub record IsGoingMoment (h : Header) (joined : Joined) (next : ℕ) (old : Pair) (m : PairMoment) : Type 0 where
  pub sides : AreAttachMoments h joined.lead joined.follower old m
  pub least : min old.least next ≤ m.announced
  pub announced : m.announced ≤ max old.greatest next
  pub pulled : HasPulled old m

-- Both sides that were joined are attached, and the next number is announced.
pub record HasGoneOnFrom (tells : Tells) (h : Header) (joined : Joined) (rings : PairRings) (old new : Pair) : Type 0 where
  pub header : rings.header ≡ h
  pub next : IsTrue tells.bytes → rings.next ≡ joined.found.next
  pub first : AttachedNow tells h First (start_on First joined.lead joined.follower) rings.first old new
  pub second : AttachedNow tells h Second (start_on Second joined.lead joined.follower) rings.second old new
  pub time : PairElapses old new
  pub counts : CountsBoth old new
  pub line : KeepsLine old new
  pub announced : new.announced ≡ rings.next
  pub least : min old.least rings.next ≤ new.least
  pub greatest : new.greatest ≤ max old.greatest rings.next
  pub moments : EachPairMoment tells old new (IsGoingMoment h joined rings.next old)

-- What is so where no recording goes on: DiskFault, where each side has failed before or fails now; or BlocksDiffer, where no
-- side failed and the twin doesn't tell its bytes. No other answer comes.
abbrev pub IsGoingFault : Tells → Header → Joined → PairOutcome → Pair → Pair → Type 0
IsGoingFault tells h joined outcome.DiskFault old new = AttachedNow tells h First (start_on First joined.lead joined.follower) None old new
    × AttachedNow tells h Second (start_on Second joined.lead joined.follower) None old new
IsGoingFault tells h joined (outcome.BlocksDiffer seq) old new =
    (joined.follower ≢ follower.Failed) × HasNoFault old new × (IsTrue tells.bytes → ⊥)
IsGoingFault tells h joined outcome.Done old new = ⊥
IsGoingFault tells h joined outcome.Usage old new = ⊥
IsGoingFault tells h joined (outcome.TableRefused row f) old new = ⊥
IsGoingFault tells h joined (outcome.TraceRefused index f) old new = ⊥
IsGoingFault tells h joined (outcome.ImageRefused s why) old new = ⊥
IsGoingFault tells h joined (outcome.WordsDiffer image table) old new = ⊥
IsGoingFault tells h joined outcome.SeqEnd old new = ⊥
IsGoingFault tells h joined (outcome.ReadFault i) old new = ⊥
IsGoingFault tells h joined outcome.NoMemory old new = ⊥
IsGoingFault tells h joined outcome.OldVersion old new = ⊥
IsGoingFault tells h joined outcome.HeadersDiffer old new = ⊥
IsGoingFault tells h joined (outcome.LeadFault s) old new = ⊥
IsGoingFault tells h joined (outcome.FarBehind s) old new = ⊥

-- Both sides weren't attached, for this reason, and nothing was announced or pulled.
pub record IsGoingRefused (tells : Tells) (h : Header) (joined : Joined) (why : PairOutcome) (old new : Pair) : Type 0 where
  pub fault : IsGoingFault tells h joined why old new
  pub work : PairWork tells (AreAttachMoments h joined.lead joined.follower old) old new
