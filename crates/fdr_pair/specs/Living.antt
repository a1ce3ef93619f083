-- What a side is while blocks are recorded on both. A side has a ring, or none where it has failed.
use Rattle.std.specs.Prelude.{◌≡◌, ◌⊎◌, ◌≤◌, ℕ, ◌+◌, List, length, Option, Some, None, Bool, true, false, IsTrue, ⊤}
use Rattle.std.specs.Option.{ForSome}
use Rattle.fdr_io.specs.Faults.{Rose}
use Rattle.fdr_deck.specs.State.{Tells}
use Rattle.fdr_slot.specs.declared.image.Header.{Header}
use Rattle.fdr_recover.specs.Blocks.{Block}
use Rattle.fdr_recover.specs.Images.{recovered_run}
use Rattle.fdr_ring.specs.declared.ring.Ring.{Ring}
use Rattle.fdr_twin.specs.declared.side.Side.{Side}
use Rattle.fdr_twin.specs.Pair.{Pair, PairMoment, disk_on, image_on, faults_on}
use Rattle.fdr_twin.specs.Serving.{EachPairMoment}
use Rattle.fdr_recorder.specs.Keeping.{RecoversPrefix, RecoversAll}
use Rattle.fdr_pair.specs.Putting.{AddsExactly}
use Rattle.fdr_pair.specs.SidePuts.{IsSettledRing}

-- The ring is on a settled side, its next block has this number and may be of the session with that number, and the bytes fit
-- into its slots.
pub record IsReadyRing (tells : Tells) (side : Side) (r : Ring) (number session : ℕ) (bytes : List ℕ) (p : Pair) : Type 0 where
  pub ring : IsSettledRing tells side r p
  pub next : r.next ≡ number
  pub old_version : r.header.version ≡ 1 → session ≡ 0
  pub fits : length bytes ≤ r.header.payload

-- A side is ready for blocks from this number on, of a session and with these bytes: its ring is, or it has failed.
abbrev pub IsReadyFor : Tells → Side → Option Ring → ℕ → ℕ → List ℕ → Pair → Type 0
IsReadyFor tells side None next session bytes p = ⊤
IsReadyFor tells side (Some r) next session bytes p = IsReadyRing tells side r next session bytes p

-- What holds of a side at a moment after the old pair, by the ring that it had then. One that had failed has the count of faults
-- that it had, or the moment is one from before. One that hadn't has failed by then, or its image keeps the run that it had and
-- these new blocks (`RecoversPrefix`).
abbrev pub SideMoment : Side → Option Ring → List Block → Pair → PairMoment → Type 0
SideMoment side None new old m = old.since old.clock m ⊎ (faults_on side m ≡ (disk_on side old).faults)
SideMoment side (Some r) new old m = Rose (disk_on side old).faults (faults_on side m)
    ⊎ RecoversPrefix r.header (disk_on side old).held (recovered_run r.header (disk_on side old).held) new m.announced (image_on side m)

-- What the image of a side keeps at a moment after the old pair, whether the side has failed by then or not. One that had a ring
-- keeps the run that it had and the first of these new blocks, announced or not. One that had failed has an image that a stop
-- could leave before.
abbrev pub SideKept : Side → Option Ring → List Block → Pair → PairMoment → Type 0
SideKept side None new old m = (disk_on side old).may_leave (image_on side m)
SideKept side (Some r) new old m =
    RecoversPrefix r.header (disk_on side old).held (recovered_run r.header (disk_on side old).held) new 0 (image_on side m)

-- From the old pair to the new one the ring r has become the ring s, by these blocks: they are recovered after the run, of which
-- the last N - 1 blocks are left, the next number is higher by their number, and the side is settled.
pub record HasGoneOn (tells : Tells) (side : Side) (r s : Ring) (done : List Block) (old new : Pair) : Type 0 where
  pub header : s.header ≡ r.header
  pub next : s.next ≡ r.next + length done
  pub faults : (disk_on side new).faults ≡ (disk_on side old).faults
  pub keeps : IsTrue tells.bytes → RecoversAll r.header (disk_on side old).held (recovered_run r.header (disk_on side old).held) done (disk_on side new).held
  pub exact : IsTrue tells.bytes → AddsExactly r.header done (disk_on side old).held (disk_on side new).held
  pub ring : IsSettledRing tells side s new

-- What a side is after some blocks: it had failed and has the same count of faults, it has failed since, or its ring has gone on
-- by these blocks.
abbrev pub SideNow : Tells → Side → Option Ring → Option Ring → List Block → Pair → Pair → Type 0
SideNow tells side None None done old new = (disk_on side new).faults ≡ (disk_on side old).faults
SideNow tells side None (Some s) done old new = ⊥
SideNow tells side (Some r) None done old new = Rose (disk_on side old).faults (disk_on side new).faults
SideNow tells side (Some r) (Some s) done old new = HasGoneOn tells side r s done old new

-- From the start on, each moment of the side keeps the new blocks, where no number above their first could be announced at the
-- start. Those that are done are on it now, or it has failed. The side had the ring `first` at the start, and has the ring o now.
pub record GoesOn (tells : Tells) (side : Side) (first : Option Ring) (number : ℕ) (new done : List Block) (start : Pair) (o : Option Ring)
    (p : Pair) : Type 0 where
  pub moments : start.greatest ≤ number → EachPairMoment tells start p (SideMoment side first new start)
  pub now : SideNow tells side first o done start p

-- The ring, where the side hasn't failed, is in an image with this header, and its next block has this number.
abbrev pub Follows : Header → ℕ → Option Ring → Type 0
Follows h next o = ForSome o (λ r. (r.header ≡ h) × (r.next ≡ next))

-- whether one of the two sides, at least, hasn't failed
abbrev pub is_any_living : Option Ring → Option Ring → Bool
is_any_living (Some r) u = true
is_any_living None (Some s) = true
is_any_living None None = false

-- One of the two sides, at least, hasn't failed.
abbrev pub HasLiving : Option Ring → Option Ring → Type 0
HasLiving o u = IsTrue (is_any_living o u)
