-- The side that follows is brought up to the lead.
use Rattle.std.specs.Prelude.{◌≡◌, List, IsTrue}
use Rattle.fdr_io.specs.Faults.{Rose}
use Rattle.fdr_deck.specs.State.{Tells}
use Rattle.fdr_slot.specs.declared.image.Header.{Header}
use Rattle.fdr_recover.specs.Blocks.{Block}
use Rattle.fdr_recover.specs.Images.{recovered_run}
use Rattle.fdr_ring.specs.declared.ring.Ring.{Ring}
use Rattle.fdr_twin.specs.declared.side.Side.{Side}
use Rattle.fdr_twin.specs.Pair.{Pair, PairMoment, other_side, disk_on, image_on}
use Rattle.fdr_recorder.specs.Keeping.{RecoversPrefix, RecoversAll}
use Rattle.fdr_pair.specs.Putting.{AddsExactly}
use Rattle.fdr_pair.specs.SidePuts.{IsSettledRing}

-- A moment while blocks of the lead are put on the side that follows: the lead's image is one that a stop could leave before, and
-- the other side's keeps its own run and the first of these blocks.
pub record IsBringing (h : Header) (lead : Side) (blocks : List Block) (old : Pair) (m : PairMoment) : Type 0 where
  pub lead_image : (disk_on lead old).may_leave (image_on lead m)
  pub follower : RecoversPrefix h (disk_on (other_side lead) old).held
      (recovered_run h (disk_on (other_side lead) old).held) blocks 0 (image_on (other_side lead) m)

-- No fault was counted on either side.
pub record HasNoFault (old new : Pair) : Type 0 where
  pub first : new.first.faults ≡ old.first.faults
  pub second : new.second.faults ≡ old.second.faults

-- This side failed, and no fault was counted on the other.
pub record HasFailedAlone (side : Side) (old new : Pair) : Type 0 where
  pub rose : Rose (disk_on side old).faults (disk_on side new).faults
  pub other : (disk_on (other_side side) new).faults ≡ (disk_on (other_side side) old).faults

-- The blocks of the lead are on the side that follows, after its own run, of which the last N - 1 blocks are left, and its ring r
-- is now the ring s. No fault was counted.
pub record HasBrought (tells : Tells) (lead : Side) (r s : Ring) (blocks : List Block) (old new : Pair) : Type 0 where
  pub header : s.header ≡ r.header
  pub keeps : IsTrue tells.bytes → RecoversAll r.header (disk_on (other_side lead) old).held
      (recovered_run r.header (disk_on (other_side lead) old).held) blocks (disk_on (other_side lead) new).held
  pub exact : IsTrue tells.bytes
      → AddsExactly r.header blocks (disk_on (other_side lead) old).held (disk_on (other_side lead) new).held
  pub ring : IsSettledRing tells (other_side lead) s new
  pub no_fault : HasNoFault old new
