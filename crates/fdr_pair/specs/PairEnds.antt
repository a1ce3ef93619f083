-- How a recording on two disks went on once bytes were pulled, and what both sides hold in the end.
use Rattle.std.specs.Prelude.{◌≡◌, ◌⊎◌, ◌<◌, ◌≤◌, ◌+◌, ◌-◌, ℕ, List, ◌++◌, length, take, None, IsTrue}
use Rattle.fdr_io.specs.Faults.{Rose}
use Rattle.fdr_bus.specs.declared.BusRecord.{BusRecord}
use Rattle.fdr_deck.specs.State.{Tells}
use Rattle.fdr_deck.specs.Disk.{IsSettled}
use Rattle.fdr_slot.specs.Limits.{sequence_end}
use Rattle.fdr_slot.specs.declared.image.Header.{Header}
use Rattle.fdr_recover.specs.Blocks.{Block}
use Rattle.fdr_recover.specs.Images.{recovered_run, next_of}
use Rattle.fdr_recover.specs.ImageHeader.{header_in, image_fault_of}
use Rattle.fdr_recover.specs.Payloads.{run_in}
use Rattle.fdr_ring.specs.Runs.{last_blocks}
use Rattle.fdr_table.specs.Rows.{TableRows}
use Rattle.fdr_twin.specs.declared.side.Side.{Side}
use Rattle.fdr_twin.specs.Pair.{Pair, disk_on, seen}
use Rattle.fdr_twin.specs.Serving.{EachPairMoment}
use Rattle.fdr_recorder.specs.NewBlocks.{new_blocks, next_in}
use Rattle.fdr_pair.specs.Brought.{brought_run}
use Rattle.fdr_pair.specs.Alike.{AreAlike, lead_on, follower_on, lead_image, follower_image}
use Rattle.fdr_pair.specs.PairMoments.{MayRecordPair, HasPulledBytes, HasFailedBeforePull, HasFailedBy, KeepsBroughtRun, KeepsOwnRun}
use Rattle.fdr_pair.specs.PairMoments.{KeepsRunWith, KeepsUpBy, blocks_to_get}
use Rattle.fdr_pair.specs.Opening.{IsRightImage}
use Rattle.fdr_pair.specs.Ahead.{IsCloseOn}

-- In the end a side, whose count of faults is as it was, holds the last N - 1 blocks of a run, whose next number was `next`, with
-- these blocks after it. Its header says what it said, and where stops are told, the disk is settled.
pub record HoldsAfter (tells : Tells) (side : Side) (h : Header) (run : List Block) (next : ℕ) (blocks : List Block) (old new : Pair)
    : Type 0 where
  pub faults : (disk_on side new).faults ≡ (disk_on side old).faults
  pub header : header_in (disk_on side new).held ≡ h
  pub last : recovered_run h (disk_on side new).held ≡ last_blocks (h.slots - 1) (run ++ blocks)
  pub number : next_of h (disk_on side new).held ≡ next + length blocks
  pub settled : IsTrue tells.stops → IsSettled (seen side new)

-- The lead holds its run at entry with these blocks after it.
abbrev pub LeadHolds : Tells → List Block → Pair → Pair → Type 0
LeadHolds tells blocks old new =
    HoldsAfter tells (lead_on old) (header_in (lead_image old)) (run_in (lead_image old)) (next_in (lead_image old)) blocks old new

-- The side that didn't lead at entry holds its brought run with these blocks after it.
abbrev pub FollowerHoldsBrought : Tells → List Block → Pair → Pair → Type 0
FollowerHoldsBrought tells blocks old new = HoldsAfter tells (follower_on old) (header_in (lead_image old))
    (brought_run (header_in (lead_image old)) (lead_image old) (follower_image old)) (next_in (lead_image old)) blocks old new

-- The side that didn't lead at entry holds its own run with these blocks after it.
abbrev pub FollowerHoldsOwn : Tells → List Block → Pair → Pair → Type 0
FollowerHoldsOwn tells blocks old new = HoldsAfter tells (follower_on old) (header_in (follower_image old))
    (run_in (follower_image old)) (next_in (follower_image old)) blocks old new

-- The count of faults of a side has risen.
abbrev pub HasFailedSince : Side → Pair → Pair → Type 0
HasFailedSince side old new = Rose (disk_on side old).faults (disk_on side new).faults

-- These blocks, which go on from the lead's run, are on each side that hasn't failed, at least one, and are announced.
pub record HoldWithLead (tells : Tells) (blocks : List Block) (old new : Pair) : Type 0 where
  pub lead : HasFailedSince (lead_on old) old new ⊎ LeadHolds tells blocks old new
  pub follower : HasFailedSince (follower_on old) old new ⊎ FollowerHoldsBrought tells blocks old new
  pub one : LeadHolds tells blocks old new ⊎ FollowerHoldsBrought tells blocks old new
  pub announced : new.announced ≡ next_in (lead_image old) + length blocks

-- These blocks, which go on from the run of the side that didn't lead, are on it, and are announced.
pub record HoldWithoutLead (tells : Tells) (blocks : List Block) (old new : Pair) : Type 0 where
  pub follower : FollowerHoldsOwn tells blocks old new
  pub announced : new.announced ≡ next_in (follower_image old) + length blocks

-- What became of these blocks, the first of which has the number `next`: where `all` are recorded, they are held and there was a
-- number for each; where the numbers are `used_up`, those are held that have one.
pub record HaveEnded (next : ℕ) (blocks : List Block) (Hold : List Block → Type 0) (all used_up : Type 0) : Type 0 where
  pub recorded : all → Hold blocks
  pub within : all → next + length blocks ≤ sequence_end
  pub seq_end : used_up → Hold (take (sequence_end - next) blocks)
  pub beyond : used_up → sequence_end < next + length blocks

-- The recording went on from the lead's run. From the first pulled byte on, the other side keeps its brought run and what is
-- recorded; or it failed before, and in the end the lead holds all. Each side, also one that has failed, keeps its run and the
-- first of what it is to get. The recording keeps up, and in the end all blocks are on each side that hasn't failed.
pub record GoesOnWithLead (t : TableRows) (tells : Tells) (records : List BusRecord) (pulled : List ℕ) (old new : Pair)
    (all used_up : Type 0) : Type 0 where
  pub follower : (AreAlike t.frame.words old
      × (MayRecordPair old → EachPairMoment tells old new (λ m. HasPulledBytes old m → KeepsBroughtRun t records old m)))
      ⊎ (HasFailedBeforePull tells (follower_on old) old new × HaveEnded (next_in (lead_image old)) (new_blocks t (lead_image old) records)
      (λ blocks. LeadHolds tells blocks old new) all used_up)
  pub read : all ⊎ used_up → IsRightImage t.frame.words (lead_image old)
  pub kept : (side : Side) → image_fault_of (disk_on side old).held ≡ None → MayRecordPair old → EachPairMoment tells old new
      (λ m. HasPulledBytes old m → KeepsRunWith side (blocks_to_get (lead_on old) side t records old) old m)
  -- on a side that hasn't failed at most one recorded block isn't announced
  pub close : (side : Side) → EachPairMoment tells old new (λ m. HasPulledBytes old m
      → HasFailedBy side old m ⊎ IsCloseOn (header_in (lead_image old)) (next_in (lead_image old)) side m)
  pub in_time : MayRecordPair old → KeepsUpBy (lead_image old) t tells pulled old new
  pub ends : HaveEnded (next_in (lead_image old)) (new_blocks t (lead_image old) records)
      (λ blocks. HoldWithLead tells blocks old new) all used_up

-- The lead failed before anything was pulled, and the recording went on from the run of the other side, which keeps it and what
-- is recorded. Each side, also one that has failed, keeps its run and the first of what it is to get. The recording keeps up, and
-- in the end all blocks are on that side, unless it failed too.
pub record GoesOnWithoutLead (t : TableRows) (tells : Tells) (records : List BusRecord) (pulled : List ℕ) (old new : Pair)
    (all used_up : Type 0) : Type 0 where
  pub lead : HasFailedBeforePull tells (lead_on old) old new
  pub read : all ⊎ used_up → IsRightImage t.frame.words (follower_image old)
  pub follower : MayRecordPair old → EachPairMoment tells old new (λ m. HasPulledBytes old m → KeepsOwnRun (follower_on old) t records old m)
  pub kept : (side : Side) → image_fault_of (disk_on side old).held ≡ None → MayRecordPair old → EachPairMoment tells old new
      (λ m. HasPulledBytes old m → KeepsRunWith side (blocks_to_get (follower_on old) side t records old) old m)
  pub close : EachPairMoment tells old new (λ m. HasPulledBytes old m → HasFailedBy (follower_on old) old m
      ⊎ IsCloseOn (header_in (follower_image old)) (next_in (follower_image old)) (follower_on old) m)
  pub in_time : MayRecordPair old → KeepsUpBy (follower_image old) t tells pulled old new
  pub ends : HaveEnded (next_in (follower_image old)) (new_blocks t (follower_image old) records)
      (λ blocks. HoldWithoutLead tells blocks old new) all used_up
