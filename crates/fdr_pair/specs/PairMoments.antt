-- What both images keep at each moment of a recording on two disks.
use Rattle.std.specs.Prelude.{◌≡◌, ◌⊎◌, ◌<◌, ◌≤◌, ℕ, List, [], ◌++◌}
use Rattle.fdr_io.specs.Faults.{Rose}
use Rattle.fdr_bus.specs.declared.BusRecord.{BusRecord}
use Rattle.fdr_deck.specs.State.{Tells}
use Rattle.fdr_deck.specs.Disk.{IsSettled}
use Rattle.fdr_recover.specs.Blocks.{Block}
use Rattle.fdr_recover.specs.ImageHeader.{header_in}
use Rattle.fdr_recover.specs.Payloads.{run_in}
use Rattle.fdr_table.specs.Rows.{TableRows}
use Rattle.fdr_twin.specs.declared.side.Side.{Side}
use Rattle.fdr_twin.specs.declared.side.Side.TheVariants.{First, Second}
use Rattle.fdr_twin.specs.Pair.{Pair, PairMoment, disk_on, image_on, faults_on, seen}
use Rattle.fdr_twin.specs.Serving.{EachPairMoment}
use Rattle.fdr_recorder.specs.NewBlocks.{new_blocks, next_in, owed_number}
use Rattle.fdr_pair.specs.Brought.{blocks_not_below, brought_run, missing_blocks}
use Rattle.fdr_pair.specs.Alike.{AreAlike, follower_on, lead_image, follower_image}
use Rattle.fdr_pair.specs.SideKeeping.{HasFailedOrKeeps, KeepsRecording}
use Rattle.fdr_pair.specs.Traces.{IsPairLagMoment}

-- What the promises on stops ask of both disks: each is settled, and no number above the lead's next was announced.
pub record MayRecordPair (p : Pair) : Type 0 where
  pub first : IsSettled (seen First p)
  pub second : IsSettled (seen Second p)
  pub greatest : p.greatest ≤ next_in (lead_image p)

-- The side has failed by this moment: its count of faults has risen since entry.
abbrev pub HasFailedBy : Side → Pair → PairMoment → Type 0
HasFailedBy side entry m = Rose (disk_on side entry).faults (faults_on side m)

-- Bytes had been pulled since entry at this moment.
abbrev pub HasPulledBytes : Pair → PairMoment → Type 0
HasPulledBytes entry m = entry.taken < m.taken

-- At this moment a side has failed, or its image keeps the run that it had at entry, the first of the blocks that a recording of
-- these records adds to it, and every announced one.
abbrev pub KeepsOwnRun : Side → TableRows → List BusRecord → Pair → PairMoment → Type 0
KeepsOwnRun side t records entry m = HasFailedOrKeeps side (header_in (disk_on side entry).held) (run_in (disk_on side entry).held)
    (next_in (disk_on side entry).held) (new_blocks t (disk_on side entry).held records) entry m

-- At this moment the side that didn't lead at entry has failed, or its image keeps its brought run, the first of the blocks that
-- a recording of these records adds to the lead, and every announced one.
abbrev pub KeepsBroughtRun : TableRows → List BusRecord → Pair → PairMoment → Type 0
KeepsBroughtRun t records entry m = HasFailedOrKeeps (follower_on entry) (header_in (lead_image entry))
    (brought_run (header_in (lead_image entry)) (lead_image entry) (follower_image entry))
    (next_in (lead_image entry)) (new_blocks t (lead_image entry) records) entry m

-- At this moment the image of a side, whether the side has failed or not, keeps the run that it had at entry, and the first of
-- these blocks, announced or not.
abbrev pub KeepsRunWith : Side → List Block → Pair → PairMoment → Type 0
KeepsRunWith side added entry m = KeepsRecording (header_in (disk_on side entry).held) (disk_on side entry).held
    (run_in (disk_on side entry).held) (next_in (disk_on side entry).held) added 0 (image_on side m)

-- At this moment the image of the side that didn't lead at entry, whether that side has failed or not, keeps the run that it had;
-- where the images are alike, it may have the first of the blocks besides that its brought run adds.
abbrev pub KeepsRunUntilPull : ℕ → Pair → PairMoment → Type 0
KeepsRunUntilPull words entry m = KeepsRunWith (follower_on entry) [] entry m ⊎ (AreAlike words entry
    × KeepsRunWith (follower_on entry) (missing_blocks (header_in (lead_image entry)) (lead_image entry) (follower_image entry)) entry m)

-- what a side is to get of a recording that goes on from the run of this base: the blocks of the base's run from the side's own
-- next number on, and those that a recording of these records adds to the base
abbrev pub blocks_to_get : Side → Side → TableRows → List BusRecord → Pair → List Block
blocks_to_get base side t records entry =
    blocks_not_below (next_in (disk_on side entry).held) (run_in (disk_on base entry).held) ++ new_blocks t (disk_on base entry).held records

-- At this moment the image of a side is what it was at entry, whether the side has failed or not.
abbrev pub StaysAsAtEntry : Side → Pair → PairMoment → Type 0
StaysAsAtEntry side entry m = image_on side m ≡ (disk_on side entry).held

-- The side has failed. Where stops are told, it had failed at each moment at which bytes had been pulled.
pub record HasFailedBeforePull (tells : Tells) (side : Side) (old new : Pair) : Type 0 where
  pub now : Rose (disk_on side old).faults (disk_on side new).faults
  pub moments : EachPairMoment tells old new (λ m. HasPulledBytes old m → HasFailedBy side old m)

-- At each moment a recording of these records keeps up with what was pulled, by the header and the next number of this image.
abbrev pub KeepsUpBy : List ℕ → TableRows → Tells → List ℕ → Pair → Pair → Type 0
KeepsUpBy image t tells pulled old new =
    EachPairMoment tells old new (IsPairLagMoment (owed_number t (header_in image) (next_in image)) old pulled)
