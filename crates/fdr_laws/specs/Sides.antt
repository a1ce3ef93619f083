-- What two sides hold of one recording.
use Rattle.std.specs.Prelude.{ℕ, ◌≡◌, ◌≢◌, ◌+◌, ◌-◌, ◌<◌, ◌≤◌, List, ◌++◌, length, None}
use Rattle.fdr_bus.specs.declared.BusRecord.{BusRecord}
use Rattle.fdr_slot.specs.declared.image.Header.{Header}
use Rattle.fdr_recover.specs.Blocks.{Block}
use Rattle.fdr_recover.specs.Images.{next_of, recovered_run}
use Rattle.fdr_pair.specs.Brought.{IsFarBehind}
use Rattle.fdr_pair.specs.Differ.{IsLeastDifference}
use Rattle.fdr_recover.specs.Payloads.{payloads_of}
use Rattle.fdr_recover.specs.Stretches.{last_session}
use Rattle.fdr_ring.specs.Runs.{last_blocks}
use Rattle.fdr_recover.specs.ImageHeader.{header_in}
use Rattle.fdr_recorder.specs.NewBlocks.{new_blocks}
use Rattle.fdr_recorder.specs.Past.{RecordingPast, all_blocks}
use Rattle.fdr_table.specs.Rows.{TableRows}
use Rattle.fdr_readout.specs.Listing.{listing_of}
use Rattle.fdr_readout.specs.SampledRows.{sampled_listing}
use Rattle.fdr_readout.specs.Survival.{Survives}
use Rattle.fdr_top.specs.Sessions.{IsLastSession}

-- Frame f of a recording survives in the bytes b as one of the run of frames j to j + m - 1 from bit q on, and in the bytes c as
-- one of frames k to k + l - 1 from bit r on.
pub record SurvivesInBoth (t : TableRows) (records : List BusRecord) (b : List ℕ) (q j m : ℕ) (c : List ℕ) (r k l f : ℕ) : Type 0 where
  pub one : Survives t records b q j m
  pub other : Survives t records c r k l
  pub from_one : j ≤ f
  pub in_one : f < j + m
  pub from_other : k ≤ f
  pub in_other : f < k + l

-- The image has the last N - 1 blocks of a run with these blocks after it.
abbrev pub EndsWithBlocks : Header → List Block → List Block → List ℕ → Type 0
EndsWithBlocks h run blocks image = recovered_run h image ≡ last_blocks (h.slots - 1) (run ++ blocks)

-- The image of a side holds all blocks of a recording after a run of earlier ones, of which the last N - 1 blocks are left. All
-- of the recording is among them, and its session isn't that of the block before.
pub record HoldsRecording (past : RecordingPast) (run : List Block) (image : List ℕ) : Type 0 where
  pub holds : EndsWithBlocks past.header run (all_blocks past) image
  pub some : 0 < length (all_blocks past)
  pub fits : length (all_blocks past) ≤ past.header.slots - 1
  pub session : 0 < length run → last_session run ≢ past.session

-- The last session of an image is a recording, and it lists as what was sampled.
pub record ListsBack (past : RecordingPast) (image : List ℕ) : Type 0 where
  pub last : IsLastSession (all_blocks past) (recovered_run past.header image)
  pub listing : listing_of past.table (payloads_of (all_blocks past)) ≡ sampled_listing past.table past.records

-- A recording of these records gives a block at least, and a ring that goes on from this image keeps all of its blocks.
pub record HasRoomForRecording (t : TableRows) (image : List ℕ) (records : List BusRecord) : Type 0 where
  pub some : 0 < length (new_blocks t image records)
  pub fits : length (new_blocks t image records) ≤ (header_in image).slots - 1

-- An image can be brought up to that of the lead: of the blocks of one number none differ, its next number isn't above the
-- lead's, and it isn't too far behind.
pub record AreInStep (h : Header) (lead follower : List ℕ) : Type 0 where
  pub blocks : IsLeastDifference (recovered_run h lead) (recovered_run h follower) None
  pub below : next_of h follower ≤ next_of h lead
  pub near : IsFarBehind h lead follower → ⊥
