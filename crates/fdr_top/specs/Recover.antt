-- The recovered run of an image, and what looking at it leaves.
use Rattle.std.specs.Prelude.{◌≡◌, ℕ, List}
use Rattle.fdr_deck.specs.State.{State, Tells}
use Rattle.fdr_deck.specs.Calls.{IsDiskWork}
use Rattle.fdr_deck.specs.Disk.{KeepsDisk, LearnsExtent}
use Rattle.fdr_recover.specs.Blocks.{Block}
use Rattle.fdr_recover.specs.Images.{IsRecovered}
use Rattle.fdr_recover.specs.declared.error.RingFault.{RingFault}
use Rattle.fdr_recover.specs.declared.error.RingFault.TheVariants as ring
use Rattle.fdr_recover.specs.ImageHeader.{header_in}
use Rattle.fdr_recover.specs.Payloads.{run_in}
use Rattle.fdr_top.specs.declared.outcome.Outcome.{Outcome}
use Rattle.fdr_top.specs.declared.outcome.Outcome.TheVariants as outcome

-- The run of an image is the longest list of blocks that are in it with consecutive numbers up to the greatest, and no other list
-- is.
pub record HasOneRun (image : List ℕ) : Type 0 where
  pub recovered : IsRecovered (header_in image) image (run_in image)
  pub only : (run : List Block) → IsRecovered (header_in image) image run → run ≡ run_in image

-- the answer where reading the header of an image ends with this fault; only one of the image or of the disk comes then
abbrev pub header_refusal : RingFault → Outcome
header_refusal (ring.Image why) = outcome.ImageRefused why
header_refusal ring.NotEmpty = outcome.DiskFault
header_refusal ring.DiskFault = outcome.DiskFault
header_refusal ring.SeqEnd = outcome.DiskFault

-- The disk was only looked at: it is as it was, except for a length that is asked for the first time, and a stop leaves what it
-- could leave.
pub record OnlyLooks (tells : Tells) (old new : State) : Type 0 where
  pub learns : LearnsExtent tells old new
  pub disk : KeepsDisk old new
  pub disk_work : IsDiskWork tells old.may_leave old new
