-- What is recorded on both disks of a twin in memory that was just made.
use Rattle.std.specs.Prelude.{◌≡◌, ◌⊎◌, ℕ, List, [], ◌++◌, length, None}
use Rattle.fdr_bus.specs.Records.{good_prefix}
use Rattle.fdr_deck.specs.Memory.{memory_tells}
use Rattle.fdr_table.specs.Rows.{TableRows}
use Rattle.fdr_recover.specs.ImageHeader.{image_fault_of, header_in}
use Rattle.fdr_recorder.specs.NewBlocks.{new_blocks, next_in, owed_number}
use Rattle.fdr_twin.specs.declared.side.Side.{Side}
use Rattle.fdr_twin.specs.declared.side.Side.TheVariants.{First}
use Rattle.fdr_twin.specs.Pair.{Pair, PairMoment, Disk, disk_on}
use Rattle.fdr_twin.specs.TwinMemory.{TwinMemory, twin_pair}
use Rattle.fdr_pair.specs.Alike.{AreAlike, lead_on, follower_on, lead_image, follower_image}
use Rattle.fdr_pair.specs.Traces.{IsPairLagMoment}
use Rattle.fdr_pair.specs.PairMoments.{HasPulledBytes, HasFailedBeforePull, KeepsOwnRun, KeepsBroughtRun, KeepsRunUntilPull, KeepsRunWith}
use Rattle.fdr_pair.specs.PairMoments.{StaysAsAtEntry, blocks_to_get}
use Rattle.fdr_pair.specs.PairStages.{EndsPairTrace, LeavesPairLine}
use Rattle.fdr_pair.specs.PairEnds.{HaveEnded, HoldWithLead, HoldWithoutLead}
use Rattle.fdr_pair.specs.declared.outcome.PairOutcome.{PairOutcome}
use Rattle.fdr_pair.specs.declared.outcome.PairOutcome.TheVariants as outcome

-- a settled disk with this image, none of whose calls has failed
abbrev pub settled_disk : List ℕ → Disk
settled_disk held = record { extent = length held; held = held; may_leave = λ image. image ≡ held; faults = 0 }

-- two settled disks with these images, and this line, of which nothing was pulled yet, at the start of time
abbrev pub pair_at_start : List ℕ → List ℕ → List ℕ → Pair
pair_at_start first second line = record {
  turned = First;
  first = settled_disk first;
  second = settled_disk second;
  clock = 0;
  since = λ t m. ⊥;
  announced = 0;
  least = 0;
  greatest = 0;
  input = line;
  taken = 0;
  pulled_before = 0;
  input_faults = 0;
}

-- Each moment of a twin in memory since it was made has this property.
abbrev pub EachMomentOf : TwinMemory → (PairMoment → Type 0) → Type 0
EachMomentOf twin P = (m : PairMoment) → (twin_pair twin).since 0 m → P m

-- At each moment a recording of these bytes keeps up with what was pulled, by the header and the next number of this image.
abbrev pub KeepsUpOnBoth : List ℕ → TableRows → List ℕ → Pair → TwinMemory → Type 0
KeepsUpOnBoth image t pulled entry twin = EachMomentOf twin (IsPairLagMoment (owed_number t (header_in image) (next_in image)) entry pulled)

-- The recording went on from the lead's run. From the first pulled byte on, the other side keeps its brought run and what is
-- recorded, or it failed before. Each side, also one that has failed, keeps its run and the first of what it is to get. The
-- recording keeps up, and in the end all blocks are on each side that hasn't failed.
pub record WentOnWithLead (t : TableRows) (pulled : List ℕ) (entry : Pair) (answer : PairOutcome) (twin : TwinMemory) : Type 0 where
  pub follower : (AreAlike t.frame.words entry
      × EachMomentOf twin (λ m. HasPulledBytes entry m → KeepsBroughtRun t (good_prefix pulled) entry m))
      ⊎ HasFailedBeforePull memory_tells (follower_on entry) entry (twin_pair twin)
  pub kept : (side : Side) → image_fault_of (disk_on side entry).held ≡ None → EachMomentOf twin
      (λ m. HasPulledBytes entry m → KeepsRunWith side (blocks_to_get (lead_on entry) side t (good_prefix pulled) entry) entry m)
  pub in_time : KeepsUpOnBoth (lead_image entry) t pulled entry twin
  pub ends : HaveEnded (next_in (lead_image entry)) (new_blocks t (lead_image entry) (good_prefix pulled))
      (λ blocks. HoldWithLead memory_tells blocks entry (twin_pair twin)) (EndsPairTrace answer) (answer ≡ outcome.SeqEnd)

-- The lead failed before anything was pulled, and the recording went on from the run of the other side, which keeps it and what
-- is recorded. Each side, also one that has failed, keeps its run and the first of what it is to get. The recording keeps up, and
-- in the end all blocks are on that side.
pub record WentOnWithoutLead (t : TableRows) (pulled : List ℕ) (entry : Pair) (answer : PairOutcome) (twin : TwinMemory) : Type 0 where
  pub lead : HasFailedBeforePull memory_tells (lead_on entry) entry (twin_pair twin)
  pub follower : EachMomentOf twin (λ m. HasPulledBytes entry m → KeepsOwnRun (follower_on entry) t (good_prefix pulled) entry m)
  pub kept : (side : Side) → image_fault_of (disk_on side entry).held ≡ None → EachMomentOf twin
      (λ m. HasPulledBytes entry m → KeepsRunWith side (blocks_to_get (follower_on entry) side t (good_prefix pulled) entry) entry m)
  pub in_time : KeepsUpOnBoth (follower_image entry) t pulled entry twin
  pub ends : HaveEnded (next_in (follower_image entry)) (new_blocks t (follower_image entry) (good_prefix pulled))
      (λ blocks. HoldWithoutLead memory_tells blocks entry (twin_pair twin)) (EndsPairTrace answer) (answer ≡ outcome.SeqEnd)

-- What the images on both disks keep at each moment of a recording by this table that began with this pair, of a trace of which
-- these bytes were pulled, and hold in the end.
pub record KeptOnBoth (t : TableRows) (pulled : List ℕ) (entry : Pair) (answer : PairOutcome) (twin : TwinMemory) : Type 0 where
  pub lead : image_fault_of (lead_image entry) ≡ None → EachMomentOf twin (KeepsOwnRun (lead_on entry) t (good_prefix pulled) entry)
  pub follower : image_fault_of (follower_image entry) ≡ None
      → EachMomentOf twin (λ m. m.taken ≡ entry.taken → KeepsRunUntilPull t.frame.words entry m)
  pub lead_run : image_fault_of (lead_image entry) ≡ None → EachMomentOf twin (λ m. m.taken ≡ entry.taken → KeepsRunWith (lead_on entry) [] entry m)
  pub unread : (side : Side) → (image_fault_of (disk_on side entry).held ≡ None → ⊥) → EachMomentOf twin (StaysAsAtEntry side entry)
  pub goes_on : (LeavesPairLine answer → ⊥) → WentOnWithLead t pulled entry answer twin ⊎ WentOnWithoutLead t pulled entry answer twin

-- The trace on this line was recorded by a table on both disks of a twin in memory that was made with these images, and has these
-- calls now: a stop at each moment since leaves on each disk what `run_pair` promises, also on one that has failed. No premise is
-- left.
pub record IsRecordedOnBoth (t : TableRows) (first second line : List ℕ) (answer : PairOutcome) (twin : TwinMemory) : Type 0 where
  pub pulled : List ℕ
  pub left : List ℕ
  pub split : line ≡ pulled ++ left
  pub keeps : KeptOnBoth t pulled (pair_at_start first second line) answer twin
