-- What `record` promises: the blocks of a trace in an image, at every moment and in the end.
use Rattle.std.specs.Prelude.{◌≡◌, ◌⊎◌, ◌<◌, ◌≤◌, ℕ, ◌-◌, List, [], length, Some, IsTrue}
use Rattle.fdr_io.specs.declared.Input.TheVariants as input
use Rattle.fdr_bus.specs.declared.BusRecord.{BusRecord}
use Rattle.fdr_bus.specs.declared.TraceFault.{TraceFault}
use Rattle.fdr_bus.specs.Records.{good_prefix, trace_fault}
use Rattle.fdr_deck.specs.State.{State, Tells}
use Rattle.fdr_deck.specs.Moments.{EachMoment}
use Rattle.fdr_recover.specs.ImageHeader.{header_in}
use Rattle.fdr_table.specs.Rows.{TableRows}
use Rattle.fdr_trace.specs.Pulls.{PullsUntilDecided}
use Rattle.fdr_recorder.specs.Lag.{IsLagMoment}
use Rattle.fdr_recorder.specs.NewBlocks.{MayRecord, RecordsBlocks, new_blocks, next_in, owed_number}
use Rattle.fdr_top.specs.Stages.{EndsReading, EndsRecording, IsPastTable}
use Rattle.fdr_top.specs.Refusals.{RefusesImage, RefusesOldImage}
use Rattle.fdr_top.specs.Sessions.{IsLastSession}
use Rattle.fdr_top.specs.Traces.{EndsTrace}
use Rattle.fdr_readout.specs.Listing.{listing_of}
use Rattle.fdr_readout.specs.SampledRows.{sampled_listing}
use Rattle.fdr_readout.specs.Survival.{AreListed, Survives}
use Rattle.fdr_recover.specs.Payloads.{payloads_of, run_in}
use Rattle.fdr_top.specs.declared.outcome.Outcome.{Outcome}
use Rattle.fdr_top.specs.declared.outcome.Outcome.TheVariants as outcome

-- Blocks of these records were recorded, all of them or up to the last number, by the answer: `RecordsBlocks` says what that
-- leaves.
abbrev pub RecordsStream : TableRows → Tells → List BusRecord → State → State → Outcome → Type 0
RecordsStream t tells records old new answer = RecordsBlocks t tells records old new (EndsRecording answer) (answer ≡ outcome.SeqEnd)

-- Frames of a recording of these records that survive in any bits at all are listed from them.
abbrev pub ListsSurvivors : TableRows → List BusRecord → Type 0
ListsSurvivors t records = (b : List ℕ) (q j m : ℕ) → Survives t records b q j m → AreListed t records b q j m

-- A recording of these records in an image that has room for it is the last session of the run that the disk holds, and lists as
-- what was sampled, whatever the image held before.
abbrev pub ListsUndamaged : TableRows → Tells → List BusRecord → State → State → Type 0
ListsUndamaged t tells records old new = IsTrue tells.bytes → 0 < length (new_blocks t old.held records)
    → length (new_blocks t old.held records) ≤ (header_in old.held).slots - 1
    → IsLastSession (new_blocks t old.held records) (run_in new.held)
    × (listing_of t (payloads_of (new_blocks t old.held records)) ≡ sampled_listing t records)

-- What `record` promises: the recording of the trace of which these bytes were pulled, which refusal of the image is answered,
-- that what is owed is announced at each moment, how the trace ended, and that what was recorded can be read back.
pub record RecordsTrace (t : TableRows) (tells : Tells) (old new : State) (answer : Outcome) : Type 0 where
  pub pulled : List ℕ
  pub pulls : PullsUntilDecided tells old new [] pulled
  pub blocks : RecordsStream t tells (good_prefix pulled) old new answer
  pub image : RefusesImage t tells old new answer
  pub old_image : RefusesOldImage t tells old answer
  -- What is owed for the records before the last pull is announced.
  pub in_time : MayRecord old
      → EachMoment tells old new (IsLagMoment (owed_number t (header_in old.held) (next_in old.held)) old pulled)
  pub trace : EndsTrace tells old new pulled answer
  -- What was told of the input decides how a recording of all of it ends.
  pub whole : answer ≡ outcome.Done → IsTrue tells.input → good_prefix pulled ≡ good_prefix old.input
  pub trace_always : (index : ℕ) (why : TraceFault) → EndsReading answer → IsTrue tells.input
      → trace_fault old.input ≡ Some (index, why)
      → (answer ≡ outcome.TraceRefused index why) ⊎ (answer ≡ outcome.ReadFault input.Line)
  pub survives : IsPastTable answer → ListsSurvivors t (good_prefix pulled)
  pub undamaged : EndsRecording answer → ListsUndamaged t tells (good_prefix pulled) old new
