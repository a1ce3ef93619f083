-- What `stream` promises: the recording of the good records of the input.
use Rattle.std.specs.Prelude.{◌≡◌, ◌≢◌, ◌⊎◌, ℕ, List, [], take, Option, Some, IsTrue}
use Rattle.fdr_io.specs.Faults.{Rose}
use Rattle.fdr_io.specs.Told.{followed_by}
use Rattle.fdr_io.specs.declared.Input.TheVariants as input
use Rattle.fdr_deck.specs.State.{State, Tells}
use Rattle.fdr_bus.specs.declared.BusRecord.{BusRecord}
use Rattle.fdr_bus.specs.Records.{good_prefix, trace_fault}
use Rattle.fdr_bus.specs.declared.TraceFault.{TraceFault}
use Rattle.fdr_table.specs.Rows.{TableRows}
use Rattle.fdr_sampler.specs.Exchange.{AreExchanged}
use Rattle.fdr_sampler.specs.Stream.{stream_of}
use Rattle.fdr_readout.specs.Listing.{listing_of}
use Rattle.fdr_readout.specs.SampledRows.{sampled_listing}
use Rattle.fdr_trace.specs.Pulls.{PullsUntilDecided}
use Rattle.fdr_top.specs.Traces.{EndsTrace}
use Rattle.fdr_top.specs.declared.outcome.Outcome.{Outcome}
use Rattle.fdr_top.specs.declared.outcome.Outcome.TheVariants as outcome

-- A front part of the recording of all good records that the input has was written.
abbrev pub WritesStreamPart : TableRows → State → Option (List ℕ) → Option (List ℕ) → Type 0
WritesStreamPart t d before now = (k : ℕ) × (now ≡ followed_by before (take k (stream_of t (good_prefix d.input))))

-- Of the input these bytes were pulled as those of a trace, and of the recording of their good records a front part was written,
-- all of it but where the answer is a fault of writing.
pub record Streams (t : TableRows) (tells : Tells) (old new : State) (written_before written_now : Option (List ℕ)) (answer : Outcome) : Type 0 where
  pub pulled : List ℕ
  pub pulls : PullsUntilDecided tells old new [] pulled
  pub text : answer ≢ outcome.WriteFault → written_now ≡ followed_by written_before (stream_of t (good_prefix pulled))
  pub part : (k : ℕ) × (written_now ≡ followed_by written_before (take k (stream_of t (good_prefix pulled))))
  pub ends : EndsTrace tells old new pulled answer

-- What `stream` promises: what was pulled of the trace, that the recording of its good records was written, or a front part of
-- it, that this lists back as what was sampled, and which refusal is answered.
pub record StreamsTrace (t : TableRows) (tells : Tells) (old new : State) (written_before written_now : Option (List ℕ)) (answer : Outcome) : Type 0 where
  pub streams : Streams t tells old new written_before written_now answer
  pub whole : answer ≡ outcome.Done → IsTrue tells.input
      → written_now ≡ followed_by written_before (stream_of t (good_prefix old.input))
  -- where no pull failed, nothing was written that isn't in the recording of all of the input
  pub part_of_whole : IsTrue tells.input → (Rose old.input_faults new.input_faults → ⊥) → WritesStreamPart t old written_before written_now
  pub lists_back : listing_of t (stream_of t (good_prefix old.input)) ≡ sampled_listing t (good_prefix old.input)
  -- Words of one time on different buses or with different labels may come in either order.
  pub exchanged : (others : List BusRecord) → AreExchanged (good_prefix old.input) others
      → stream_of t (good_prefix old.input) ≡ stream_of t others
  pub refused : (index : ℕ) (why : TraceFault) → answer ≡ outcome.TraceRefused index why → IsTrue tells.input
      → trace_fault old.input ≡ Some (index, why)
  pub refused_always : (index : ℕ) (why : TraceFault) → IsTrue tells.input → trace_fault old.input ≡ Some (index, why)
      → (answer ≡ outcome.TraceRefused index why) ⊎ ((answer ≡ outcome.ReadFault input.Line) ⊎ (answer ≡ outcome.WriteFault))
