-- How the trace on the input ended.
use Rattle.std.specs.Prelude.{◌≡◌, ◌≢◌, ℕ, true, List, [], Some, IsTrue}
use Rattle.fdr_io.specs.declared.Input.TheVariants as input
use Rattle.fdr_bus.specs.Records.{IsDecided, good_prefix, has_end, trace_fault}
use Rattle.fdr_bus.specs.declared.TraceFault.{TraceFault}
use Rattle.fdr_bus.specs.declared.TraceFault.TheVariants as trace
use Rattle.fdr_deck.specs.State.{State, Tells}
use Rattle.fdr_top.specs.Stages.{EndsReading}
use Rattle.fdr_top.specs.declared.outcome.Outcome.{Outcome}
use Rattle.fdr_top.specs.declared.outcome.Outcome.TheVariants as outcome

-- How a trace ended, of which these bytes were pulled, by the answer: by its end record, its first fault, or a read that failed
-- before it was decided. Once it is decided, no fault of the input is met.
pub record EndsTrace (tells : Tells) (old new : State) (pulled : List ℕ) (answer : Outcome) : Type 0 where
  pub ended : answer ≡ outcome.Done → has_end (good_prefix pulled) ≡ true
  pub refused : (index : ℕ) (why : TraceFault) → answer ≡ outcome.TraceRefused index why
      → trace_fault pulled ≡ Some (index, why)
  pub truncated : (index : ℕ) → answer ≡ outcome.TraceRefused index trace.Truncated → IsTrue tells.input → new.input ≡ []
  pub undecided : answer ≡ outcome.ReadFault input.Line → IsDecided pulled → ⊥
  pub no_fault : EndsReading answer → answer ≢ outcome.ReadFault input.Line → new.input_faults ≡ old.input_faults
  -- once the trace is decided, no fault of the input is met
  pub decided : IsDecided pulled → new.input_faults ≡ old.input_faults
