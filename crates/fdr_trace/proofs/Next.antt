-- The next record, where one waits.
use Rattle.std.proofs.Common.{◌≡◌, ℕ, ◌<◌, List, length, Result, Ok, Err, Some, arith}
use Rattle.std.specs.Prelude.{IfOk, IfErr, MatchResult}
use Rattle.std.proofs.lemmas.Grind.{common_steps}
use Rattle.fdr_bus.specs.declared.BusRecord.{BusRecord}
use Rattle.fdr_bus.specs.declared.TraceFault.TheVariants as fault
use Rattle.fdr_bus.specs.Records.{most_records, record_fault}
use Rattle.fdr_deck.specs.State.{State, Tells}
use Rattle.fdr_trace.specs.declared.TraceStop.{TraceStop}
use Rattle.fdr_trace.specs.Kept.{TraceKept}
use Rattle.fdr_trace.specs.Reading.{RepresentsTrace, IsNextRecord, IsTraceRefused, IsTraceStopped, TakesRecord, RefusesRecord}
use Rattle.fdr_trace.proofs.Records.{Reads-next, Reads-bad}

-- no record by itself is cut short
never_truncated : (before : ℕ) (bytes : List ℕ) → record_fault before bytes ≡ Some fault.Truncated → ⊥
unfolding record_fault
never_truncated before bytes is = grind (arith, common_steps)

refused_after : (tells : Tells) (now : State) (k k' : TraceKept) (bytes : List ℕ) (records : List BusRecord) (why : TraceStop) → RepresentsTrace k bytes records
    → length records < most_records → (refuses : RefusesRecord k k' why) → IsTraceRefused tells now bytes records k.count refuses.cause
refused_after tells now k k' bytes records why reads few refuses =
    let bad = Reads-bad k bytes records reads k' refuses.next refuses.cause few refuses.sixteen refuses.waited refuses.bad refuses.first in
    record {
      good = bad.0;
      first = bad.1;
      end = λ truncated. absurd (never_truncated k.time refuses.next (let first = refuses.first in rw truncated at first));
    }

pub next_of : (tells : Tells) (old now : State) (k k' : TraceKept) (bytes : List ℕ) (records : List BusRecord) (r : Result BusRecord TraceStop)
    → RepresentsTrace k bytes records → length records < most_records → IfOk r (TakesRecord k k') → IfErr r (RefusesRecord k k') →
    MatchResult r (IsNextRecord k' bytes records) (IsTraceStopped tells old now bytes records)
next_of tells old now k k' bytes records (Ok r) reads few takes refuses =
    Reads-next k bytes records reads k' takes.next r few takes.sixteen takes.waited takes.good takes.read takes.time takes.count
next_of tells old now k k' bytes records (Err why) reads few takes refuses =
    rw refuses.refusal (refused_after tells now k k' bytes records why reads few refuses)
