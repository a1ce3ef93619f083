-- The records that were read of a trace.
use Rattle.std.specs.Prelude.{◌≡◌, ◌≤◌, ◌+◌, ℕ, true, false, List, [], ◌∷◌, ◌++◌, length, IsTrue, Some}
use Rattle.fdr_io.specs.Faults.{Rose}
use Rattle.fdr_deck.specs.State.{State, Tells}
use Rattle.fdr_bus.specs.declared.BusRecord.{BusRecord}
use Rattle.fdr_bus.specs.declared.TraceFault.{TraceFault}
use Rattle.fdr_bus.specs.declared.TraceFault.TheVariants as fault
use Rattle.fdr_bus.specs.Records.{IsDecided, IsOpen, good_prefix, is_end, is_good, last_time, record_fault, record_of, time_of, trace_fault}
use Rattle.fdr_trace.specs.declared.TraceStop.{TraceStop}
use Rattle.fdr_trace.specs.declared.TraceStop.TheVariants as stop
use Rattle.fdr_trace.specs.Kept.{TraceKept}

-- What the reader keeps stands where these bytes were pulled, and these records of them were read: good ones, with no end among
-- them.
pub record RepresentsTrace (k : TraceKept) (bytes : List ℕ) (records : List BusRecord) : Type 0 where
  pub read : List ℕ
  pub split : bytes ≡ read ++ k.waiting
  pub unended : IsOpen read
  pub good : records ≡ good_prefix read
  pub time : k.time ≡ time_of records
  pub count : k.count ≡ length records

-- The record comes in these bytes after those records. More can follow it where it isn't the end.
pub record IsNextRecord (k : TraceKept) (bytes : List ℕ) (records : List BusRecord) (r : BusRecord) : Type 0 where
  pub order : time_of records ≤ r.time
  pub in_time : r.time ≤ last_time
  pub more : is_end r ≡ false → RepresentsTrace k bytes (records ++ r ∷ [])
  pub ends : is_end r ≡ true → good_prefix bytes ≡ records ++ r ∷ []

-- The trace is refused for this fault of the record with this index, after these records, which are all the good ones of these
-- bytes.
pub record IsTraceRefused (tells : Tells) (new : State) (bytes : List ℕ) (records : List BusRecord) (index : ℕ) (why : TraceFault) : Type 0 where
  pub good : good_prefix bytes ≡ records
  pub first : trace_fault bytes ≡ Some (index, why)
  pub end : why ≡ fault.Truncated → IsTrue tells.input → new.input ≡ []

-- No more could be pulled after these records, since a pull failed. They are all the good ones of these bytes, which don't decide
-- the trace.
pub record IsCutOff (old new : State) (bytes : List ℕ) (records : List BusRecord) : Type 0 where
  pub good : good_prefix bytes ≡ records
  pub undecided : IsDecided bytes → ⊥
  pub cause : Rose old.input_faults new.input_faults

-- No record comes after these, for this reason: the trace is refused, or a pull failed.
abbrev pub IsTraceStopped : Tells → State → State → List ℕ → List BusRecord → TraceStop → Type 0
IsTraceStopped tells old new bytes records (stop.Refused index why) = IsTraceRefused tells new bytes records index why
IsTraceStopped tells old new bytes records stop.Failed = IsCutOff old new bytes records

-- A whole record waits after these records.
pub record IsFilled (k : TraceKept) (bytes : List ℕ) (records : List BusRecord) : Type 0 where
  pub reads : RepresentsTrace k bytes records
  pub waits : 16 ≤ length k.waiting

-- The record that waited was read, and it is a good one.
pub record TakesRecord (old new : TraceKept) (r : BusRecord) : Type 0 where
  pub next : List ℕ
  pub sixteen : length next ≡ 16
  pub waited : old.waiting ≡ next ++ new.waiting
  pub good : is_good old.time next ≡ true
  pub read : r ≡ record_of next
  pub time : new.time ≡ r.time
  pub count : new.count ≡ old.count + 1

-- The record that waited was read, and it isn't a good one.
pub record RefusesRecord (old new : TraceKept) (why : TraceStop) : Type 0 where
  pub next : List ℕ
  pub cause : TraceFault
  pub sixteen : length next ≡ 16
  pub waited : old.waiting ≡ next ++ new.waiting
  pub bad : is_good old.time next ≡ false
  pub first : record_fault old.time next ≡ Some cause
  pub refusal : why ≡ stop.Refused old.count cause
