-- Where the records of a recording come from, and which they are.
use Rattle.std.specs.Prelude.{◌≡◌, ◌≢◌, ℕ, ◌+◌, ◌-◌, ◌*◌, ◌^◌, ◌≤◌, true, false, if◌then◌else◌}
use Rattle.std.specs.Prelude.{List, [], ◌∷◌, ◌++◌, length, take, Some, Ok, IsTrue}
use Rattle.fdr_bus.specs.declared.BusRecord.{BusRecord}
use Rattle.fdr_bus.specs.declared.TraceFault.{TraceFault}
use Rattle.fdr_bus.specs.declared.TraceFault.TheVariants as trace
use Rattle.fdr_bus.specs.Records.{IsDecided, good_prefix, has_end, is_end, last_time, time_of, trace_fault}
use Rattle.fdr_deck.specs.State.{State, Tells}
use Rattle.fdr_gen.specs.Past.{GeneratorKept, RepresentsGenerator, words_given}
use Rattle.fdr_gen.specs.Trace.{generated_trace, most_frames}
use Rattle.fdr_table.specs.Rows.{TableRows}
use Rattle.fdr_trace.specs.Kept.{TraceKept}
use Rattle.fdr_trace.specs.Reading.{IsTraceStopped, RepresentsTrace}
use Rattle.fdr_trace.specs.declared.TraceStop.{TraceStop}
use Rattle.fdr_trace.specs.declared.TraceStop.TheVariants as stop
use Rattle.fdr_recorder.specs.Ends.{HasRecordedSource, RecordingEnd}
use Rattle.fdr_recorder.specs.declared.source.SourceEnd.TheVariants as source

-- where the records of a recording come from: the trace on the input, or the one that a seed generates for a number of frames
pub data RecordSupply : Type 0 where
  line_trace : RecordSupply
  drawn_trace : (t : TableRows) (seed frames : ℕ) → RecordSupply

-- all records that a supply gives, where these bytes are what was pulled of the input
abbrev pub supplied_records : RecordSupply → List ℕ → List BusRecord
supplied_records line_trace bytes = good_prefix bytes
supplied_records (drawn_trace t seed frames) bytes = generated_trace t seed frames

-- Nothing is pulled, except for the trace on the input.
abbrev pub PullsNothing : RecordSupply → List ℕ → Type 0
PullsNothing line_trace bytes = Unit {0}
PullsNothing (drawn_trace t seed frames) bytes = bytes ≡ []

-- The generator gave these records, the first of its trace, with no end among them.
pub record HasGenerated (g : GeneratorKept) (t : TableRows) (seed frames : ℕ) (bytes : List ℕ) (records : List BusRecord)
    : Type 0 where
  pub stands : RepresentsGenerator g (record { table = t; seed = seed; frames = frames; given = length records })
  pub first : records ≡ take (length records) (generated_trace t seed frames)
  pub unended : has_end records ≡ false
  pub within : frames ≤ most_frames
  pub unpulled : bytes ≡ []

-- The reader of a trace gave these records of this supply, and these bytes were pulled for them.
abbrev pub HasRead : RecordSupply → TraceKept → List ℕ → List BusRecord → Type 0
HasRead line_trace k bytes records = RepresentsTrace k bytes records
HasRead (drawn_trace t seed frames) k bytes records = ⊥

-- A generator gave these records of this supply, and no bytes were pulled.
abbrev pub HasDrawn : RecordSupply → GeneratorKept → List ℕ → List BusRecord → Type 0
HasDrawn line_trace g bytes records = ⊥
HasDrawn (drawn_trace t seed frames) g bytes records = HasGenerated g t seed frames bytes records

-- how many records of a trace may still come, by what its reader keeps
abbrev pub most_to_read : TraceKept → ℕ
most_to_read k = 2 ^ 32 - k.count

-- how many records a generator still gives, by what it keeps
abbrev pub left_to_draw : GeneratorKept → ℕ
left_to_draw g = g.seconds * length g.senders + 1 - (words_given g + (if g.ended then 1 else 0))

-- The record comes next of the supply after those records, and all that the supply gives begins with them. `Gave` tells of its
-- source; more can follow the record where it isn't the end.
pub record GivesNext (from : RecordSupply) (Gave : List ℕ → List BusRecord → Type 0) (bytes : List ℕ) (records : List BusRecord)
    (r : BusRecord) : Type 0 where
  pub order : time_of records ≤ r.time
  pub in_time : r.time ≤ last_time
  pub unended : has_end records ≡ false
  pub begins : (later : List BusRecord) × (supplied_records from bytes ≡ (records ++ r ∷ []) ++ later)
  pub more : is_end r ≡ false → Gave bytes (records ++ r ∷ [])
  pub ends : is_end r ≡ true → supplied_records from bytes ≡ records ++ r ∷ []
  pub unpulled : PullsNothing from bytes

-- No further record of the supply comes, which only a trace on the input can do before its end.
pub record HasRunOut (from : RecordSupply) (tells : Tells) (old new : State) (bytes : List ℕ) (records : List BusRecord) (why : TraceStop)
    : Type 0 where
  pub input : from ≡ line_trace
  pub stopped : IsTraceStopped tells old new bytes records why

-- How the trace on the input ended, of which these bytes were pulled, by the end of its recording: by its end record, its first
-- fault, or a read that failed before it was decided. Once it is decided, no fault of the input is met.
pub record EndsLine (tells : Tells) (old new : State) (pulled : List ℕ) (end : RecordingEnd) : Type 0 where
  pub ended : end ≡ Ok source.Ended → has_end (good_prefix pulled) ≡ true
  pub refused : (index : ℕ) (why : TraceFault) → end ≡ Ok (source.Stopped (stop.Refused index why))
      → trace_fault pulled ≡ Some (index, why)
  pub truncated : (index : ℕ) → end ≡ Ok (source.Stopped (stop.Refused index trace.Truncated)) → IsTrue tells.input → new.input ≡ []
  pub undecided : end ≡ Ok (source.Stopped stop.Failed) → IsDecided pulled → ⊥
  pub no_fault : HasRecordedSource end → end ≢ Ok (source.Stopped stop.Failed) → new.input_faults ≡ old.input_faults
  -- once the trace is decided, no fault of the input is met
  pub decided : IsDecided pulled → new.input_faults ≡ old.input_faults

-- How a supply ended, by the end of its recording: the trace on the input as `EndsLine` says, and a generated one by its end
-- record.
abbrev pub EndsSupply : RecordSupply → Tells → State → State → List ℕ → RecordingEnd → Type 0
EndsSupply line_trace tells old new pulled end = EndsLine tells old new pulled end
EndsSupply (drawn_trace t seed frames) tells old new pulled end = (pulled ≡ []) × (HasRecordedSource end → end ≡ Ok source.Ended)
