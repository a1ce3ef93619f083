-- How far a stream was written.
use Rattle.std.specs.Prelude.{◌≡◌, ◌≢◌, ℕ, ◌*◌, ◌≤◌, true, false, IsTrue, List, [], Option, Some, None, take}
use Rattle.fdr_io.specs.Faults.{Rose}
use Rattle.fdr_io.specs.Told.{followed_by}
use Rattle.fdr_bus.specs.declared.BusRecord.{BusRecord}
use Rattle.fdr_io.specs.declared.Input.TheVariants as input
use Rattle.fdr_deck.specs.State.{State, Tells}
use Rattle.fdr_bus.specs.declared.TraceFault.{TraceFault}
use Rattle.fdr_bus.specs.declared.TraceFault.TheVariants as trace
use Rattle.fdr_bus.specs.Records.{IsDecided, good_prefix, has_end, last_time, time_of, trace_fault}
use Rattle.fdr_slot.specs.Limits.{most_payload_bytes}
use Rattle.fdr_trace.specs.Pulls.{PullsUntilDecided}
use Rattle.fdr_trace.specs.Reading.{RepresentsTrace}
use Rattle.fdr_words.specs.Forms.{stream_line}
use Rattle.fdr_top.specs.Answers.{IsOwn}
use Rattle.fdr_top.specs.Stream.{WritesStreamPart}
use Rattle.fdr_top.specs.declared.outcome.Outcome.{Outcome}
use Rattle.fdr_top.specs.declared.outcome.Outcome.TheVariants as outcome
use Rattle.fdr_top.specs.declared.streaming.Recording.{Recording}
use Rattle.fdr_table.specs.Rows.{TableRows}
use Rattle.fdr_sampler.specs.Stream.{stream_of}
use Rattle.fdr_stream.specs.Blocks.{due_blocks}
use Rattle.fdr_stream.specs.Kept.{StreamKept}
use Rattle.fdr_stream.specs.Past.{StreamPast, stream_made, RepresentsStream}

-- the past of a stream to which these records were fed, and which gave the blocks of 4,096 bytes that are due at them
abbrev pub past_of : TableRows → List BusRecord → StreamPast
past_of t records = record { table = t; payload = most_payload_bytes; records = records; begun = None; blocks = due_blocks t most_payload_bytes records }

-- the bytes of the blocks of 4,096 bytes that are due at these records
abbrev pub due_text : TableRows → List BusRecord → List ℕ
due_text t records = take (most_payload_bytes * due_blocks t most_payload_bytes records) (stream_of t records)

-- These records were fed to the stream, and all blocks that are due were written.
pub record IsStreamed (k : StreamKept) (t : TableRows) (records : List BusRecord) (written_before written_now : Option (List ℕ)) : Type 0 where
  pub stands : RepresentsStream k (past_of t records)
  pub written : written_now ≡ followed_by written_before (due_text t records)

-- The record comes next in time after these, it is in time, and no end was fed.
pub record ComesNext (records : List BusRecord) (r : BusRecord) : Type 0 where
  pub order : time_of records ≤ r.time
  pub in_time : r.time ≤ last_time
  pub unended : has_end records ≡ false

-- Nothing was pulled of the trace, and nothing drawn.
pub record IsUnbegun (r : Recording) (t : TableRows) : Type 0 where
  pub trace : RepresentsTrace r.trace [] []
  pub stream : RepresentsStream r.stream (stream_made t most_payload_bytes)

-- The good records of these bytes were fed to the stream and their due blocks written, and the answer is why there are no more.
pub record IsStreamedTo (t : TableRows) (tells : Tells) (old new : State) (k : StreamKept) (written_before written_now : Option (List ℕ)) (answer : Outcome)
    : Type 0 where
  pub pulled : List ℕ
  pub pulls : PullsUntilDecided tells old new [] pulled
  pub streamed : IsStreamed k t (good_prefix pulled) written_before written_now
  pub own : (path : List ℕ) → IsOwn (stream_line path) answer
  pub whole : answer ≢ outcome.WriteFault
  pub ended : answer ≡ outcome.Done → has_end (good_prefix pulled) ≡ true
  pub refused : (index : ℕ) (why : TraceFault) → answer ≡ outcome.TraceRefused index why → trace_fault pulled ≡ Some (index, why)
  pub truncated : (index : ℕ) → answer ≡ outcome.TraceRefused index trace.Truncated → IsTrue tells.input → new.input ≡ []
  pub undecided : answer ≡ outcome.ReadFault input.Line → IsDecided pulled → ⊥
  pub cause : answer ≡ outcome.ReadFault input.Line → Rose old.input_faults new.input_faults
  pub no_fault : answer ≢ outcome.ReadFault input.Line → new.input_faults ≡ old.input_faults

-- A front part of the recording of these bytes' good records was written.
pub record IsStreamedPart (t : TableRows) (tells : Tells) (old new : State) (written_before written_now : Option (List ℕ)) : Type 0 where
  pub pulled : List ℕ
  pub pulls : PullsUntilDecided tells old new [] pulled
  pub part : (k : ℕ) × (written_now ≡ followed_by written_before (take k (stream_of t (good_prefix pulled))))
  pub part_of_whole : IsTrue tells.input → WritesStreamPart t old written_before written_now
  pub no_fault : new.input_faults ≡ old.input_faults
