-- The answers to how a trace and a recording ended.
use Rattle.std.specs.Prelude.{Ok, Err}
use Rattle.fdr_io.specs.declared.Input.TheVariants as input
use Rattle.fdr_trace.specs.declared.TraceStop.{TraceStop}
use Rattle.fdr_trace.specs.declared.TraceStop.TheVariants as stop
use Rattle.fdr_recorder.specs.Ends.{RecordingEnd}
use Rattle.fdr_recorder.specs.declared.error.SessionFault.{SessionFault}
use Rattle.fdr_recorder.specs.declared.error.SessionFault.TheVariants as session
use Rattle.fdr_recorder.specs.declared.source.SourceEnd.{SourceEnd}
use Rattle.fdr_recorder.specs.declared.source.SourceEnd.TheVariants as source
use Rattle.fdr_top.specs.declared.outcome.Outcome.{Outcome}
use Rattle.fdr_top.specs.declared.outcome.Outcome.TheVariants as outcome

-- the answer where no further record of a trace comes, for this reason, and all was written or recorded
abbrev pub answer_of_stop : TraceStop → Outcome
answer_of_stop (stop.Refused index why) = outcome.TraceRefused index why
answer_of_stop stop.Failed = outcome.ReadFault input.Line

-- the answer where all that a source of records gave is recorded
abbrev pub source_answer : SourceEnd → Outcome
source_answer source.Ended = outcome.Done
source_answer (source.Stopped why) = answer_of_stop why

-- the answer where a session is refused or cut short by this fault
abbrev pub session_refusal : SessionFault → Outcome
session_refusal (session.Image why) = outcome.ImageRefused why
session_refusal (session.WordsDiffer image table) = outcome.WordsDiffer image table
session_refusal session.OldVersion = outcome.OldVersion
session_refusal session.DiskFault = outcome.DiskFault
session_refusal session.SeqEnd = outcome.SeqEnd
session_refusal session.NoMemory = outcome.NoMemory

-- the answer to how a recording ended
abbrev pub recording_answer : RecordingEnd → Outcome
recording_answer (Ok end) = source_answer end
recording_answer (Err fault) = session_refusal fault
