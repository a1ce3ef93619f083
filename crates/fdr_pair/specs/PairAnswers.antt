-- The answers of recording on two disks to how its table and its trace ended.
use Rattle.std.specs.Prelude.{Result, Ok, Err}
use Rattle.fdr_io.specs.declared.Input.TheVariants as input
use Rattle.fdr_load.specs.declared.load.LoadFault.{LoadFault}
use Rattle.fdr_load.specs.declared.load.LoadFault.TheVariants as load
use Rattle.fdr_trace.specs.declared.TraceStop.TheVariants as stop
use Rattle.fdr_recorder.specs.declared.source.SourceEnd.{SourceEnd}
use Rattle.fdr_recorder.specs.declared.source.SourceEnd.TheVariants as source
use Rattle.fdr_pair.specs.declared.fault.PairFault.{PairFault}
use Rattle.fdr_pair.specs.declared.fault.PairFault.TheVariants as fault
use Rattle.fdr_pair.specs.declared.outcome.PairOutcome.{PairOutcome}
use Rattle.fdr_pair.specs.declared.outcome.PairOutcome.TheVariants as outcome

-- the answer where a source gives no table, for this reason
abbrev pub table_refusal_of : LoadFault → PairOutcome
table_refusal_of (load.Refused row f) = outcome.TableRefused row f
table_refusal_of load.Failed = outcome.ReadFault input.Table
table_refusal_of load.NoMemory = outcome.NoMemory

-- the answer to how the recording of a trace on two disks ended
abbrev pub recording_answer_of : Result SourceEnd PairFault → PairOutcome
recording_answer_of (Ok source.Ended) = outcome.Done
recording_answer_of (Ok (source.Stopped (stop.Refused index why))) = outcome.TraceRefused index why
recording_answer_of (Ok (source.Stopped stop.Failed)) = outcome.ReadFault input.Line
recording_answer_of (Err fault.DiskFault) = outcome.DiskFault
recording_answer_of (Err fault.SeqEnd) = outcome.SeqEnd
