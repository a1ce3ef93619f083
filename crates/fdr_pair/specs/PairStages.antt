-- At which step of a recording on two disks each answer comes.
use Rattle.fdr_io.specs.declared.Input.TheVariants as input
use Rattle.fdr_pair.specs.declared.outcome.PairOutcome.{PairOutcome}
use Rattle.fdr_pair.specs.declared.outcome.PairOutcome.TheVariants as outcome

-- the steps of a recording on two disks at which an answer may come: its words, its table, the images before anything is changed,
-- the lead that fails before the other side is brought up to it, the end of the trace once all of it is recorded, the end of the
-- numbers, and the failure of both disks; or memory ended
pub data PairStage : Type 0 where
  at_pair_words : PairStage
  at_pair_table : PairStage
  at_images : PairStage
  at_lead : PairStage
  at_trace_end : PairStage
  at_last_number : PairStage
  at_both_failed : PairStage
  at_memory_end : PairStage

-- the step of a recording on two disks at which an answer comes, a line an answer
abbrev pub pair_stage_of : PairOutcome → PairStage
pair_stage_of outcome.Done = at_trace_end
pair_stage_of outcome.Usage = at_pair_words
pair_stage_of (outcome.TableRefused row f) = at_pair_table
pair_stage_of (outcome.TraceRefused index f) = at_trace_end
pair_stage_of (outcome.ImageRefused s f) = at_images
pair_stage_of (outcome.WordsDiffer image table) = at_images
pair_stage_of outcome.SeqEnd = at_last_number
pair_stage_of (outcome.ReadFault input.Table) = at_pair_table
pair_stage_of (outcome.ReadFault input.Line) = at_trace_end
pair_stage_of outcome.DiskFault = at_both_failed
pair_stage_of outcome.NoMemory = at_memory_end
pair_stage_of outcome.OldVersion = at_images
pair_stage_of outcome.HeadersDiffer = at_images
pair_stage_of (outcome.BlocksDiffer seq) = at_images
pair_stage_of (outcome.LeadFault s) = at_lead
pair_stage_of (outcome.FarBehind s) = at_images

-- At this step the disks aren't asked for anything yet.
abbrev pub IsStageBeforeDisks : PairStage → Type 0
IsStageBeforeDisks at_pair_words = Unit {0}
IsStageBeforeDisks at_pair_table = Unit {0}
IsStageBeforeDisks at_images = ⊥
IsStageBeforeDisks at_lead = ⊥
IsStageBeforeDisks at_trace_end = ⊥
IsStageBeforeDisks at_last_number = ⊥
IsStageBeforeDisks at_both_failed = ⊥
IsStageBeforeDisks at_memory_end = ⊥

-- The step comes once the words and the table are right, want of memory aside.
abbrev pub IsStageOfDisks : PairStage → Type 0
IsStageOfDisks at_pair_words = ⊥
IsStageOfDisks at_pair_table = ⊥
IsStageOfDisks at_images = Unit {0}
IsStageOfDisks at_lead = Unit {0}
IsStageOfDisks at_trace_end = Unit {0}
IsStageOfDisks at_last_number = Unit {0}
IsStageOfDisks at_both_failed = Unit {0}
IsStageOfDisks at_memory_end = ⊥

-- At this step nothing is written on either disk.
abbrev pub IsStageWithoutWrites : PairStage → Type 0
IsStageWithoutWrites at_pair_words = Unit {0}
IsStageWithoutWrites at_pair_table = Unit {0}
IsStageWithoutWrites at_images = Unit {0}
IsStageWithoutWrites at_lead = ⊥
IsStageWithoutWrites at_trace_end = ⊥
IsStageWithoutWrites at_last_number = ⊥
IsStageWithoutWrites at_both_failed = ⊥
IsStageWithoutWrites at_memory_end = Unit {0}

-- At this step nothing is pulled and nothing announced.
abbrev pub IsStageBeforeLine : PairStage → Type 0
IsStageBeforeLine at_pair_words = Unit {0}
IsStageBeforeLine at_pair_table = Unit {0}
IsStageBeforeLine at_images = Unit {0}
IsStageBeforeLine at_lead = Unit {0}
IsStageBeforeLine at_trace_end = ⊥
IsStageBeforeLine at_last_number = ⊥
IsStageBeforeLine at_both_failed = ⊥
IsStageBeforeLine at_memory_end = Unit {0}

-- The step is the end of the trace, all of which is recorded.
abbrev pub IsStageAtTraceEnd : PairStage → Type 0
IsStageAtTraceEnd at_pair_words = ⊥
IsStageAtTraceEnd at_pair_table = ⊥
IsStageAtTraceEnd at_images = ⊥
IsStageAtTraceEnd at_lead = ⊥
IsStageAtTraceEnd at_trace_end = Unit {0}
IsStageAtTraceEnd at_last_number = ⊥
IsStageAtTraceEnd at_both_failed = ⊥
IsStageAtTraceEnd at_memory_end = ⊥

-- The answer is one before which the disks aren't asked for anything, want of memory aside.
abbrev pub EndsBeforeDisks : PairOutcome → Type 0
EndsBeforeDisks answer = IsStageBeforeDisks (pair_stage_of answer)

-- The answer is one that comes once the words and the table are right, want of memory aside.
abbrev pub IsPastPairTable : PairOutcome → Type 0
IsPastPairTable answer = IsStageOfDisks (pair_stage_of answer)

-- The answer is one at which nothing was written on either disk.
abbrev pub WritesOnNeither : PairOutcome → Type 0
WritesOnNeither answer = IsStageWithoutWrites (pair_stage_of answer)

-- The answer is one at which nothing was pulled or announced.
abbrev pub LeavesPairLine : PairOutcome → Type 0
LeavesPairLine answer = IsStageBeforeLine (pair_stage_of answer)

-- The answer is one that tells how the reading of the trace ended, all of which is recorded: Done, TraceRefused or
-- ReadFault(Line).
abbrev pub EndsPairTrace : PairOutcome → Type 0
EndsPairTrace answer = IsStageAtTraceEnd (pair_stage_of answer)
