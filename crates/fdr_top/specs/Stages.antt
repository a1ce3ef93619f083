-- At which step of a command each answer comes.
use Rattle.fdr_io.specs.declared.Input.TheVariants as input
use Rattle.fdr_top.specs.declared.outcome.Outcome.{Outcome}
use Rattle.fdr_top.specs.declared.outcome.Outcome.TheVariants as outcome

-- how the work of a command ended: all of it was done; its input ended otherwise, is too long, or isn't made of cells;
-- its output or its recording was cut short
pub data Ending : Type 0 where
  all_done : Ending
  input_ended : Ending
  input_too_long : Ending
  input_without_cells : Ending
  output_cut : Ending
  recording_cut : Ending

-- the steps of a command at which an answer may come: its words, its table, the image at its start, and its work; or memory ended
pub data Stage : Type 0 where
  at_words : Stage
  at_table : Stage
  at_image : Stage
  at_rules : Stage
  at_work : Ending → Stage
  out_of_memory : Stage

-- the step of a command at which an answer comes, a line an answer
abbrev pub stage_of : Outcome → Stage
stage_of outcome.Done = at_work all_done
stage_of outcome.Usage = at_words
stage_of (outcome.TableRefused row f) = at_table
stage_of (outcome.TraceRefused index why) = at_work input_ended
stage_of (outcome.ImageRefused why) = at_image
stage_of outcome.NotEmpty = at_image
stage_of (outcome.WordsDiffer image table) = at_image
stage_of outcome.SeqEnd = at_work recording_cut
stage_of (outcome.ReadFault input.Table) = at_table
stage_of (outcome.ReadFault input.Line) = at_work input_ended
stage_of outcome.WriteFault = at_work output_cut
stage_of outcome.DiskFault = at_work recording_cut
stage_of outcome.TooLong = at_work input_too_long
stage_of outcome.NoMemory = out_of_memory
stage_of outcome.OldVersion = at_image
stage_of (outcome.CellFault at) = at_work input_without_cells
stage_of (outcome.RuleRefused row f) = at_rules

-- The step comes once the words and the table are right.
abbrev pub IsStagePastTable : Stage → Type 0
IsStagePastTable at_words = ⊥
IsStagePastTable at_table = ⊥
IsStagePastTable at_image = Unit {0}
IsStagePastTable at_rules = Unit {0}
IsStagePastTable (at_work ending) = Unit {0}
IsStagePastTable out_of_memory = ⊥

-- The step is the reading of the table, or memory ended.
abbrev pub IsStageOfTable : Stage → Type 0
IsStageOfTable at_words = ⊥
IsStageOfTable at_table = Unit {0}
IsStageOfTable at_image = ⊥
IsStageOfTable at_rules = ⊥
IsStageOfTable (at_work ending) = ⊥
IsStageOfTable out_of_memory = Unit {0}

-- At this step the deck isn't asked for anything yet.
abbrev pub IsStageBeforeDeck : Stage → Type 0
IsStageBeforeDeck at_words = Unit {0}
IsStageBeforeDeck at_table = Unit {0}
IsStageBeforeDeck at_image = ⊥
IsStageBeforeDeck at_rules = ⊥
IsStageBeforeDeck (at_work ending) = ⊥
IsStageBeforeDeck out_of_memory = ⊥

-- At this step the work isn't begun.
abbrev pub IsStageBeforeWork : Stage → Type 0
IsStageBeforeWork at_words = Unit {0}
IsStageBeforeWork at_table = Unit {0}
IsStageBeforeWork at_image = Unit {0}
IsStageBeforeWork at_rules = ⊥
IsStageBeforeWork (at_work ending) = ⊥
IsStageBeforeWork out_of_memory = ⊥

-- At this step the work isn't begun, or memory ended.
abbrev pub IsStageWithoutWork : Stage → Type 0
IsStageWithoutWork at_words = Unit {0}
IsStageWithoutWork at_table = Unit {0}
IsStageWithoutWork at_image = Unit {0}
IsStageWithoutWork at_rules = Unit {0}
IsStageWithoutWork (at_work ending) = ⊥
IsStageWithoutWork out_of_memory = Unit {0}

-- The work was begun, and ended in a way of which this holds.
abbrev pub IsWorkEnded : (Ending → Type 0) → Stage → Type 0
IsWorkEnded P at_words = ⊥
IsWorkEnded P at_table = ⊥
IsWorkEnded P at_image = ⊥
IsWorkEnded P at_rules = ⊥
IsWorkEnded P (at_work ending) = P ending
IsWorkEnded P out_of_memory = ⊥

-- The work ended in a way in which the input was read to where it ends, or to where no more of it can be read.
abbrev pub HasReadInput : Ending → Type 0
HasReadInput all_done = Unit {0}
HasReadInput input_ended = Unit {0}
HasReadInput input_too_long = ⊥
HasReadInput input_without_cells = ⊥
HasReadInput output_cut = ⊥
HasReadInput recording_cut = ⊥

-- The work ended in a way in which all is recorded that there was to record.
abbrev pub HasRecordedAll : Ending → Type 0
HasRecordedAll all_done = Unit {0}
HasRecordedAll input_ended = Unit {0}
HasRecordedAll input_too_long = ⊥
HasRecordedAll input_without_cells = ⊥
HasRecordedAll output_cut = Unit {0}
HasRecordedAll recording_cut = ⊥

-- The answer is one that reading the table gives.
abbrev pub IsOfTable : Outcome → Type 0
IsOfTable answer = IsStageOfTable (stage_of answer)

-- The answer is one that comes once the words and the table are right, want of memory aside.
abbrev pub IsPastTable : Outcome → Type 0
IsPastTable answer = IsStagePastTable (stage_of answer)

-- The answer is one that comes before the input is pulled, want of memory aside.
abbrev pub IsBeforeInput : Outcome → Type 0
IsBeforeInput answer = IsStageBeforeWork (stage_of answer)

-- The answer is one before which the deck isn't asked for anything, want of memory aside.
abbrev pub EndsBeforeDeck : Outcome → Type 0
EndsBeforeDeck answer = IsStageBeforeDeck (stage_of answer)

-- The answer is one after which no device is changed and nothing is written.
abbrev pub WritesNothing : Outcome → Type 0
WritesNothing answer = IsStageWithoutWork (stage_of answer)

-- The answer is one that tells how the reading of a trace ended: Done, TraceRefused or ReadFault(Line).
abbrev pub EndsReading : Outcome → Type 0
EndsReading answer = IsWorkEnded HasReadInput (stage_of answer)

-- The answer is one after which all of a trace is recorded that there was to record: Done, TraceRefused, ReadFault(Line), or
-- WriteFault of a drill's line.
abbrev pub EndsRecording : Outcome → Type 0
EndsRecording answer = IsWorkEnded HasRecordedAll (stage_of answer)
