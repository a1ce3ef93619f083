-- What a command leaves as it was, and what causes the faults that it answers.
use Rattle.std.specs.Prelude.{◌≡◌, ◌≢◌, ◌+◌, ◌≤◌}
use Rattle.fdr_io.specs.Faults.{Rose}
use Rattle.fdr_io.specs.declared.Input.TheVariants as input
use Rattle.fdr_deck.specs.Calls.{LeavesDisk}
use Rattle.fdr_deck.specs.Disk.{KeepsDisk, LearnsExtent}
use Rattle.fdr_words.specs.Forms.{Form}
use Rattle.fdr_top.specs.Stages.{IsBeforeInput, IsWorkEnded, stage_of}
use Rattle.fdr_top.specs.Stages.{Ending, all_done, input_ended, input_too_long, input_without_cells, output_cut, recording_cut}
use Rattle.fdr_exceed.specs.Rules.{most_rule_bytes}
use Rattle.fdr_top.specs.Answers.{HasImage, KeepsInputAndFaults, ListsBlocks, PullsBits, PullsInput, PullsLast, PullsRules, RecordsImage, WritesText}
use Rattle.fdr_io.specs.Limits.{piece_bytes}
use Rattle.fdr_pieces.specs.Limits.{most_input_bytes}
use Rattle.fdr_top.specs.Runs.{WorkRun}
use Rattle.fdr_top.specs.declared.outcome.Outcome.{Outcome}
use Rattle.fdr_top.specs.declared.outcome.Outcome.TheVariants as outcome

-- Nothing was written and no device changed. Before the input is pulled, it is as it was too.
pub record LeavesAll (r : WorkRun) : Type 0 where
  pub written : r.written_now ≡ r.written_before
  pub faults : r.sink_now ≡ r.sink_before
  pub disk : KeepsDisk r.old r.new
  pub extent : LearnsExtent r.tells r.old r.new
  pub announced : r.new.announced ≡ r.old.announced
  pub input : IsBeforeInput r.answer → KeepsInputAndFaults r.old r.new

-- What the command of this form doesn't use of the deck and of the sink is as it was, and no more is pulled than its most.
pub record LeavesUnused (form : Form) (r : WorkRun) : Type 0 where
  pub input : (PullsInput form → ⊥) → KeepsInputAndFaults r.old r.new
  pub disk : (HasImage form → ⊥) → LeavesDisk r.old r.new
  pub announced : (RecordsImage form → ⊥) → r.new.announced ≡ r.old.announced
  pub text : (WritesText form → ⊥) → (r.written_now ≡ r.written_before) × (r.sink_now ≡ r.sink_before)
  pub memory : PullsLast form → r.answer ≡ outcome.NoMemory → KeepsInputAndFaults r.old r.new
  pub bits : PullsBits form → r.new.taken ≤ r.old.taken + most_input_bytes + piece_bytes
  pub rules : PullsRules form → r.new.taken ≤ r.old.taken + most_rule_bytes + piece_bytes

-- A fault of the input, the disk or the sink that is answered was counted by what failed.
pub record HasCause (r : WorkRun) : Type 0 where
  pub input : r.answer ≡ outcome.ReadFault input.Line → Rose r.old.input_faults r.new.input_faults
  pub write : r.answer ≡ outcome.WriteFault → Rose r.sink_before r.sink_now
  pub disk : r.answer ≡ outcome.DiskFault → Rose r.old.disk_faults r.new.disk_faults

-- The work ended in a way before which the input may have failed: what was read of it couldn't all be written or recorded.
abbrev pub IsCutWork : Ending → Type 0
IsCutWork all_done = ⊥
IsCutWork input_ended = ⊥
IsCutWork input_too_long = ⊥
IsCutWork input_without_cells = ⊥
IsCutWork output_cut = Unit {0}
IsCutWork recording_cut = Unit {0}

-- The answer says that what was read of the input couldn't all be written or recorded.
abbrev pub IsCutShort : Outcome → Type 0
IsCutShort answer = IsWorkEnded IsCutWork (stage_of answer)

-- The answer may come in place of a fault of the input that was met before. Of a command that pulls rules none does: they are all
-- pulled before anything is written.
abbrev pub CoversInputFault : Form → Outcome → Type 0
CoversInputFault form answer = (PullsRules form → ⊥) × IsCutShort answer

-- The answer may come in place of a fault of the sink: where the disk fails, what a command listed of the blocks before is still
-- written.
abbrev pub CoversSinkFault : Form → Outcome → Type 0
CoversSinkFault form answer = ListsBlocks form × (answer ≡ outcome.DiskFault)

-- No fault is passed over: unless the answer is a fault of it, or covers one, the count of each object is as it was.
pub record PassesOverNoFault (form : Form) (r : WorkRun) : Type 0 where
  pub input : r.answer ≢ outcome.ReadFault input.Line → (CoversInputFault form r.answer → ⊥)
      → r.new.input_faults ≡ r.old.input_faults
  pub write : r.answer ≢ outcome.WriteFault → (CoversSinkFault form r.answer → ⊥) → r.sink_now ≡ r.sink_before
  pub disk : r.answer ≢ outcome.DiskFault → r.new.disk_faults ≡ r.old.disk_faults
