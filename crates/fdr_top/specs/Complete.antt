-- When a command does all that it is asked, or memory ends.
use Rattle.std.specs.Prelude.{◌≡◌, ℕ, ◌+◌, ◌≤◌, true, List, length, Option, Some, None, IsTrue}
use Rattle.fdr_io.specs.Faults.{Rose}
use Rattle.fdr_biphase.specs.Cells.{bits_of_bytes}
use Rattle.fdr_biphase.specs.Phases.{missing_place}
use Rattle.fdr_bus.specs.declared.BusRecord.{BusRecord}
use Rattle.fdr_bus.specs.Records.{good_prefix, has_end}
use Rattle.fdr_deck.specs.State.{State, Tells}
use Rattle.fdr_slot.specs.Limits.{sequence_end}
use Rattle.fdr_recover.specs.ImageHeader.{image_fault_of, header_in, IsFor}
use Rattle.fdr_words.specs.Forms.{Form, check_table, stream_line, list_bits, encode_bytes, decode_levels}
use Rattle.fdr_words.specs.Forms.{format_image, record_line, recover_image, list_image, upgrade_image, salvage_image, exceed_image, drill_image}
use Rattle.fdr_words.specs.Forms.{table_path}
use Rattle.fdr_top.specs.Answers.{HasImage, PullsInput, ReadsTable, WritesText}
use Rattle.fdr_top.specs.Runs.{CommandRun, WorkRun}
use Rattle.fdr_pieces.specs.Limits.{most_input_bytes}
use Rattle.fdr_exceed.specs.RuleFaults.{rules_fault}
use Rattle.fdr_top.specs.Salvage.{CanBeSalvaged}
use Rattle.fdr_gen.specs.Trace.{generated_trace}
use Rattle.fdr_table.specs.Rows.{TableRows}
use Rattle.fdr_recorder.specs.NewBlocks.{new_blocks, next_in}
use Rattle.fdr_load.specs.Tables.{IsAccepted, table_in}

-- The source tells its bytes, and they are a table that is accepted.
abbrev pub TellsAccepted : Option (List ℕ) → Type 0
TellsAccepted rest = (bytes : List ℕ) × (rest ≡ Some bytes) × IsAccepted bytes

-- The disk holds an image of version 2 for the table's frames, and there are numbers below 2^48 for all blocks of these records.
pub record HasRoom (t : TableRows) (d : State) (records : List BusRecord) : Type 0 where
  pub image : IsFor t.frame.words d.held
  pub version : (header_in d.held).version ≡ 2
  pub numbers : next_in d.held + length (new_blocks t d.held records) ≤ sequence_end

-- What the work of a form's command by this table needs to do all, a line a command, is there.
abbrev pub IsWholeWork : Form → TableRows → Tells → State → Type 0
IsWholeWork (check_table path) t tells d = Unit {0}
IsWholeWork (stream_line path) t tells d = IsTrue tells.input × (has_end (good_prefix d.input) ≡ true)
IsWholeWork (list_bits path) t tells d = IsTrue tells.input × (length d.input ≤ most_input_bytes)
IsWholeWork encode_bytes t tells d = IsTrue tells.input × (length d.input ≤ most_input_bytes)
IsWholeWork decode_levels t tells d =
    IsTrue tells.input × (length d.input ≤ most_input_bytes) × (missing_place (bits_of_bytes d.input) ≡ None)
IsWholeWork (format_image path image slots payload) t tells d = IsTrue tells.bytes × (d.extent ≡ 0)
IsWholeWork (record_line path image) t tells d =
    IsTrue tells.input × (has_end (good_prefix d.input) ≡ true) × IsTrue tells.bytes × HasRoom t d (good_prefix d.input)
IsWholeWork (recover_image image) t tells d = IsTrue tells.bytes × (image_fault_of d.held ≡ None)
IsWholeWork (list_image path image) t tells d = IsTrue tells.bytes × IsFor t.frame.words d.held
IsWholeWork (upgrade_image image) t tells d = IsTrue tells.bytes × (image_fault_of d.held ≡ None)
IsWholeWork (salvage_image path image ring) t tells d = IsTrue tells.bytes × CanBeSalvaged t ring d.held
IsWholeWork (exceed_image path image) t tells d =
    IsTrue tells.input × (rules_fault t d.input ≡ None) × IsTrue tells.bytes × IsFor t.frame.words d.held
IsWholeWork (drill_image path image seed frames) t tells d = IsTrue tells.bytes × HasRoom t d (generated_trace t seed frames)

-- The source tells an accepted table and the statement holds by it, or by any table where the command reads none.
abbrev pub ByAccepted : Option (List ℕ) → Option (List ℕ) → (TableRows → Type 0) → Type 0
ByAccepted (Some path) rest P = (accepted : TellsAccepted rest) × P (table_in accepted.0)
ByAccepted None rest P = (t : TableRows) → P t

-- All that the command of a form needs is there: an accepted table where it reads one, and what its work needs by that.
abbrev pub IsWholeInput : Form → Option (List ℕ) → Tells → State → Type 0
IsWholeInput form rest tells d = ByAccepted (table_path form) rest (λ (t : TableRows). IsWholeWork form t tells d)

-- No fault was counted.
abbrev pub CountsNoFault : ℕ → ℕ → Type 0
CountsNoFault before now = Rose before now → ⊥

-- Nothing that the work of a form's command uses counted a fault: input, disk and sink.
pub record IsFaultlessWork (form : Form) (r : WorkRun) : Type 0 where
  pub input : PullsInput form → CountsNoFault r.old.input_faults r.new.input_faults
  pub disk : HasImage form → CountsNoFault r.old.disk_faults r.new.disk_faults
  pub sink : WritesText form → CountsNoFault r.sink_before r.sink_now

-- Nothing that the command of a form uses counted a fault: its table, input, disk and sink.
pub record IsFaultless (form : Form) (r : CommandRun) : Type 0 where
  pub table : ReadsTable form → CountsNoFault r.table_before r.table_now
  pub work : IsFaultlessWork form r.work
