-- What each command promises, by its form.
use Rattle.std.specs.Prelude.{◌≡◌, ◌≢◌, ◌⊎◌, ◌+◌, ℕ, List, Option, Some, None}
use Rattle.fdr_io.specs.Faults.{Rose}
use Rattle.fdr_io.specs.declared.Input.TheVariants as input
use Rattle.fdr_pieces.specs.Pieces.{LeavesStops}
use Rattle.fdr_table.specs.Bounds.{most_table_bytes}
use Rattle.fdr_table.specs.Rows.{TableRows}
use Rattle.fdr_words.specs.Forms.{Form, check_table, stream_line, list_bits, encode_bytes, decode_levels}
use Rattle.fdr_words.specs.Forms.{format_image, record_line, recover_image, list_image, upgrade_image, salvage_image, exceed_image, drill_image}
use Rattle.fdr_words.specs.Forms.{table_path}
use Rattle.fdr_top.specs.Stages.{IsPastTable, WritesNothing}
use Rattle.fdr_top.specs.Answers.{HasImage, IsOwn, MayAnswer, ReadsTable}
use Rattle.fdr_top.specs.Check.{Reports}
use Rattle.fdr_top.specs.Complete.{IsFaultless, IsFaultlessWork, IsWholeInput, IsWholeWork}
use Rattle.fdr_top.specs.Decode.{DecodesLevels}
use Rattle.fdr_top.specs.Drill.{DrillsImage}
use Rattle.fdr_top.specs.Encode.{EncodesInput}
use Rattle.fdr_top.specs.Exceed.{ExceedsImage}
use Rattle.fdr_top.specs.Format.{Makes, new_header}
use Rattle.fdr_top.specs.Leaves.{HasCause, LeavesAll, LeavesUnused, PassesOverNoFault}
use Rattle.fdr_load.specs.Limits.{TakesAtMost}
use Rattle.fdr_io.specs.Limits.{piece_bytes}
use Rattle.fdr_top.specs.List.{ListsImage}
use Rattle.fdr_top.specs.Listbits.{ListsInput}
use Rattle.fdr_top.specs.Record.{RecordsTrace}
use Rattle.fdr_top.specs.ImageRecovered.{RecoversImage}
use Rattle.fdr_top.specs.Runs.{CommandRun, WorkRun}
use Rattle.fdr_top.specs.Salvage.{SalvagesImage}
use Rattle.fdr_top.specs.Stream.{StreamsTrace}
use Rattle.fdr_top.specs.Tables.{ByTable, ReadsItsTable}
use Rattle.fdr_top.specs.Upgrade.{UpgradesImage}
use Rattle.fdr_top.specs.declared.outcome.Outcome.{Outcome}
use Rattle.fdr_top.specs.declared.outcome.Outcome.TheVariants as outcome

-- What each command promises, a line a command: the work of a form's command by this table does what the record of the command
-- says.
abbrev pub DoesWork : Form → TableRows → WorkRun → Type 0
DoesWork (check_table path) t r = IsPastTable r.answer → Reports t r.written_before r.written_now r.answer
DoesWork (stream_line path) t r = IsPastTable r.answer
    → StreamsTrace t r.tells r.old r.new r.written_before r.written_now r.answer
DoesWork (list_bits path) t r = IsPastTable r.answer → ListsInput t r.tells r.old r.new r.written_before r.written_now r.answer
DoesWork encode_bytes t r = IsPastTable r.answer → EncodesInput r.tells r.old r.new r.written_before r.written_now r.answer
DoesWork decode_levels t r = IsPastTable r.answer → DecodesLevels r.tells r.old r.new r.written_before r.written_now r.answer
DoesWork (format_image path image slots payload) t r = Makes (new_header slots payload t.frame.words) r.tells r.old r.new r.answer
DoesWork (record_line path image) t r = RecordsTrace t r.tells r.old r.new r.answer
DoesWork (recover_image image) t r = RecoversImage image r
DoesWork (list_image path image) t r = ListsImage t r.tells r.old r.new r.written_before r.written_now r.sink_before r.sink_now r.answer
DoesWork (upgrade_image image) t r = UpgradesImage r.tells r.old r.new r.answer
DoesWork (salvage_image path image ring) t r = SalvagesImage t ring r.tells r.old r.new r.written_before r.written_now
    r.sink_before r.sink_now r.answer
DoesWork (exceed_image path image) t r = ExceedsImage t r.tells r.old r.new r.written_before r.written_now r.sink_before r.sink_now
    r.answer
DoesWork (drill_image path image seed frames) t r =
    DrillsImage t seed frames r.tells r.old r.new r.written_before r.written_now r.answer

-- The statement holds by the table that a command read, or by any where it reads none.
abbrev pub ByItsTable : Option (List ℕ) → Option (List ℕ) → Option (List ℕ) → Outcome → (TableRows → Type 0) → Type 0
ByItsTable (Some path) old new answer P = ByTable old new answer P
ByItsTable None old new answer P = (t : TableRows) → P t

-- The command of this form does what its record says, by the table that it read, or by any where it reads none.
abbrev pub CarriesOut : Form → CommandRun → Type 0
CarriesOut form r = ByItsTable (table_path form) r.rest_before r.rest_now r.work.answer
    (λ (t : TableRows). DoesWork form t r.work)

-- What is promised of the work of a form's command by a sound table: which answers it gives, what they leave, what caused them,
-- that no fault is passed over, what it does, and when all is done.
pub record Works (form : Form) (t : TableRows) (r : WorkRun) : Type 0 where
  pub answer : (r.answer ≡ outcome.NoMemory) ⊎ IsOwn form r.answer
  pub refusal : WritesNothing r.answer → LeavesAll r
  -- At each moment of a command that is refused, or that memory ended, a stop leaves of its image what it could leave before.
  pub stops : HasImage form → WritesNothing r.answer → LeavesStops r.tells r.old r.new
  pub unused : LeavesUnused form r
  pub causes : HasCause r
  pub no_fault_passed_over : PassesOverNoFault form r
  pub does : DoesWork form t r
  -- Where what it needs is whole and nothing fails, all is done, or memory ended.
  pub complete : IsWholeWork form t r.tells r.old → IsFaultlessWork form r → (r.answer ≡ outcome.Done)
      ⊎ (r.answer ≡ outcome.NoMemory)

-- What is promised of the command of a form: which answers it gives, how the answer goes with the table that it reads, what a
-- refusal leaves, what caused the answer, that no fault is passed over, what the command does, and when all is done.
pub record RunsCommand (form : Form) (r : CommandRun) : Type 0 where
  -- It gives only answers that are its own.
  pub answers : MayAnswer form r.work.answer
  -- The table, where it reads one.
  pub table : ReadsTable form → ReadsItsTable r.rest_before r.rest_now r.work.answer
  pub bounded : TakesAtMost (most_table_bytes + piece_bytes) r.rest_before r.rest_now
  -- What a refusal leaves, what the command doesn't use, and what was counted where a fault is answered, and where it isn't.
  pub refusal : WritesNothing r.work.answer → LeavesAll r.work
  pub stops : HasImage form → WritesNothing r.work.answer → LeavesStops r.work.tells r.work.old r.work.new
  pub unused : LeavesUnused form r.work
  pub table_cause : r.work.answer ≡ outcome.ReadFault input.Table → Rose r.table_before r.table_now
  pub no_table_fault : r.work.answer ≢ outcome.ReadFault input.Table → r.table_now ≡ r.table_before
  pub causes : HasCause r.work
  pub no_fault_passed_over : PassesOverNoFault form r.work
  -- What it does.
  pub carries_out : CarriesOut form r
  -- A table that is accepted, an input that is whole and no fault: all is done, or memory ended.
  pub complete : IsWholeInput form r.rest_before r.work.tells r.work.old → IsFaultless form r
      → (r.work.answer ≡ outcome.Done) ⊎ (r.work.answer ≡ outcome.NoMemory)
