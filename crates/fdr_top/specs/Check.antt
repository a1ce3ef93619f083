-- What `check` promises: the report of the table.
use Rattle.std.specs.Prelude.{◌≡◌, ℕ, List, Option, take}
use Rattle.fdr_io.specs.Told.{followed_by}
use Rattle.fdr_table.specs.Rows.{TableRows}
use Rattle.fdr_check.specs.Report.{report_of}
use Rattle.fdr_top.specs.declared.outcome.Outcome.{Outcome}
use Rattle.fdr_top.specs.declared.outcome.Outcome.TheVariants as outcome

-- What `check` promises: all of a table's report was written, or a front part of it and the answer says why.
pub record Reports (t : TableRows) (written_before written_now : Option (List ℕ)) (answer : Outcome) : Type 0 where
  pub text : answer ≡ outcome.Done → written_now ≡ followed_by written_before (report_of t)
  pub part : (k : ℕ) × (written_now ≡ followed_by written_before (take k (report_of t)))
