-- Names of parts of the equations.
use Rattle.std.proofs.Common.{◌≡◌, ◌≢◌, false, IsTrue, ℕ, List, [], ◌∷◌, Option}
use Rattle.fdr_table.specs.Rows.{TableRows}
use Rattle.fdr_words.specs.Forms.{Form, record_line}
use Rattle.fdr_load.specs.Supplies.{Supplied}
use Rattle.fdr_top.specs.Commands.{RunsCommand}
use Rattle.fdr_top.specs.Runs.{CommandRun}
use Rattle.fdr_top.specs.declared.outcome.Outcome.TheVariants as outcome
use Rattle.fdr_top.specs.Meaning.{Given, meaning, with_all, Effect, at_start, bad_header, bad_rules, not_empty, old_version, or_answers, other_words, unless}
use Rattle.fdr_top.specs.Meaning.{unreadable}
use Rattle.fdr_top.specs.Doing.{Refines, WasGiven}

abbrev pub by_header : List ℕ → Effect → Effect
by_header image work = unless (bad_header image ∷ []) work

abbrev pub by_image : TableRows → List ℕ → Effect → Effect
by_image t image work = unless (bad_header image ∷ other_words t image ∷ []) work

abbrev pub in_image : TableRows → List ℕ → Effect → Effect
in_image t image work = unless (bad_header image ∷ other_words t image ∷ old_version image ∷ []) work

abbrev pub by_ring : Option (ℕ × ℕ) → TableRows → List ℕ → Effect → Effect
by_ring ring t image work = unless (unreadable ring t image) work

abbrev pub on_empty : List ℕ → Effect → Effect
on_empty image work = or_answers at_start (not_empty image) work

abbrev pub by_rules : TableRows → Supplied → Effect → Effect
by_rules t came work = or_answers at_start (bad_rules t came) work

-- what is given of a trace that is recorded is what was pulled, told or not
abbrev pub IsPulled : Form → List ℕ → CommandRun → Type 0
IsPulled (record_line path image) line r = (runs : RunsCommand (record_line path image) r) × (line ≡ runs.carries_out.3.pulled)
IsPulled form line r = Unit {0}

-- what is meant but for stops
pub record Core (form : Form) (r : CommandRun) : Type 0 where
  pub g : Given
  pub given : WasGiven form g r
  pub pulled : IsPulled form g.input.bytes r
  pub does : Refines form (meaning form g) r.work
  pub all : IsTrue r.work.tells.input → g.input.failed ≡ false → r.work.answer ≢ outcome.DiskFault
      → Refines form (meaning form (with_all r.work.old.input g)) r.work
