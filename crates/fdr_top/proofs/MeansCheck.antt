-- What `check` means.
use Rattle.std.proofs.Common.{◌≡◌, inl, inr, ℕ, List, [], refl}
use Rattle.fdr_check.specs.Report.{report_of}
use Rattle.fdr_io.specs.declared.Input.TheVariants as input
use Rattle.fdr_table.specs.Rows.{TableRows}
use Rattle.fdr_words.specs.Forms.{check_table}
use Rattle.fdr_top.specs.Answers.{IsOwn}
use Rattle.fdr_top.specs.Check.{Reports}
use Rattle.fdr_top.specs.Commands.{RunsCommand}
use Rattle.fdr_top.specs.Runs.{CommandRun}
use Rattle.fdr_top.specs.declared.outcome.Outcome.{Outcome}
use Rattle.fdr_top.specs.declared.outcome.Outcome.TheVariants as outcome
use Rattle.fdr_top.proofs.MeaningWords.{Core}
use Rattle.fdr_top.specs.Meaning.{writes}
use Rattle.fdr_top.specs.Doing.{IsTold, Refines}
use Rattle.fdr_top.proofs.MeaningLeft.{stays_unused}
use Rattle.fdr_top.proofs.MeaningByTable.{means_unpulled}

module _ (path : List ℕ) (r : CommandRun) (told : IsTold (check_table path) r) (runs : RunsCommand (check_table path) r) where
  refines : (t : TableRows) → Reports t r.work.written_before r.work.written_now r.work.answer → (a : Outcome) → r.work.answer ≡ a
      → IsOwn (check_table path) a → Refines (check_table path) (writes (report_of t) outcome.Done) r.work
  refines t reports outcome.Done e own =
      inl (record { answer = e; text = reports.text e; image = stays_unused (check_table path) r.work runs.unused (λ no. no) })
  refines t reports outcome.WriteFault e own = inr (inl (
    tt,
    record {
      answer = e;
      step = refl;
      cause = runs.causes.write e;
      text = reports.part;
      image = stays_unused (check_table path) r.work runs.unused (λ no. no);
    },
  ))
  refines t reports (outcome.ReadFault input.Line) e own = absurd own
  refines t reports a e own = absurd own

  pub means_check : Core (check_table path) r
  means_check = means_unpulled (check_table path) (λ t image. writes (report_of t) outcome.Done) r told runs refl (λ g. refl) (λ no. no) tt
      [] (λ no. absurd no) runs.carries_out (λ past own. refines runs.carries_out.0 (runs.carries_out.3 past) r.work.answer refl own)
