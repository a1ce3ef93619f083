-- Making an image where one is, and nothing fails.
use Rattle.std.proofs.Common.{◌≡◌, ◌⊎◌, inl, inr, ⊎_elim, ℕ, List, Option, Some, None, refl, sym, ◌∙◌}
use Rattle.fdr_io.specs.declared.Input.TheVariants as input
use Rattle.fdr_table.specs.declared.fault.TableFault.{TableFault}
use Rattle.fdr_words.specs.Forms.{Form, format_image}
use Rattle.fdr_top.specs.Complete.{IsFaultless, CountsNoFault}
use Rattle.fdr_top.specs.Runs.{CommandRun}
use Rattle.fdr_top.specs.Answers.{MayAnswer}
use Rattle.fdr_top.specs.Stages.{IsPastTable}
use Rattle.fdr_load.specs.Tables.{IsAccepted, IsTableRefused}
use Rattle.fdr_top.specs.declared.outcome.Outcome.{Outcome}
use Rattle.fdr_top.specs.declared.outcome.Outcome.TheVariants as outcome

-- the table is accepted, an image is there, and nothing fails: it isn't made, or memory ended
pub making_sure : (path image : List ℕ) (slots payload : ℕ) (bytes : List ℕ) (answer : Outcome) → MayAnswer (format_image path image slots payload) answer
    → ((row : ℕ) (f : TableFault) → answer ≡ outcome.TableRefused row f → IsTableRefused bytes row f) → IsAccepted bytes
    → (answer ≡ outcome.ReadFault input.Table → ⊥) → (answer ≡ outcome.DiskFault → ⊥)
    → (IsPastTable answer → (answer ≡ outcome.NotEmpty) ⊎ (answer ≡ outcome.DiskFault))
    → (answer ≡ outcome.NotEmpty) ⊎ (answer ≡ outcome.NoMemory)
making_sure path image slots payload bytes outcome.NotEmpty may refused accepted read disk there = inl refl
making_sure path image slots payload bytes outcome.NoMemory may refused accepted read disk there = inr refl
making_sure path image slots payload bytes outcome.Done may refused accepted read disk there =
    absurd (⊎_elim (λ e. cc) (λ e. cc) (there tt))
making_sure path image slots payload bytes (outcome.TableRefused row f) may refused accepted read disk there =
    absurd (let c : ◌≡◌ {A = Option (ℕ × TableFault)} None (Some (row, f)) = sym accepted ∙ refused row f refl in cc)
making_sure path image slots payload bytes (outcome.ReadFault input.Table) may refused accepted read disk there = absurd (read refl)
making_sure path image slots payload bytes (outcome.ReadFault input.Line) may refused accepted read disk there = absurd may
making_sure path image slots payload bytes outcome.DiskFault may refused accepted read disk there = absurd (disk refl)
making_sure path image slots payload bytes answer may refused accepted read disk there = absurd may

-- nothing failed of what a command uses
pub faultless : (form : Form) (r : CommandRun) → CountsNoFault r.table_before r.table_now
    → CountsNoFault r.work.old.input_faults r.work.new.input_faults → CountsNoFault r.work.old.disk_faults r.work.new.disk_faults
    → CountsNoFault r.work.sink_before r.work.sink_now → IsFaultless form r
faultless form r table line disk sink = record {
  table = λ reads. table;
  work = record { input = λ pulls. line; disk = λ image. disk; sink = λ text. sink };
}
