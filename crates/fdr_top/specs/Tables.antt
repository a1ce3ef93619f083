-- How the answer of a command goes with its table.
use Rattle.std.specs.Prelude.{◌≡◌, ℕ, ◌+◌, ◌≤◌, List, [], length, Option, Some, IfSome}
use Rattle.fdr_io.specs.Told.{preceded_by}
use Rattle.fdr_io.specs.declared.Input.TheVariants as input
use Rattle.fdr_table.specs.Bounds.{most_table_bytes}
use Rattle.fdr_table.specs.Rows.{TableRows}
use Rattle.fdr_table.specs.declared.fault.TableFault.{TableFault}
use Rattle.fdr_check.specs.Soundness.{IsSound}
use Rattle.fdr_load.specs.Tables.{IsAccepted, IsTableRefused, table_in}
use Rattle.fdr_load.specs.declared.load.LoadFault.{LoadFault}
use Rattle.fdr_load.specs.declared.load.LoadFault.TheVariants as load
use Rattle.fdr_top.specs.Stages.{IsOfTable, IsPastTable}
use Rattle.fdr_io.specs.Limits.{piece_bytes}
use Rattle.fdr_top.specs.declared.outcome.Outcome.{Outcome}
use Rattle.fdr_top.specs.declared.outcome.Outcome.TheVariants as outcome

-- the answer where a source gives no table, for this reason
abbrev pub load_answer : LoadFault → Outcome
load_answer (load.Refused row f) = outcome.TableRefused row f
load_answer load.Failed = outcome.ReadFault input.Table
load_answer load.NoMemory = outcome.NoMemory

-- The table is that of the bytes that were taken of its source, and they are accepted.
abbrev pub IsOfTaken : TableRows → Option (List ℕ) → Option (List ℕ) → Type 0
IsOfTaken t old new = (taken : List ℕ) × IsAccepted taken × (t ≡ table_in taken) × (old ≡ preceded_by taken new)

-- The statement holds of the table that was read. That is the table of the source's bytes where it tells them, and past the table
-- always that of the bytes that were taken, which are accepted.
abbrev pub ByTable : Option (List ℕ) → Option (List ℕ) → Outcome → (TableRows → Type 0) → Type 0
ByTable old new answer P = (t : TableRows) × ((bytes : List ℕ) → old ≡ Some bytes → t ≡ table_in bytes)
    × (IsPastTable answer → IsOfTaken t old new) × P t

-- How the answer of a command goes with the table that it reads: which fault is named, how much was taken of the source, and that
-- past it the table was accepted.
pub record ReadsItsTable (old new : Option (List ℕ)) (answer : Outcome) : Type 0 where
  pub refused : (row : ℕ) (f : TableFault) (bytes : List ℕ) → answer ≡ outcome.TableRefused row f → old ≡ Some bytes
      → IsTableRefused bytes row f
  pub refused_taken : (row : ℕ) (f : TableFault) → answer ≡ outcome.TableRefused row f
      → (taken : List ℕ) × IsTableRefused taken row f × (old ≡ preceded_by taken new)
      × (length taken ≤ most_table_bytes + piece_bytes)
  pub refused_always : (row : ℕ) (f : TableFault) (bytes : List ℕ) → old ≡ Some bytes → IsTableRefused bytes row f
      → IsOfTable answer
  pub refused_at_end : (row : ℕ) (f : TableFault) (bytes : List ℕ) → answer ≡ outcome.TableRefused row f
      → old ≡ Some bytes → length bytes ≤ most_table_bytes → new ≡ Some []
  pub accepted : IsPastTable answer → IfSome old IsAccepted
  pub accepted_at_end : IsPastTable answer → IfSome new (λ left. left ≡ [])
  pub sound : (bytes : List ℕ) → IsPastTable answer → old ≡ Some bytes → IsSound (table_in bytes)
  pub fault_within_limit : answer ≡ outcome.ReadFault input.Table
      → (taken : List ℕ) × (length taken ≤ most_table_bytes) × (old ≡ preceded_by taken new)
