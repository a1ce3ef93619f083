-- What is done by a table.
use Rattle.std.proofs.Common.{◌≡◌, ℕ, ◌≤◌, true, false, List, length, Option, Some, None, IsSome, refl, le-leb}
use Rattle.fdr_io.specs.declared.Input.TheVariants as input
use Rattle.fdr_load.specs.Tables.{IsAccepted, IsTableRefused, table_in}
use Rattle.fdr_table.specs.Bounds.{most_table_bytes}
use Rattle.fdr_table.specs.Rows.{TableRows}
use Rattle.fdr_table.specs.declared.fault.TableFault.{TableFault}
use Rattle.fdr_pair.specs.declared.outcome.PairOutcome.TheVariants as outcome
use Rattle.fdr_pair.specs.PairMeaning.{PairEffect, pair_answers, to_table, by_pair_table}

pub by_accepted : (bytes : List ℕ) (work : TableRows → PairEffect) → IsAccepted bytes
    → by_pair_table (record { bytes = bytes; failed = false }) work ≡ work (table_in bytes)
by_accepted bytes work accepted = rw accepted refl

pub by_refused : (bytes : List ℕ) (work : TableRows → PairEffect) (row : ℕ) (f : TableFault) → IsTableRefused bytes row f
    → by_pair_table (record { bytes = bytes; failed = false }) work ≡ pair_answers to_table (outcome.TableRefused row f)
by_refused bytes work row f is = rw is refl

pub by_failed : (bytes : List ℕ) (work : TableRows → PairEffect) → length bytes ≤ most_table_bytes
    → by_pair_table (record { bytes = bytes; failed = true }) work ≡ pair_answers to_table (outcome.ReadFault input.Table)
by_failed bytes work few = rw (le-leb (length bytes) most_table_bytes few) refl

-- a source that tells
pub told_some : (rest : Option (List ℕ)) → IsSome rest → (bytes : List ℕ) × (rest ≡ Some bytes)
told_some None some = absurd (cc)
told_some (Some bytes) some = (bytes, refl)
