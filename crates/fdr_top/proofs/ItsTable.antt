-- What a command leaves and answers by the table that it reads.
use Rattle.std.proofs.Common.{◌≡◌, ◌⊎◌, ⊎_elim, ℕ, ◌+◌, ◌≤◌, List, [], length, Option, Result, Err, ap, sym, ◌∙◌, subst}
use Rattle.std.specs.Prelude.{IfSome}
use Rattle.fdr_io.specs.Told.{preceded_by}
use Rattle.fdr_io.specs.declared.Input.TheVariants as input
use Rattle.fdr_check.specs.Soundness.{IsSound}
use Rattle.fdr_table.specs.Bounds.{most_table_bytes}
use Rattle.fdr_table.specs.Rows.{TableRows}
use Rattle.fdr_table.specs.declared.fault.TableFault.{TableFault}
use Rattle.fdr_top.specs.Stages.{IsOfTable, IsPastTable}
use Rattle.fdr_top.specs.Complete.{TellsAccepted}
use Rattle.fdr_io.specs.Limits.{piece_bytes}
use Rattle.fdr_load.specs.Tables.{IsAccepted, IsTableRefused, table_in}
use Rattle.fdr_top.specs.Tables.{ByTable, ReadsItsTable}
use Rattle.fdr_top.specs.declared.outcome.Outcome.{Outcome}
use Rattle.fdr_top.specs.declared.outcome.Outcome.TheVariants as outcome
use Rattle.fdr_top.proofs.TableAnswers.{taken_is_all, told_all, not_both, refused_told, taken_to_end, memory_is_left, table_not_past}

-- an answer past the table doesn't refuse it
past_not_refused : (answer : Outcome) (row : ℕ) (f : TableFault) → (answer ≡ outcome.NoMemory) ⊎ IsPastTable answer
    → answer ≡ outcome.TableRefused row f → ⊥
past_not_refused answer row f either e = ⊎_elim
    (λ (memory : answer ≡ outcome.NoMemory). let c : outcome.TableRefused row f ≡ outcome.NoMemory = sym e ∙ memory in cc)
    (λ (past : IsPastTable answer). rw e at past)
    either

past_not_fault : (answer : Outcome) → (answer ≡ outcome.NoMemory) ⊎ IsPastTable answer
    → answer ≡ outcome.ReadFault input.Table → ⊥
past_not_fault answer either e = ⊎_elim
    (λ (memory : answer ≡ outcome.NoMemory). let c : outcome.ReadFault input.Table ≡ outcome.NoMemory = sym e ∙ memory in cc)
    (λ (past : IsPastTable answer). rw e at past)
    either

-- the table was read to its end and is accepted
pub read_accepted : (old new : Option (List ℕ)) (t : TableRows) (answer : Outcome)
    → (taken : List ℕ) × IsAccepted taken × (t ≡ table_in taken) × (old ≡ preceded_by taken new) → IfSome new (λ left. left ≡ []) → IsSound t
    → (answer ≡ outcome.NoMemory) ⊎ IsPastTable answer → ReadsItsTable old new answer
read_accepted old new t answer read end sound either = record {
  refused = λ row f bytes e told. absurd (past_not_refused answer row f either e);
  refused_taken = λ row f e. absurd (past_not_refused answer row f either e);
  refused_always = λ row f bytes told refused.
      absurd (not_both read.0 row f read.1
      (subst (λ (x : List ℕ). IsTableRefused x row f) (taken_is_all old new read.0 bytes read.3 end told) refused));
  refused_at_end = λ row f bytes e told few. absurd (past_not_refused answer row f either e);
  accepted = λ past. told_all IsAccepted old new read.0 read.3 end read.1;
  accepted_at_end = λ past. end;
  sound = λ bytes past told. subst IsSound (read.2 ∙ ap table_in (sym (taken_is_all old new read.0 bytes read.3 end told))) sound;
  fault_within_limit = λ e. absurd (past_not_fault answer either e);
}

-- the table wasn't read, or was refused
pub read_refused : {R : Type 0} (old new : Option (List ℕ)) (answer : Outcome) → IsOfTable answer
    → ((row : ℕ) (f : TableFault) → ◌≡◌ {A = Result R Outcome} (Err answer) (Err (outcome.TableRefused row f))
    → (bytes : List ℕ) × IsTableRefused bytes row f × (old ≡ preceded_by bytes new)
    × (length bytes ≤ most_table_bytes → IfSome new (λ left. left ≡ []))
    × (length bytes ≤ most_table_bytes + piece_bytes))
    → (◌≡◌ {A = Result R Outcome} (Err answer) (Err (outcome.ReadFault input.Table))
    → (bytes : List ℕ) × (length bytes ≤ most_table_bytes) × (old ≡ preceded_by bytes new))
    → ReadsItsTable old new answer
read_refused old new answer of_table refused fault = record {
  refused = λ row f bytes e told. let r = refused row f (ap Err e) in refused_told old new r.0 bytes row f r.1 r.2 r.3 told;
  refused_taken = λ row f e. let r = refused row f (ap Err e) in (r.0, r.1, r.2, r.4);
  refused_always = λ row f bytes told no. of_table;
  refused_at_end = λ row f bytes e told few. let r = refused row f (ap Err e) in taken_to_end old new r.0 bytes r.2 r.3 told few;
  accepted = λ past. absurd (table_not_past answer of_table past);
  accepted_at_end = λ past. absurd (table_not_past answer of_table past);
  sound = λ bytes past told. absurd (table_not_past answer of_table past);
  fault_within_limit = λ e. fault (ap Err e);
}

-- what holds of the table that was read
pub by_table : (old new : Option (List ℕ)) (t : TableRows) (answer : Outcome) (P : TableRows → Type 0)
    → (taken : List ℕ) × IsAccepted taken × (t ≡ table_in taken) × (old ≡ preceded_by taken new) → IfSome new (λ left. left ≡ []) → P t
    → ByTable old new answer P
by_table old new t answer P read end holds =
    (t, λ bytes told. read.2 ∙ ap table_in (sym (taken_is_all old new read.0 bytes read.3 end told)), λ past. read, holds)

-- a table that is told and accepted isn't refused
pub accepted_left : (old new : Option (List ℕ)) (answer : Outcome) → IsOfTable answer → ReadsItsTable old new answer
    → TellsAccepted old → (answer ≡ outcome.ReadFault input.Table → ⊥) → (answer ≡ outcome.Done) ⊎ (answer ≡ outcome.NoMemory)
accepted_left old new answer of_table reads accepted quiet = memory_is_left answer of_table
    (λ row f e. not_both accepted.0 row f accepted.2 (reads.refused row f accepted.0 e accepted.1))
    quiet
