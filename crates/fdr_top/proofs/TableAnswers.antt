-- The table of a source that tells its bytes, and what is answered to it.
use Rattle.std.proofs.Common.{◌≡◌, ℕ, ◌<◌, ◌≤◌, true, List, [], ◌++◌, length, Option, Some, None, ap, sym, refl, ◌∙◌, subst, inr, ◌⊎◌, ⊎_elim, arith}
use Rattle.std.proofs.Common.{length-append}
use Rattle.std.specs.Prelude.{IfSome, nat_lt}
use Rattle.std.proofs.lemmas.Bool.{cases_lt}
use Rattle.std.proofs.lemmas.Bool.Decides.{nat_tests}
use Rattle.std.proofs.lemmas.List.{append-nil}
use Rattle.fdr_io.specs.Told.{preceded_by}
use Rattle.fdr_io.specs.declared.Input.TheVariants as input
use Rattle.fdr_io.proofs.Telling.{preceded_by-end}
use Rattle.fdr_table.specs.Bounds.{most_table_bytes}
use Rattle.fdr_table.specs.Faults.{table_bytes_fault}
use Rattle.fdr_table.specs.declared.fault.TableFault.{TableFault}
use Rattle.fdr_table.specs.declared.fault.TableFault.TheVariants as fault
use Rattle.fdr_top.specs.declared.outcome.Outcome.{Outcome}
use Rattle.fdr_top.specs.declared.outcome.Outcome.TheVariants as outcome
use Rattle.fdr_top.specs.Stages.{IsOfTable, IsPastTable}
use Rattle.fdr_load.specs.Tables.{IsAccepted, IsTableRefused, fault_in}

-- what was taken to the end is all that was told
pub taken_is_all : (old new : Option (List ℕ)) (taken bytes : List ℕ) → old ≡ preceded_by taken new → IfSome new (λ left. left ≡ []) → old ≡ Some bytes
    → bytes ≡ taken
taken_is_all old new taken bytes whole end told = rw told at (preceded_by-end old taken new whole end)

-- what holds of the bytes that were taken to the end holds of all that was told
pub told_all : (P : List ℕ → Type 0) (old new : Option (List ℕ)) (taken : List ℕ) → old ≡ preceded_by taken new → IfSome new (λ left. left ≡ []) → P taken
    → IfSome old P
unfolding preceded_by
told_all P old None taken whole end holds = rw whole tt
told_all P old (Some left) taken whole end holds =
    let all : taken ++ left ≡ taken = ap (λ (x : List ℕ). taken ++ x) end ∙ append-nil taken in
    rw whole (subst P (sym all) holds)

-- no bytes are both accepted and refused
pub not_both : (bytes : List ℕ) (row : ℕ) (f : TableFault) → IsAccepted bytes → IsTableRefused bytes row f → ⊥
not_both bytes row f accepted refused = let c : ◌≡◌ {A = Option (ℕ × TableFault)} None (Some (row, f)) = sym accepted ∙ refused in cc

longer : (old new : Option (List ℕ)) (taken bytes : List ℕ) → old ≡ preceded_by taken new → old ≡ Some bytes → length taken ≤ length bytes
unfolding preceded_by
longer old None taken bytes whole told = cc
longer old (Some left) taken bytes whole told =
    let e : taken ++ left ≡ bytes = cc in
    omega (arith, length-append taken left, ap length e)

-- too many bytes are refused for their number
too_many : (bytes : List ℕ) → most_table_bytes < length bytes → fault_in bytes ≡ Some (0, fault.Size)
unfolding fault_in table_bytes_fault
too_many bytes many =
    let test : nat_lt 1048576 (length bytes) ≡ true = grind (arith, nat_tests) in
    rw test refl

-- what was refused of a front part is refused of all that was told, where the part is all or too large
pub refused_told : (old new : Option (List ℕ)) (taken bytes : List ℕ) (row : ℕ) (f : TableFault) → IsTableRefused taken row f → old ≡ preceded_by taken new
    → (length taken ≤ most_table_bytes → IfSome new (λ left. left ≡ [])) → old ≡ Some bytes → IsTableRefused bytes row f
refused_told old new taken bytes row f refused whole end told = ⊎_elim
    (λ (many : most_table_bytes < length taken). too_many bytes (omega (arith, many, longer old new taken bytes whole told)) ∙ sym (too_many taken many)
    ∙ refused)
    (λ (few : length taken ≤ most_table_bytes). subst (λ (x : List ℕ). IsTableRefused x row f) (sym (taken_is_all old new taken bytes whole (end few) told))
    refused)
    (cases_lt most_table_bytes (length taken))

-- a told source of few bytes was taken to its end
pub taken_to_end : (old new : Option (List ℕ)) (taken bytes : List ℕ) → old ≡ preceded_by taken new
    → (length taken ≤ most_table_bytes → IfSome new (λ left. left ≡ []))
    → old ≡ Some bytes → length bytes ≤ most_table_bytes → new ≡ Some []
unfolding preceded_by
taken_to_end old None taken bytes whole end told few = cc
taken_to_end old (Some left) taken bytes whole end told few = ap Some (end (omega (arith, longer old (Some left) taken bytes whole told)))

-- where the table is neither refused nor fails to be read, want of memory is left
pub memory_is_left : (answer : Outcome) → IsOfTable answer → ((row : ℕ) (f : TableFault) → answer ≡ outcome.TableRefused row f → ⊥)
    → (answer ≡ outcome.ReadFault input.Table → ⊥)
    → (answer ≡ outcome.Done) ⊎ (answer ≡ outcome.NoMemory)
memory_is_left (outcome.TableRefused row f) of_table refused failed = absurd (refused row f refl)
memory_is_left (outcome.ReadFault input.Table) of_table refused failed = absurd (failed refl)
memory_is_left outcome.NoMemory of_table refused failed = inr refl
memory_is_left answer of_table refused failed = absurd of_table

-- an answer past the table isn't want of memory
pub past_not_memory : (answer : Outcome) → IsPastTable answer → answer ≡ outcome.NoMemory → ⊥
past_not_memory answer past e = rw e at past

-- an answer of the table isn't past it
pub table_not_past : (answer : Outcome) → IsOfTable answer → IsPastTable answer → ⊥
table_not_past (outcome.TableRefused row f) of_table past = past
table_not_past (outcome.ReadFault input.Table) of_table past = past
table_not_past outcome.NoMemory of_table past = past
table_not_past answer of_table past = of_table
