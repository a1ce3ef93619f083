use Rattle.std.proofs.Common.{◌≡◌, ℕ, Err, ap, sym, ◌∙◌, refl}
use Rattle.fdr_io.specs.declared.Input.TheVariants as input
use Rattle.fdr_table.specs.declared.fault.TableFault.{TableFault}
use Rattle.fdr_load.specs.declared.load.LoadFault.{LoadFault}
use Rattle.fdr_load.specs.declared.load.LoadFault.TheVariants as load
use Rattle.fdr_top.specs.Stages.{IsOfTable}
use Rattle.fdr_top.specs.Tables.{load_answer}
use Rattle.fdr_top.specs.declared.outcome.Outcome.TheVariants as outcome
use Rattle.fdr_top.proofs.load.load_table.Goals as goal

of_table : (f : LoadFault) → IsOfTable (load_answer f)
of_table (load.Refused row f) = tt
of_table load.Failed = tt
of_table load.NoMemory = tt

was_refused : (f : LoadFault) (row : ℕ) (x : TableFault) → load_answer f ≡ outcome.TableRefused row x → f ≡ load.Refused row x
was_refused (load.Refused r y) row x e = let first : r ≡ row = cc in let second : y ≡ x = cc in cc
was_refused load.Failed row x e = cc
was_refused load.NoMemory row x e = cc

was_failed : (f : LoadFault) → load_answer f ≡ outcome.ReadFault input.Table → f ≡ load.Failed
was_failed (load.Refused r y) e = cc
was_failed load.Failed e = refl
was_failed load.NoMemory e = cc

pub returns-in-Err-clause-answers : goal.returns-in-Err-clause-answers
returns-in-Err-clause-answers g c = rw c.answer_of.ensures (of_table c.in-Err.fault)

pub returns-in-Err-clause-refused : goal.returns-in-Err-clause-refused
returns-in-Err-clause-refused g c = λ row f e.
    let answer : load_answer c.in-Err.fault ≡ outcome.TableRefused row f = sym c.answer_of.ensures ∙
    (let same : c.answer_of.result ≡ outcome.TableRefused row f = cc in same) in
    c.in-Err.ensures.refused row f (ap Err (was_refused c.in-Err.fault row f answer))

pub returns-in-Err-clause-fault : goal.returns-in-Err-clause-fault
returns-in-Err-clause-fault g c = λ e.
    let answer : load_answer c.in-Err.fault ≡ outcome.ReadFault input.Table = sym c.answer_of.ensures ∙
    (let same : c.answer_of.result ≡ outcome.ReadFault input.Table = cc in same) in
    c.in-Err.ensures.fault (ap Err (was_failed c.in-Err.fault answer))

pub returns-in-Err-clause-no_fault : goal.returns-in-Err-clause-no_fault
returns-in-Err-clause-no_fault g c = λ other.
    c.in-Err.ensures.no_fault (λ e. other (let failed : c.in-Err.fault ≡ load.Failed = cc in ap Err (c.answer_of.ensures ∙ ap load_answer failed)))

pub returns-in-Err-clause-fault_within_limit : goal.returns-in-Err-clause-fault_within_limit
returns-in-Err-clause-fault_within_limit g c = λ e.
    let answer : load_answer c.in-Err.fault ≡ outcome.ReadFault input.Table = sym c.answer_of.ensures ∙
    (let same : c.answer_of.result ≡ outcome.ReadFault input.Table = cc in same) in
    c.in-Err.ensures.fault_within_limit (ap Err (was_failed c.in-Err.fault answer))
