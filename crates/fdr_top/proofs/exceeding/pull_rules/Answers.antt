use Rattle.std.proofs.Common.{ap, ◌∙◌}
use Rattle.std.proofs.lemmas.Result.{IfErr-weaker}
use Rattle.std.specs.Prelude.{Err, IfOk, Result, Ok}
use Rattle.fdr_top.specs.Exceed.{rules_in}
use Rattle.fdr_top.proofs.ExceededImages.{no_room_for_rules, rules_are_read, rules_ended}
use Rattle.fdr_top.proofs.exceeding.pull_rules.Goals as goal

-- three facts of what is there
all_three : {T E : Type 0} (P Q R S : T → Type 0) (r : Result T E) → ((x : T) → P x → Q x → R x → S x) → IfOk r P → IfOk r Q → IfOk r R → IfOk r S
all_three P Q R S (Ok x) then first second third = then x first second third
all_three P Q R S (Err e) then first second third = tt

pub returns-in-Ok-clause-rules : goal.returns-in-Ok-clause-rules
returns-in-Ok-clause-rules g c =
    let all = c.in-Ok.ensures.all in
    all_three _ _ _ _ c.read_rules.result
    (λ rules end are none.
    let read = rules_are_read c.args.table.now g.D.Deck.tells _ _ all.0 c.deref.result.now c.in-Ok.end all.1 all.2
    (c.deref.ensures.value ∙ all.3) end none in
    (all.0, are ∙ ap (rules_in c.args.table.now) read.0, read.1))
    c.read_rules.ensures.end c.read_rules.ensures.rules c.read_rules.ensures.no_fault

pub returns-in-Ok-clause-refused : goal.returns-in-Ok-clause-refused
returns-in-Ok-clause-refused g c =
    let all = c.in-Ok.ensures.all in
    IfErr-weaker c.read_rules.result _ _
    (λ answer is. (
      all.0,
      rules_ended c.args.table.now g.D.Deck.tells _ _ all.0 c.deref.result.now c.in-Ok.end answer all.1 all.2
          (c.deref.ensures.value ∙ all.3) is,
    )) c.read_rules.ensures.refused

pub returns-in-Ok-clause-input_fault : goal.returns-in-Ok-clause-input_fault
returns-in-Ok-clause-input_fault g c = λ e. c.in-Ok.ensures.fault (c.read_rules.ensures.fault e)

pub returns-in-Ok-clause-no_input_fault : goal.returns-in-Ok-clause-no_input_fault
returns-in-Ok-clause-no_input_fault g c = λ other. c.in-Ok.ensures.no_fault (λ e. other (c.read_rules.ensures.faulty e))

pub returns-clause-refused : goal.returns-clause-refused
returns-clause-refused g c =
    let cut = c.in-Err.ensures.part in
    (cut.0, no_room_for_rules c.args.table.now g.D.Deck.tells _ _ cut.0 cut.1)
