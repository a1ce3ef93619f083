use Rattle.std.proofs.Common.{◌≡◌, ◌∙◌, ap, sym, subst, List, [], ◌∷◌, ◌++◌, length, Option, Err, arith, rules}
use Rattle.std.specs.Prelude.{ℕ, option_map, unwrap_or}
use Rattle.csv.specs.Records.{fields_of}
use Rattle.fdr_exceed.specs.RuleFaults.{rule_fault}
use Rattle.fdr_exceed.specs.Rules.{IsRuleInRange}
use Rattle.fdr_exceed.specs.declared.fault.RuleFault.{RuleFault}
use Rattle.fdr_exceed.specs.declared.rule.Rule.{Rule}
use Rattle.fdr_exceed.proofs.RuleRecords.{names_of_rules, same-rule}
use Rattle.fdr_exceed.proofs.rules.add_rule.Goals as goal

pub returns-else-is_err-clause-rule : goal.returns-else-is_err-clause-rule
returns-else-is_err-clause-rule c =
    let items = c.args.rules.now.items in
    let pushed : c.push.new.self.items ≡ items ++ c.in-Ok.rule ∷ [] = search rules in
    pushed ∙ ap (λ (r : Rule). items ++ r ∷ []) c.in-Ok.ensures.rule

pub returns-else-is_err-clause-no_fault : goal.returns-else-is_err-clause-no_fault
returns-else-is_err-clause-no_fault c =
    ap (λ (rs : List Rule). rule_fault c.args.table.now (names_of_rules rs) (fields_of c.args.row.now)) (sym c.deref.ensures.value)
    ∙ c.in-Ok.ensures.no_fault

pub returns-else-is_err-clause-range : goal.returns-else-is_err-clause-range
returns-else-is_err-clause-range c = subst (IsRuleInRange (length c.args.table.now.params)) c.in-Ok.ensures.rule c.in-Ok.ensures.range

pub returns-else-is_err-clause-few : goal.returns-else-is_err-clause-few
returns-else-is_err-clause-few c = omega (arith, ap (length {A = Rule}) c.deref.ensures.value, c.in-Ok.ensures.few)

pub returns-else-is_err-clause-refused : goal.returns-else-is_err-clause-refused
returns-else-is_err-clause-refused c = λ i f same. absurd (cc)

pub returns-then-is_err-clause-refused : goal.returns-then-is_err-clause-refused
returns-then-is_err-clause-refused c = λ i f same. absurd (cc)

pub returns-in-Err-clause-refused : goal.returns-in-Err-clause-refused
returns-in-Err-clause-refused c = λ i f same.
    let number : c.len.result ≡ length c.args.rules.now.items = search rules in
    let told = same-rule c.len.result i c.in-Err.fault f (Err c.refused.result) (ap Err c.refused.ensures) same in
    let wrong = ap (λ (rs : List Rule). rule_fault c.args.table.now (names_of_rules rs) (fields_of c.args.row.now)) (sym c.deref.ensures.value)
    ∙ c.in-Err.ensures.fault in (
      sym (ap (λ (o : Option (ℕ × RuleFault)). unwrap_or (option_map (λ p. p.0) o) 0) told) ∙ number,
      wrong ∙ ap (option_map (λ (p : ℕ × RuleFault). p.1)) told,
    )
