use Rattle.std.proofs.Common.{◌≡◌, ◌∙◌, ap, sym, ℕ, ◌==◌, ◌<◌, ◌≤◌, true, false, length, get_or, List, Some, arith, rules}
use Rattle.std.specs.Prelude.{bytes_eq}
use mir.Val.{SFits}
use Rattle.std.specs.List.{list_any}
use Rattle.std.proofs.lemmas.Bool.Decides.{nat_tests}
use Rattle.std.proofs.lemmas.Int.{to_z-of_z}
use Rattle.csv.specs.Records.{fields_of}
use Rattle.fdr_table.specs.Draft.{index_named}
use Rattle.fdr_table.specs.Fields.{is_name}
use Rattle.fdr_table.specs.Rows.{ParamRow}
use Rattle.fdr_exceed.specs.Rules.{most_rules}
use Rattle.fdr_exceed.specs.RuleFaults.{rule_name_in, rule_param_in}
use Rattle.fdr_exceed.specs.declared.rule.Rule.{Rule}
use Rattle.fdr_exceed.proofs.RuleRecords.{names_of_rules}
use Rattle.fdr_exceed.proofs.RuleChecks.{is_twice, fault-shape, fault-misread, fault-misnamed, fault-unknown, fault-twice, fault-size, fault-none}
use Rattle.fdr_exceed.proofs.RuleChecks.{rule-made, param-is, names-count}
use mir.Syntax.{w64}
use Rattle.fdr_exceed.proofs.rule.read_rule.Goals as goal

pub returns-then-len-ne5-clause-fault : goal.returns-then-len-ne5-clause-fault
returns-then-len-ne5-clause-fault c =
    let row = fields_of c.args.row.now in
    let five : (length row == 5) ≡ false = grind (arith, nat_tests) in
    fault-shape c.args.table.now c.args.above.now row five

pub returns-in_err-numbers-clause-fault : goal.returns-in_err-numbers-clause-fault
returns-in_err-numbers-clause-fault c =
    let row = fields_of c.args.row.now in
    let five : (length row == 5) ≡ true = grind (arith, nat_tests) in
    grind (arith, fault-misread c.args.table.now c.args.above.now row)

pub returns-in_default-clause-fault : goal.returns-in_default-clause-fault
returns-in_default-clause-fault c =
    let row = fields_of c.args.row.now in
    let t = c.args.table.now in
    let above = c.args.above.now in
    let five : (length row == 5) ≡ true = grind (arith, nat_tests) in
    let right = c.in_ok-numbers.ensures.right in
    let named : is_name (rule_name_in row) ≡ false = grind arith in
    fault-misnamed t above row five right named

pub returns-in_default-find_param-clause-fault : goal.returns-in_default-find_param-clause-fault
returns-in_default-find_param-clause-fault c =
    let row = fields_of c.args.row.now in
    let t = c.args.table.now in
    let above = c.args.above.now in
    let five : (length row == 5) ≡ true = grind (arith, nat_tests) in
    let right = c.in_ok-numbers.ensures.right in
    let name_is : c.in-Some.name ≡ rule_name_in row = c.in-Some.ensures.bytes ∙ c.field_at.ensures in
    let named : is_name (rule_name_in row) ≡ true = grind arith in
    let index : c.find_param.result ≡ rule_param_in t row = c.find_param.ensures.found
    ∙ ap (λ (ps : List ParamRow). index_named ps c.field_at-2.result.now) c.params-params.ensures
    ∙ ap (index_named t.params) c.field_at-2.ensures in
    fault-unknown t above row five right named (sym index ∙ c.in_default-find_param.is)

pub returns-then-has_rule-clause-fault : goal.returns-then-has_rule-clause-fault
returns-then-has_rule-clause-fault c =
    let row = fields_of c.args.row.now in
    let t = c.args.table.now in
    let above = c.args.above.now in
    let five : (length row == 5) ≡ true = grind (arith, nat_tests) in
    let right = c.in_ok-numbers.ensures.right in
    let name_is : c.in-Some.name ≡ rule_name_in row = c.in-Some.ensures.bytes ∙ c.field_at.ensures in
    let named : is_name (rule_name_in row) ≡ true = grind arith in
    let index : c.find_param.result ≡ rule_param_in t row = c.find_param.ensures.found
    ∙ ap (λ (ps : List ParamRow). index_named ps c.field_at-2.result.now) c.params-params.ensures
    ∙ ap (index_named t.params) c.field_at-2.ensures in
    let known : rule_param_in t row ≡ Some c.in-Some-find_param.param = sym index ∙ c.in-Some-find_param.is in
    let twice : c.has_rule.result ≡ is_twice above row = c.has_rule.ensures
    ∙ ap (λ (q : List ℕ). list_any (λ (a : Rule). bytes_eq a.name q) above) (c.bytes.ensures.bytes ∙ name_is) in
    fault-twice t above row c.in-Some-find_param.param five right named known (sym twice ∙ c.if-has_rule.true)

pub returns-then-above-ge-MAX_RULES-clause-fault : goal.returns-then-above-ge-MAX_RULES-clause-fault
returns-then-above-ge-MAX_RULES-clause-fault c =
    let row = fields_of c.args.row.now in
    let t = c.args.table.now in
    let above = c.args.above.now in
    let five : (length row == 5) ≡ true = grind (arith, nat_tests) in
    let right = c.in_ok-numbers.ensures.right in
    let name_is : c.in-Some.name ≡ rule_name_in row = c.in-Some.ensures.bytes ∙ c.field_at.ensures in
    let named : is_name (rule_name_in row) ≡ true = grind arith in
    let index : c.find_param.result ≡ rule_param_in t row = c.find_param.ensures.found
    ∙ ap (λ (ps : List ParamRow). index_named ps c.field_at-2.result.now) c.params-params.ensures
    ∙ ap (index_named t.params) c.field_at-2.ensures in
    let known : rule_param_in t row ≡ Some c.in-Some-find_param.param = sym index ∙ c.in-Some-find_param.is in
    let twice : c.has_rule.result ≡ is_twice above row = c.has_rule.ensures
    ∙ ap (λ (q : List ℕ). list_any (λ (a : Rule). bytes_eq a.name q) above) (c.bytes.ensures.bytes ∙ name_is) in
    let many : most_rules ≤ length (names_of_rules above) = omega (arith, names-count above, c.if-above-ge-MAX_RULES.true) in
    fault-size t above row c.in-Some-find_param.param five right named known (sym twice ∙ c.if-has_rule.false) many

pub returns-clause-no_fault : goal.returns-clause-no_fault
returns-clause-no_fault c =
    let row = fields_of c.args.row.now in
    let t = c.args.table.now in
    let above = c.args.above.now in
    let five : (length row == 5) ≡ true = grind (arith, nat_tests) in
    let right = c.in_ok-numbers.ensures.right in
    let name_is : c.in-Some.name ≡ rule_name_in row = c.in-Some.ensures.bytes ∙ c.field_at.ensures in
    let named : is_name (rule_name_in row) ≡ true = grind arith in
    let index : c.find_param.result ≡ rule_param_in t row = c.find_param.ensures.found
    ∙ ap (λ (ps : List ParamRow). index_named ps c.field_at-2.result.now) c.params-params.ensures
    ∙ ap (index_named t.params) c.field_at-2.ensures in
    let known : rule_param_in t row ≡ Some c.in-Some-find_param.param = sym index ∙ c.in-Some-find_param.is in
    let twice : c.has_rule.result ≡ is_twice above row = c.has_rule.ensures
    ∙ ap (λ (q : List ℕ). list_any (λ (a : Rule). bytes_eq a.name q) above) (c.bytes.ensures.bytes ∙ name_is) in
    let few : length (names_of_rules above) < most_rules = omega (arith, names-count above, c.if-above-ge-MAX_RULES.false) in
    fault-none t above row c.in-Some-find_param.param five right named known (sym twice ∙ c.if-has_rule.false) few

pub returns-clause-rule : goal.returns-clause-rule
returns-clause-rule c =
    let row = fields_of c.args.row.now in
    let t = c.args.table.now in
    let name_is : c.in-Some.name ≡ rule_name_in row = c.in-Some.ensures.bytes ∙ c.field_at.ensures in
    let index : c.find_param.result ≡ rule_param_in t row = c.find_param.ensures.found
    ∙ ap (λ (ps : List ParamRow). index_named ps c.field_at-2.result.now) c.params-params.ensures
    ∙ ap (index_named t.params) c.field_at-2.ensures in
    let known : rule_param_in t row ≡ Some c.in-Some-find_param.param = sym index ∙ c.in-Some-find_param.is in
    let limit = c.in_ok-numbers.numbers.limit in
    let fits : SFits w64 limit = search rules in
    let e = to_z-of_z w64 limit fits in
    let p = c.in-Some-find_param.param in
    let at = c.index-params-param.is ∙ ap (λ (ps : List ParamRow). get_or ps p c.index-params-param.result) c.params-params.ensures in
    let within : p < length t.params = omega (arith, ap (length {A = ParamRow}) c.params-params.ensures, c.in-Some-find_param.ensures.within) in
    let decimals = ap (λ (q : ParamRow). q.decimals) (c.watched.view_is ∙ param-is t.params p c.index-params-param.result within at) in
    rule-made t row c.in-Some.name c.in-Some-find_param.param c.watched.inside.decimals c.in_ok-numbers.numbers.kind _ c.in_ok-numbers.numbers.count
    name_is known decimals c.in_ok-numbers.ensures.kind (c.in_ok-numbers.ensures.limit ∙ ap Some (sym e)) c.in_ok-numbers.ensures.count
