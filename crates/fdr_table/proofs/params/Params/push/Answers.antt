use Rattle.std.proofs.Common.{◌≡◌, ◌∙◌, sym, ap, Some, List, [], ◌∷◌, ◌++◌, ◌≤◌, length, arith, rules, length-append}
use Rattle.std.specs.HashMap.{Updates}
use Rattle.std.proofs.lemmas.List.Elements.{All-push, All-same}
use Rattle.fdr_table.specs.Bounds.{most_params}
use Rattle.fdr_table.specs.Draft.{index_named}
use Rattle.fdr_table.specs.Ranges.{IsParamInRange}
use Rattle.fdr_table.specs.Rows.{ParamRow}
use Rattle.fdr_table.proofs.NameFacts.{same_key, still-by-name}
use Rattle.fdr_table.proofs.params.Params.push.Goals as goal

pub invariant_of-self-2 : goal.invariant_of-self-2
invariant_of-self-2 c =
    let params = c.self.inside.list.items in
    let items : c.push.new.self.items ≡ params ++ c.args.param ∷ [] = search rules in
    let range : IsParamInRange c.args.param = search rules in
    let name : c.in_ok-name.name.items ≡ c.args.param.name = search rules in
    let fresh = ap (λ (ps : List ParamRow). index_named ps c.args.param.name) c.self.view_is ∙ c.requires.new in
    let few : length (params ++ c.args.param ∷ []) ≤ most_params =
    omega (arith, length-append params (c.args.param ∷ []), ap (length {A = ParamRow}) c.self.view_is) in
    let updates : Updates same_key c.self.inside.by_name c.insert.new.self c.in_ok-name.name (Some (length params)) = search rules in
    record {
      count = rw items few;
      ranges = All-same IsParamInRange c.push.new.self.items (params ++ c.args.param ∷ []) items
          (All-push IsParamInRange params c.args.param c.self.invariant.ranges range);
      names = λ q. still-by-name c.self.inside.by_name c.insert.new.self params c.args.param c.in_ok-name.name c.self.invariant.names fresh name updates q
          ∙ ap (λ (ps : List ParamRow). index_named ps q) (sym items);
    }
