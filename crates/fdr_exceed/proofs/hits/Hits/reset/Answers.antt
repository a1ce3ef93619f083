use Rattle.std.proofs.Common.{◌≡◌, ◌∙◌, None, rules, sym}
use Rattle.fdr_exceed.proofs.HitLists.{hit_list-none}
use Rattle.fdr_exceed.proofs.hits.Hits.reset.Goals as goal

pub returns-clause-hits : goal.returns-clause-hits
returns-clause-hits c rows are =
    let none : c.take.new.self ≡ None = search rules in
    record { list = none ∙ sym (hit_list-none c.args.rule.now) }
