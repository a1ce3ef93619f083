use Rattle.std.proofs.Common.{◌≡◌, ◌∙◌, ap, refl, sym, subst, ◌<◌, length, arith}
use Rattle.std.specs.Prelude.{All}
use Rattle.std.proofs.lemmas.List.Elements.{All-set}
use Rattle.fdr_exceed.specs.declared.watch.Exceedance.{Exceedance}
use Rattle.fdr_exceed.specs.Exceedances.{ResetStep, rows_since}
use Rattle.fdr_exceed.specs.Watching.{IsWithinHits, hits_of_rule, no_rule, rule_at}
use Rattle.fdr_exceed.proofs.Stepping.{IsOfRules, all-given, given-on, none-within, read-at, with_ended-few, with_ended-inside}
use Rattle.fdr_exceed.proofs.watch.reset_rules.Goals as goal

pub loop-i-preserved : goal.loop-i-preserved
loop-i-preserved c =
    let rules = c.args.rules.now in
    let i = c.loop-i.i in
    let inv = c.loop-i.invariant in
    let hits = c.loop-i.hits in
    let rule = c.index-rules-i.result in
    let old = hits_of_rule hits i in
    let new = c.reset-ended.new.self in
    let within : i < length rules = c.loop-i-test.true in
    let count : length hits ≡ length rules = c.loop-i.auto.hits ∙ c.requires.count in
    let rule_is : rule ≡ rule_at rules i = read-at rules i rule no_rule within c.index-rules-i.is in
    record {
      within = omega (arith, within);
      given = λ steps are.
          given-on rules steps ResetStep i hits c.loop-i.due.items c.add.new.due.items rule old new c.reset-ended.result (inv.given steps are) within count
          rule_is refl (c.reset-ended.ensures.hits (rows_since (rule_at rules i) steps)) (c.reset-ended.ensures.ended (rows_since (rule_at rules i) steps))
          c.add.ensures.items;
      few = omega (arith, ap (length {A = Exceedance}) c.add.ensures.items, with_ended-few c.loop-i.due.items i c.reset-ended.result i inv.few);
      room = c.add.ensures.room ∙ inv.room;
      inside = subst (All (IsOfRules (length rules))) (sym c.add.ensures.items)
          (with_ended-inside c.loop-i.due.items i c.reset-ended.result (length rules) inv.inside within);
      shorter = λ n all. All-set (IsWithinHits n) hits i new (none-within n new c.reset-ended.ensures.none) (inv.shorter n all);
    }

pub returns-clause-hits : goal.returns-clause-hits
returns-clause-hits c steps are =
    let rules = c.args.rules.now in
    let all : c.loop-i.i ≡ length rules = omega (arith, c.loop-i.invariant.within, c.loop-i-test.false) in
    (all-given rules steps ResetStep c.loop-i.i c.loop-i.hits c.loop-i.due.items (c.loop-i.invariant.given steps are) all).0
