use Rattle.std.proofs.Common.{◌≡◌, ◌+◌, [], ◌∷◌, ◌++◌, subst, rules}
use Rattle.fdr_exceed.specs.declared.rule.Rule.{Rule}
use Rattle.fdr_exceed.specs.Watching.{IsNextOf, no_rule, rule_at}
use Rattle.fdr_exceed.proofs.Nexts.{count-push, each-push}
use Rattle.fdr_exceed.proofs.Stepping.{read-at}
use Rattle.fdr_exceed.proofs.watch.next_rules.Goals as goal

pub loop-i-preserved : goal.loop-i-preserved
loop-i-preserved c =
    let inv = c.loop-i.invariant in
    let above = c.args.rules.now in
    let i = c.loop-i.i in
    let rule = c.index-rules-i.result in
    let more : c.push.new.self.items ≡ c.loop-i.next.items ++ c.next_of.result ∷ [] = search rules in
    let rule_is : rule ≡ rule_at above i = read-at above i rule no_rule c.loop-i-test.true c.index-rules-i.is in
    record {
      count = count-push c.loop-i.next.items c.push.new.self.items i c.next_of.result inv.count more;
      each = each-push (λ k x. IsNextOf above (k + 1) (rule_at above k).param x) c.loop-i.next.items c.push.new.self.items i c.next_of.result inv.count more
          inv.each (subst (λ (q : Rule). IsNextOf above (i + 1) q.param c.next_of.result) rule_is c.next_of.ensures);
    }
