use Rattle.std.proofs.Common.{◌≡◌, [], ◌∷◌, ◌++◌, rules}
use Rattle.fdr_exceed.specs.Watching.{IsNextOf}
use Rattle.fdr_exceed.proofs.Nexts.{count-push, each-push}
use Rattle.fdr_exceed.proofs.watch.first_rules.Goals as goal

pub loop-param-preserved : goal.loop-param-preserved
loop-param-preserved c =
    let inv = c.loop-param.invariant in
    let n = c.loop-param.param in
    let more : c.push.new.self.items ≡ c.loop-param.first.items ++ c.next_of.result ∷ [] = search rules in
    record {
      count = count-push c.loop-param.first.items c.push.new.self.items n c.next_of.result inv.count more;
      each = each-push (IsNextOf c.args.rules.now 0) c.loop-param.first.items c.push.new.self.items n c.next_of.result inv.count more inv.each
          c.next_of.ensures;
    }
