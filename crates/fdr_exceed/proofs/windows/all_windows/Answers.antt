use Rattle.std.proofs.Common.{◌≡◌, ℕ, [], sym, subst, length, List, arith}
use Rattle.fdr_recon.specs.declared.Row.{Row}
use Rattle.std.specs.Prelude.{slice_index}
use Rattle.fdr_exceed.specs.Exceedances.{values_of}
use Rattle.fdr_exceed.specs.Watching.{HasWindow, HaveWindows, rule_at, window_at}
use Rattle.fdr_exceed.proofs.Sharing.{have-none}
use Rattle.fdr_exceed.proofs.Stepping.{rows-before}
use Rattle.fdr_exceed.proofs.windows.all_windows.Goals as goal

pub loop-i-init : goal.loop-i-init
loop-i-init c =
    let rules = c.args.rules.now in
    subst (λ ws. HaveWindows rules 0 ws c.new-sources.result.items) (sym c.new-windows.ensures.items)
    (subst (λ (ss : List ℕ). HaveWindows rules 0 [] ss) (sym c.new-sources.ensures.items) (have-none rules))

pub returns : goal.returns
returns c =
    let rules = c.args.rules.now in
    let had = c.loop-i.invariant in
    let all : c.loop-i.i ≡ length rules = omega (arith, c.loop-i-test.false, c.loop-i.auto.i-end) in
    record {
      count = omega (arith, had.count, all);
      sources = record {
        count = omega (arith, had.places, all);
        within = λ k low. had.within k (omega (arith, low, all));
        own = λ k low. had.own k (omega (arith, low, all));
        kind = λ k low. had.kind k (omega (arith, low, all));
        same = λ k low. had.same k (omega (arith, low, all));
      };
      windows = λ k low. subst (λ (rows : List Row). HasWindow (rule_at rules k).kind (rule_at rules k).count
          (window_at c.loop-i.windows.items (slice_index c.loop-i.sources.items k)) (values_of rows)) (sym (rows-before (rule_at rules k)))
          (had.has k (omega (arith, low, all)));
    }
