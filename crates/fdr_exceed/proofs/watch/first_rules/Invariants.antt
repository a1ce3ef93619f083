use Rattle.std.proofs.Common.{◌≡◌, ℕ, ◌<◌, length}
use Rattle.std.specs.Prelude.{slice_index}
use Rattle.fdr_exceed.specs.Watching.{IsNextOf}
use Rattle.fdr_exceed.proofs.watch.first_rules.Given as goal

abbrev pub invariant-loop-param : goal.invariant-loop-param
invariant-loop-param l = record {
  count : length l.first.items ≡ l.param;
  each : (p : ℕ) → p < l.param → IsNextOf l.rules 0 p (slice_index l.first.items p);
}
