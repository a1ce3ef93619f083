use Rattle.std.proofs.Common.{◌≡◌, ℕ, ◌+◌, ◌<◌, length}
use Rattle.std.specs.Prelude.{slice_index}
use Rattle.fdr_exceed.specs.Watching.{IsNextOf, rule_at}
use Rattle.fdr_exceed.proofs.watch.next_rules.Given as goal

abbrev pub invariant-loop-i : goal.invariant-loop-i
invariant-loop-i l = record {
  count : length l.next.items ≡ l.i;
  each : (k : ℕ) → k < l.i → IsNextOf l.rules (k + 1) (rule_at l.rules k).param (slice_index l.next.items k);
}
