use Rattle.std.proofs.Common.{◌≢◌, ℕ, ◌<◌, ◌≤◌}
use Rattle.fdr_exceed.specs.Watching.{rule_at}
use Rattle.fdr_exceed.proofs.watch.next_of.Given as goal

abbrev pub invariant-loop-i : goal.invariant-loop-i
invariant-loop-i l = (k : ℕ) → l.start ≤ k → k < l.i → (rule_at l.rules k).param ≢ l.param
