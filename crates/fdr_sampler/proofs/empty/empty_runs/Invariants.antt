use Rattle.std.proofs.Common.{◌≡◌, ◌-◌, ◌≤◌, ℕ, length, get_or}
use Rattle.fdr_sampler.specs.Empty.{IsEmptyRun}
use Rattle.fdr_sampler.proofs.empty.empty_runs.Given as goal

abbrev pub invariant-loop-slots_after : goal.invariant-loop-slots_after
invariant-loop-slots_after l = record {
  long : length l.runs.items ≡ l.count;
  each : (k : ℕ) → l.count - l.slots_after ≤ k → IsEmptyRun l.frame l.layout k (get_or l.runs.items k 0);
  run : IsEmptyRun l.frame l.layout (l.count - l.slots_after) l.run;
  few : l.run ≤ l.slots_after;
}
