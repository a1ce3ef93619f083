use Rattle.std.proofs.Common.{◌≡◌, ℕ, ◌<◌, ◌≤◌}
use Rattle.fdr_exceed.specs.Watching.{cleared, window_at}
use Rattle.fdr_exceed.proofs.windows.clear_windows.Given as goal

abbrev pub invariant-loop-i : goal.invariant-loop-i
invariant-loop-i l = record {
  done : (j : ℕ) → j < l.i → window_at l.windows j ≡ cleared (window_at l.initial.windows j);
  rest : (j : ℕ) → l.i ≤ j → window_at l.windows j ≡ window_at l.initial.windows j;
}
