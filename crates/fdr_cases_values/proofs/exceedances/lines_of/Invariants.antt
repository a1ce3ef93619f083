use Rattle.std.proofs.Common.{◌≡◌, ◌≤◌, []}
use Rattle.fdr_cases_values.proofs.exceedances.lines_of.Given as goal

abbrev pub invariant-loop-step : goal.invariant-loop-step
invariant-loop-step g l = record {
  drained : l.watch.due ≡ [];
  few : l.watch.rows ≤ l.step-index;
}
