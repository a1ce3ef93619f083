use Rattle.std.proofs.Common.{◌≡◌, length}
use Rattle.fdr_cases_values.proofs.exceedances.drain.Given as goal

abbrev pub invariant-loop-line : goal.invariant-loop-line
invariant-loop-line g l = l.watch.rows ≡ l.initial.watch.rows

abbrev pub decreases-loop-line : goal.decreases-loop-line
decreases-loop-line g l = length l.watch.due
