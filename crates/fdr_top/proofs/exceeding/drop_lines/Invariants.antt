use Rattle.std.proofs.Common.{◌≡◌, length}
use Rattle.fdr_top.proofs.exceeding.drop_lines.Given as goal

abbrev pub invariant-loop : goal.invariant-loop
invariant-loop l = record {
  rules : l.watch.rules ≡ l.initial.watch.rules;
  rows : l.watch.rows ≡ l.initial.watch.rows;
}

abbrev pub decreases-loop : goal.decreases-loop
decreases-loop l = length l.watch.due
