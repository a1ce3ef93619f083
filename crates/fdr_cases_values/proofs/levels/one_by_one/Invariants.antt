use Rattle.std.proofs.Common.{◌≡◌, ◌≤◌, false}
use Rattle.fdr_cases_values.proofs.levels.one_by_one.Given as goal

abbrev pub invariant-loop-i : goal.invariant-loop-i
invariant-loop-i l = record {
  pushed : l.decoder.count ≡ l.i;
  going : l.decoder.ended ≡ false;
  few : l.count ≤ l.i;
}
