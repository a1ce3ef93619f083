use Rattle.std.proofs.Common.{◌≡◌, ◌≤◌, ◌-◌, ◌*◌}
use Rattle.std.specs.List.{range_with_len, sum_by}
use Rattle.fdr_check.specs.Occurrences.{part_width}
use Rattle.fdr_check.proofs.parts.whole_width.Given as goal

abbrev pub invariant-loop-part : goal.invariant-loop-part
invariant-loop-part l = record {
  so_far : l.width ≡ sum_by (part_width l.places l.param) (range_with_len 1 (l.part - 1));
  few : l.width ≤ 12 * (l.part - 1);
}
