use Rattle.std.proofs.Common.{◌≡◌, ◌-◌, true}
use Rattle.std.specs.List.{list_all, range_with_len}
use Rattle.fdr_check.specs.Soundness.{has_part}
use Rattle.fdr_check.proofs.parts.has_all_parts.Given as goal

abbrev pub invariant-loop-part : goal.invariant-loop-part
invariant-loop-part l = list_all (has_part l.places l.param) (range_with_len 1 (l.part - 1)) ≡ true
