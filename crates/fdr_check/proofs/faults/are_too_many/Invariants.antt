use Rattle.std.proofs.Common.{◌≡◌, ◌≤◌, length, take}
use Rattle.fdr_check.specs.Occurrences.{occurrences}
use Rattle.fdr_check.proofs.faults.are_too_many.Given as goal

abbrev pub invariant-loop-place : goal.invariant-loop-place
invariant-loop-place l = record {
  so_far : l.total ≡ length (occurrences l.words (take l.place-index l.places));
  few : l.total ≤ 262144;
}
