use Rattle.std.proofs.Common.{◌≡◌, ◌≤◌, take}
use Rattle.fdr_check.specs.Faults.{last_part}
use Rattle.fdr_check.proofs.parts.last_part.Given as goal

abbrev pub invariant-loop-place : goal.invariant-loop-place
invariant-loop-place l = record {
  so_far : l.last ≡ last_part (take l.place-index l.places) l.param;
  few : l.last ≤ 4;
}
