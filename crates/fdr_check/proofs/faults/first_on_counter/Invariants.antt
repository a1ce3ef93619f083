use Rattle.std.proofs.Common.{◌≡◌, take, None}
use Rattle.std.specs.List.{find}
use Rattle.fdr_check.specs.Faults.{meets_counter}
use Rattle.fdr_check.proofs.faults.first_on_counter.Given as goal

abbrev pub invariant-loop-place : goal.invariant-loop-place
invariant-loop-place l = find (meets_counter l.frame) (take l.place-index l.places) ≡ None
