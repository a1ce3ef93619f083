use Rattle.std.proofs.Common.{◌≡◌, take, false}
use Rattle.std.specs.List.{list_any}
use Rattle.fdr_check.specs.Occurrences.{is_part}
use Rattle.fdr_check.proofs.parts.has_part.Given as goal

abbrev pub invariant-loop-place : goal.invariant-loop-place
invariant-loop-place l = list_any (is_part l.param l.part) (take l.place-index l.places) ≡ false
