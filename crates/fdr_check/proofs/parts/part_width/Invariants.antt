use Rattle.std.proofs.Common.{◌≡◌, take, None}
use Rattle.std.specs.List.{find}
use Rattle.fdr_check.specs.Occurrences.{is_part}
use Rattle.fdr_check.proofs.parts.part_width.Given as goal

abbrev pub invariant-loop-place : goal.invariant-loop-place
invariant-loop-place l = find (is_part l.param l.part) (take l.place-index l.places) ≡ None
