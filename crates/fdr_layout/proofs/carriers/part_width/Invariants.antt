use Rattle.std.proofs.Common.{◌≡◌, None, take}
use Rattle.std.specs.List.{find}
use Rattle.fdr_check.specs.Occurrences.{is_part}
use Rattle.fdr_layout.proofs.carriers.part_width.Given as goal

abbrev pub invariant-loop-place : goal.invariant-loop-place
invariant-loop-place l = find (is_part l.param l.part) (take l.place-index l.places) ≡ None
