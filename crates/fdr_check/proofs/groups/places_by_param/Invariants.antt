use Rattle.std.proofs.Common.{◌≡◌, take}
use Rattle.fdr_check.specs.Groups.{grouped}
use Rattle.fdr_check.proofs.groups.places_by_param.Given as goal

abbrev pub invariant-loop-place : goal.invariant-loop-place
invariant-loop-place l = l.groups.items ≡ grouped (take l.place-index l.places) l.count
