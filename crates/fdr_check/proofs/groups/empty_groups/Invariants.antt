use Rattle.std.proofs.Common.{◌≡◌, []}
use Rattle.fdr_check.specs.Groups.{grouped}
use Rattle.fdr_check.proofs.groups.empty_groups.Given as goal

abbrev pub invariant-loop-index : goal.invariant-loop-index
invariant-loop-index l = l.groups.items ≡ grouped [] l._index
