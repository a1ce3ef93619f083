use Rattle.std.proofs.Common.{◌≡◌, ◌++◌, map}
use Rattle.std.specs.List.{range_with_len}
use Rattle.fdr_sampler.proofs.owners.add_owner.Given as goal

abbrev pub invariant-loop-index : goal.invariant-loop-index
invariant-loop-index l = l.owners.items ≡ l.initial.owners.items ++ map (λ _. l.param) (range_with_len 0 l._index)
