use Rattle.std.proofs.Common.{◌≡◌, take}
use Rattle.fdr_sampler.specs.Kept.{owners_of}
use Rattle.fdr_sampler.proofs.owners.owners_of.Given as goal

abbrev pub invariant-loop-index : goal.invariant-loop-index
invariant-loop-index l = l.owners.items ≡ owners_of (take l.index l.params)
