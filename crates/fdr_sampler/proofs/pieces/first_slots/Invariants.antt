use Rattle.std.proofs.Common.{◌≡◌, map, take}
use Rattle.fdr_sampler.specs.Held.{first_part_slot}
use Rattle.fdr_sampler.proofs.pieces.first_slots.Given as goal

abbrev pub invariant-loop-number : goal.invariant-loop-number
invariant-loop-number l = l.firsts.items ≡ map first_part_slot (take l.number l.layout.samples)
