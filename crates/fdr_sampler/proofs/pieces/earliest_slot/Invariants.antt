use Rattle.std.proofs.Common.{◌≡◌, ◌/◌, take}
use Rattle.fdr_layout.specs.SlotParts.{plain_parts}
use Rattle.fdr_layout.specs.Samples.{earliest_of}
use Rattle.fdr_sampler.proofs.pieces.earliest_slot.Given as goal

abbrev pub invariant-loop-part : goal.invariant-loop-part
invariant-loop-part l = l.earliest ≡ earliest_of l.first.part.at (plain_parts (take l.part-index l.parts)) / 12
