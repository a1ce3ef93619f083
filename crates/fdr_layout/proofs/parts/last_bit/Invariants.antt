use Rattle.std.proofs.Common.{◌≡◌, take, max}
use Rattle.std.specs.List.{fold}
use Rattle.fdr_layout.specs.SlotParts.{plain_parts}
use Rattle.fdr_layout.specs.Samples.{Part}
use Rattle.fdr_layout.proofs.parts.last_bit.Given as goal

abbrev pub invariant-loop-part : goal.invariant-loop-part
invariant-loop-part l = l.last ≡ fold (λ at (q : Part). max at q.at) 0 (plain_parts (take l.part-index l.parts))
