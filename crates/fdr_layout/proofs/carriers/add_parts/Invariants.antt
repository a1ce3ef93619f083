use Rattle.std.proofs.Common.{◌≡◌, ◌++◌, take}
use Rattle.std.specs.List.{filter_map}
use Rattle.fdr_layout.specs.Samples.{part_at}
use Rattle.fdr_layout.specs.SlotParts.{parts_of_sample}
use Rattle.fdr_layout.proofs.carriers.add_parts.Given as goal

abbrev pub invariant-loop-carrier : goal.invariant-loop-carrier
invariant-loop-carrier l =
    l.parts.items ≡ l.initial.parts.items ++ parts_of_sample l.number (filter_map (part_at l.index) (take l.carrier-index l.carriers))
