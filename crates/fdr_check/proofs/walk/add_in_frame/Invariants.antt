use Rattle.std.proofs.Common.{◌≡◌, ◌*◌, ◌++◌}
use Rattle.std.specs.List.{flat_map, range_with_len}
use Rattle.fdr_check.specs.Walks.{subframe_slots}
use Rattle.fdr_check.proofs.walk.add_in_frame.Given as goal

abbrev pub invariant-loop-subframe : goal.invariant-loop-subframe
invariant-loop-subframe l =
    l.slots.items ≡ l.initial.slots.items ++ flat_map (subframe_slots l.words l.place) (range_with_len (4 * l.frame) l.subframe)
