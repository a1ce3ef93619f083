use Rattle.std.proofs.Common.{◌≡◌, ◌-◌, ◌%◌, ◌++◌}
use Rattle.fdr_check.proofs.Walking.{frames_before}
use Rattle.fdr_check.proofs.walk.add_slots.Given as goal

abbrev pub invariant-loop-frame : goal.invariant-loop-frame
invariant-loop-frame l = record {
  own : l.frame % l.place.period ≡ l.place.cycle;
  so_far : l.slots.items ≡ l.initial.slots.items ++ frames_before l.words l.place l.frame;
}

abbrev pub decreases-loop-frame : goal.decreases-loop-frame
decreases-loop-frame l = 16 - l.frame
