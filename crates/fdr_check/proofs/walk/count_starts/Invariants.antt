use Rattle.std.proofs.Common.{◌≡◌, ◌-◌, ◌*◌, ◌%◌, ◌≤◌, length}
use Rattle.fdr_check.proofs.Walking.{frames_before}
use Rattle.fdr_check.proofs.walk.count_starts.Given as goal

abbrev pub invariant-loop-frame : goal.invariant-loop-frame
invariant-loop-frame l = record {
  own : l.frame % l.place.period ≡ l.place.cycle;
  few : l.count ≤ 4096 * l.frame;
  so_far : l.count ≡ length (frames_before l.words l.place l.frame);
}

abbrev pub decreases-loop-frame : goal.decreases-loop-frame
decreases-loop-frame l = 16 - l.frame
