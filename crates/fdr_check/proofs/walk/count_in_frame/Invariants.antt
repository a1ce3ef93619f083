use Rattle.std.proofs.Common.{◌*◌, ◌≤◌}
use Rattle.fdr_check.proofs.Walking.{CountsFrames}
use Rattle.fdr_check.proofs.walk.count_in_frame.Given as goal

abbrev pub invariant-loop-subframe : goal.invariant-loop-subframe
invariant-loop-subframe l = record {
  so_far : CountsFrames l.words l.place l.subframe l.count;
  few : l.count ≤ 1024 * l.subframe;
}
