-- What is sent so far went out, and no fault was counted.
use Rattle.std.proofs.Common.{◌≡◌, ◌-◌, ◌≤◌, length, take}
use Rattle.fdr_io.specs.Told.{followed_by}
use Rattle.fdr_io.proofs.sinks.write_whole.Given as goal

abbrev pub invariant-loop-sent : goal.invariant-loop-sent
invariant-loop-sent g l = record {
  within : l.sent ≤ length l.bytes;
  gone : g.S.Sink.written l.out ≡ followed_by (g.S.Sink.written l.initial.out) (take l.sent l.bytes);
  no_fault : g.S.Sink.faults l.out ≡ g.S.Sink.faults l.initial.out;
}

abbrev pub decreases-loop-sent : goal.decreases-loop-sent
decreases-loop-sent g l = length l.bytes - l.sent
