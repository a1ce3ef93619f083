use Rattle.std.proofs.Common.{◌≡◌, ℕ, List, length}
use Rattle.fdr_exceed.specs.Exceedances.{WatchStep}
use Rattle.fdr_exceed.specs.Watching.{RepresentsWatch}
use Rattle.fdr_top.proofs.WatchLines.{HasPutLines}
use Rattle.fdr_top.proofs.exceeding.write_lines.Given as goal

abbrev pub invariant-loop-line : goal.invariant-loop-line
invariant-loop-line g l = record {
  put : (steps : List WatchStep) (taken : ℕ) → RepresentsWatch l.fn.watch steps taken
      → HasPutLines (g.O.Sink.written l.fn.out) (g.O.Sink.written l.out) l.fn.buffer l.buffer l.watch steps taken;
  rules : l.watch.rules ≡ l.fn.watch.rules;
  rows : l.watch.rows ≡ l.fn.watch.rows;
  no_fault : g.O.Sink.faults l.out ≡ g.O.Sink.faults l.fn.out;
}

abbrev pub decreases-loop-line : goal.decreases-loop-line
decreases-loop-line g l = length l.watch.due
