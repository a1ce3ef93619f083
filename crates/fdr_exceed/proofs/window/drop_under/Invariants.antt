use Rattle.std.proofs.Common.{◌≡◌, ◌≤◌, length}
use Rattle.fdr_exceed.proofs.Falling.{IsFalling, not_under}
use Rattle.fdr_exceed.proofs.window.drop_under.Given as goal

abbrev pub invariant-loop-falling : goal.invariant-loop-falling
invariant-loop-falling l = record {
  kept : not_under l.value l.falling.items ≡ not_under l.value l.initial.falling.items;
  falls : IsFalling l.initial.falling.items → IsFalling l.falling.items;
  fewer : length l.falling.items ≤ length l.initial.falling.items;
  room : l.falling.capacity ≡ l.initial.falling.capacity;
}

abbrev pub decreases-loop-falling : goal.decreases-loop-falling
decreases-loop-falling l = length l.falling.items
