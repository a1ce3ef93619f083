use Rattle.std.proofs.Common.{◌+◌, ◌-◌, ◌≤◌, length}
use Rattle.fdr_lanes.specs.Syncs.{HasNoSyncInBytes}
use Rattle.fdr_lanes.proofs.search.next_candidate.Given as goal

-- the sync word begins in no byte from `at` on that is before `next`
abbrev pub invariant-loop-next : goal.invariant-loop-next
invariant-loop-next l = (l.at ≤ l.next) × (l.next + 2 ≤ length l.bytes) × HasNoSyncInBytes l.bytes l.at l.next

abbrev pub decreases-loop-next : goal.decreases-loop-next
decreases-loop-next l = length l.bytes - l.next
