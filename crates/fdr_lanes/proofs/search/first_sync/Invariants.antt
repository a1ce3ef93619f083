use Rattle.std.proofs.Common.{ℕ, suc, ◌-◌, ◌≤◌, ◌<◌}
use Rattle.fdr_lanes.specs.Syncs.{IsSyncPosition}
use Rattle.fdr_lanes.proofs.search.first_sync.Given as goal

-- no sync word begins before p
abbrev pub invariant-loop-p : goal.invariant-loop-p
invariant-loop-p l = (l.from ≤ l.p) × ((q : ℕ) → l.from ≤ q → q < l.p → ¬ IsSyncPosition l.bytes q)

abbrev pub decreases-loop-p : goal.decreases-loop-p
decreases-loop-p l = suc l.last - l.p
