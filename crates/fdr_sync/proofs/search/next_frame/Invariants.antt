use Rattle.std.proofs.Common.{ℕ, ◌≤◌, ◌<◌}
use Rattle.fdr_sync.specs.Frames.{IsFramePosition}
use Rattle.fdr_sync.proofs.search.next_frame.Given as goal

-- no frame begins before p
abbrev pub invariant-loop-p : goal.invariant-loop-p
invariant-loop-p l = (q : ℕ) → l.from ≤ q → q < l.p → ¬ IsFramePosition l.bytes l.words q
