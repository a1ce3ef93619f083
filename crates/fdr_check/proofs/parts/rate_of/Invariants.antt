use Rattle.std.proofs.Common.{◌≡◌, ℕ, ◌≤◌, ◌<◌, ◌&&◌, ◌==◌, not, false}
use Rattle.fdr_check.specs.Soundness.{has_part}
use Rattle.fdr_check.specs.Faults.{count_of}
use Rattle.fdr_check.proofs.parts.rate_of.Given as goal

abbrev pub invariant-loop-part : goal.invariant-loop-part
invariant-loop-part l = (k : ℕ) → 1 ≤ k → k < l.part → (has_part l.places l.index k && not (count_of l.words l.places l.index k == l.param.rate)) ≡ false
