-- The number of slots before a time.
use Rattle.std.proofs.Common.{ℕ, ◌+◌, ◌*◌, ◌/◌, ◌<◌, ◌≤◌, arith}
use Rattle.fdr_sampler.specs.Stream.{slot_count}

below_count : (x k : ℕ) → k < (x + 999999) / 1000000 → k * 1000000 < x
below_count x k below = omega arith

above_count : (x k : ℕ) → (x + 999999) / 1000000 ≤ k → x ≤ k * 1000000
above_count x k above = omega arith

-- exactly this many slots come before the time
pub slot_count-below : (w time k : ℕ) → k < slot_count w time → k * 1000000 < time * w
slot_count-below w time k below = below_count (time * w) k below

pub slot_count-above : (w time k : ℕ) → slot_count w time ≤ k → time * w ≤ k * 1000000
slot_count-above w time k above = above_count (time * w) k above
