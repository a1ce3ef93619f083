-- Counts of faults.
use Rattle.std.specs.Prelude.{ℕ, ◌+◌, ◌-◌, ◌^◌, ◌≤◌, min}

-- a count one higher, up to 2^64 - 1
abbrev pub next_count : ℕ → ℕ
next_count n = min (n + 1) (2 ^ 64 - 1)

-- A count of faults went up, or it is at 2^64 - 1.
abbrev pub Rose : ℕ → ℕ → Type 0
Rose before now = next_count before ≤ now
