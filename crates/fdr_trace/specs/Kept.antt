-- What is kept of a trace that is read from an input.
use Rattle.std.specs.Prelude.{ℕ, ◌≡◌, ◌≤◌, List, length}

-- what the reader of a trace keeps: the bytes that were pulled and not yet read, the time of the last record that was read in
-- microseconds, and how many were read
pub record TraceKept : Type 0 where
  pub waiting : List ℕ
  pub time : ℕ
  pub count : ℕ

-- What holds of every reader of a trace: its bytes have room for 4,112, which is a piece of 4,096 and less than a record before
-- it.
pub record IsTraceKept (k : TraceKept) (capacity : ℕ) : Type 0 where
  pub room : capacity ≡ 4112
  pub within : length k.waiting ≤ 4112
