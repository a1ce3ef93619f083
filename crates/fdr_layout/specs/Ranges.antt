-- The ranges that the places of parts keep.
use Rattle.std.specs.Prelude.{ℕ, ◌+◌, ◌%◌, ◌<◌, ◌≤◌}

-- So many bits, the lowest of which is bit `at` of a superframe, lie in one word of it. A superframe has at most 65,536 words of
-- 12 bits.
pub record LieInWord (at width : ℕ) : Type 0 where
  pub within : at < 786432
  pub not_empty : 1 ≤ width
  pub bits : at % 12 + width ≤ 12

-- The numbers of a part keep their ranges: its bits, counted from 1, lie in one word slot, and at most 36 bits of the raw value
-- are below it, which are three parts of 12.
pub record IsPart (slot lsb width shift : ℕ) : Type 0 where
  pub within : slot < 65536
  pub low : 1 ≤ lsb
  pub not_empty : 1 ≤ width
  pub high : lsb + width ≤ 13
  pub shift_limit : shift ≤ 36
