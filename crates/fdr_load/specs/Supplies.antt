-- What a table's source or an input gives.
use Rattle.std.specs.Prelude.{◌&&◌, ℕ, nat_le, Bool, List, length}

-- what a table's source or an input gives: these bytes, and after them a read that failed, or none that did
pub record Supplied : Type 0 where
  pub bytes : List ℕ
  pub failed : Bool

-- whether a read failed before more than `most` bytes came
abbrev pub fails_within : ℕ → Supplied → Bool
fails_within most s = s.failed && nat_le (length s.bytes) most
