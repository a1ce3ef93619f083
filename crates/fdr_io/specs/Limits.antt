-- How much is asked for at a time.
use Rattle.std.specs.Prelude.{ℕ}

-- how many bytes of a source or of an input are asked for at a time, at most: 4,096
abbrev pub piece_bytes : ℕ
piece_bytes = 4096
