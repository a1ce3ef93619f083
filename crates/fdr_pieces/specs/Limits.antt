-- How much of an input is taken.
use Rattle.std.specs.Prelude.{ℕ}

-- how many bytes of an input are taken at most: 268,435,456
abbrev pub most_input_bytes : ℕ
most_input_bytes = 268435456
