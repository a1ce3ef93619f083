-- What is written where a number is announced.
use Rattle.std.specs.Prelude.{ℕ, List, ◌++◌, codes, decimal}

-- the line `ack COUNT` of an announced number
abbrev pub ack_text : ℕ → List ℕ
ack_text count = codes "ack " ++ decimal count ++ codes "\n"
