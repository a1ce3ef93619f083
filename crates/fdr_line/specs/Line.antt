-- A line as its bytes.
use Rattle.std.specs.Prelude.{ℕ, ◌≤◌, List, take}
use Rattle.fdr_line.specs.declared.line.Line.TheInside.{Inside}

-- the bytes of a line of text that is put together
abbrev pub line_bytes : Inside → List ℕ
line_bytes l = take l.used l.room

-- The line has at most 96 bytes.
abbrev pub IsWithin : Inside → Type 0
IsWithin l = l.used ≤ 96
