-- Bytes that a stream or an outlet may tell.
use Rattle.std.specs.Prelude.{ℕ, List, Bool, true, false, Option, Some, None}

-- the bytes where they are told
abbrev pub told_bytes : Bool → List ℕ → Option (List ℕ)
told_bytes true bytes = Some bytes
told_bytes false bytes = None
