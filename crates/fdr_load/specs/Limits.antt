-- How much of a table's source is read.
use Rattle.std.specs.Prelude.{◌≡◌, ◌≤◌, ℕ, List, length, Option}
use Rattle.fdr_io.specs.Told.{preceded_by}

-- Of what a source had left, at most n bytes were taken from its front.
abbrev pub TakesAtMost : ℕ → Option (List ℕ) → Option (List ℕ) → Type 0
TakesAtMost n old new = (taken : List ℕ) × (length taken ≤ n) × (old ≡ preceded_by taken new)
