-- The least of some numbers.
use Rattle.std.specs.Prelude.{ℕ, List, [], ◌∷◌, fold, min, Option, Some, None}

-- the least of them, if there is one
abbrev pub least_number : List ℕ → Option ℕ
least_number [] = None
least_number (k ∷ ks) = Some (fold min k ks)
