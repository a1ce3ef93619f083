-- Bytes that an object may tell: Some of the bytes, or None where it keeps them to itself.
use Rattle.std.specs.Prelude.{◌≡◌, ℕ, ◌≤◌, ◌↔◌, List, [], ◌++◌, length, take, drop, Option}
use Rattle.std.specs.Option.{option_map}

-- the told bytes, and these after them; none where none are told
unfoldable pub followed_by : Option (List ℕ) → List ℕ → Option (List ℕ)
followed_by told bytes = option_map (λ before. before ++ bytes) told

-- the told bytes except for the first n; none where none are told
unfoldable pub without_first : ℕ → Option (List ℕ) → Option (List ℕ)
without_first n told = option_map (drop n) told

-- The n bytes at the front of the buffer are the next ones of what was left. There are none only at its end.
pub record Gives (left buffer : List ℕ) (n : ℕ) : Type 0 where
  pub within : n ≤ length left
  pub front : take n buffer ≡ take n left
  pub end : (n ≡ 0) ↔ (left ≡ [])

-- these bytes, and the told bytes after them; none where none are told
unfoldable pub preceded_by : List ℕ → Option (List ℕ) → Option (List ℕ)
preceded_by bytes told = option_map (λ left. bytes ++ left) told
