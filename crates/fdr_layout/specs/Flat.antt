-- Lists that are one after another in a flat list, by where each begins and where the last ends.
use Rattle.std.specs.Prelude.{ℕ, ◌+◌, ◌-◌, ◌<◌, ◌≤◌, List, length, map, slice_index, slice_range}
use Rattle.std.specs.List.{range_with_len}

-- list k of lists that are one after another in a flat one, by where each begins and where the last ends
abbrev pub segment : {X : Type 0} → List ℕ → List X → ℕ → List X
segment starts flat k = slice_range flat (slice_index starts k) (slice_index starts (k + 1))

-- all lists that are one after another in a flat one, by where each begins and where the last ends
abbrev pub segments : {X : Type 0} → List ℕ → List X → List (List X)
segments starts flat = map (segment starts flat) (range_with_len 0 (length starts - 1))

-- The numbers say where lists begin that are one after another, and where the last ends: each is no less than the one before it
-- and none is past the end.
pub record AreStarts (starts : List ℕ) (end : ℕ) : Type 0 where
  pub not_empty : 1 ≤ length starts
  pub rise : (k : ℕ) → k + 1 < length starts → slice_index starts k ≤ slice_index starts (k + 1)
  pub within : (k : ℕ) → k < length starts → slice_index starts k ≤ end
