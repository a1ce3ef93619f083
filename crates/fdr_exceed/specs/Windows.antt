-- The last values of a parameter, and the greatest of them.
use Rattle.std.specs.Prelude.{ℕ, ◌≡◌, ◌≤◌, ◌≤ℤ◌, ℤ, pos, neg_ℤ, int_lt, Bool, not, cond, List, [], ◌∷◌, All, map, length}
use Rattle.std.specs.List.{list_all}
use Rattle.circular_buffer.specs.Buffer.{Buffer}

-- the greatest value in size that a watch is given: 4,300,000,000,000,000,000, as every value of a parameter is within
abbrev pub most_watched : ℕ
most_watched = 4300000000000000000

-- The value is one that a watch may be given: at most 4,300,000,000,000,000,000 in size.
pub record IsWatched (v : ℤ) : Type 0 where
  pub low : neg_ℤ (pos most_watched) ≤ℤ v
  pub high : v ≤ℤ pos most_watched

-- whether x isn't over y
abbrev pub is_at_most : ℤ → ℤ → Bool
is_at_most y x = not (int_lt y x)

-- those of some values that no later one is over
abbrev pub unsurpassed : List ℤ → List ℤ
unsurpassed [] = []
unsurpassed (x ∷ xs) = cond (list_all (is_at_most x) xs) (x ∷ unsurpassed xs) (unsurpassed xs)

-- Beside the last values those are kept that no later one is over, so that their greatest is at hand.
pub record IsGreatest (values falling : Buffer ℤ) : Type 0 where
  pub some_room : 1 ≤ values.capacity
  pub within : length values.items ≤ values.capacity
  pub room : falling.capacity ≡ values.capacity
  pub falls : falling.items ≡ unsurpassed values.items
  pub watched : All IsWatched values.items

-- Beside the last values the same are kept with the other sign, so that their spread is at hand.
pub record IsWindow (high low : Buffer ℤ) : Type 0 where
  pub some_room : 1 ≤ high.capacity
  pub room : low.capacity ≡ high.capacity
  pub signs : low.items ≡ map neg_ℤ high.items
