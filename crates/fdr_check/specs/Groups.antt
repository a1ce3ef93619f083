-- The places of a table by parameter.
use Rattle.std.specs.Prelude.{ℕ, ◌==◌, List, map, filter}
use Rattle.std.specs.List.{range_with_len}
use Rattle.fdr_table.specs.Rows.{PlaceRow}

-- the places of the parameter with index n
abbrev pub places_of : List PlaceRow → ℕ → List PlaceRow
places_of places n = filter (λ (p : PlaceRow). p.param == n) places

-- the places of each of the first `count` parameters
abbrev pub grouped : List PlaceRow → ℕ → List (List PlaceRow)
grouped places count = map (places_of places) (range_with_len 0 count)
