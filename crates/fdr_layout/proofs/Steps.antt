-- Samples added one by one.
use Rattle.std.proofs.Common.{◌≡◌, ℕ, List, map, refl}
use Rattle.std.specs.List.{filter_map, range_with_len}
use Rattle.fdr_table.specs.Rows.{PlaceRow}
use Rattle.fdr_layout.specs.Samples.{carrier_of, part_at, parts_of}

-- a sample's parts are those of the four carriers
pub parts_of_carriers : (w : ℕ) (places : List PlaceRow) (n i : ℕ)
    → filter_map (part_at i) (map (carrier_of w places n) (range_with_len 1 4)) ≡ parts_of w places n i
unfolding parts_of
parts_of_carriers w places n i = refl
