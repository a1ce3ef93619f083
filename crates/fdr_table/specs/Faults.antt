-- The faults of a table's rows, in the order of their numbers.
use Rattle.std.specs.Prelude.{ℕ, Bool, not, nat_le, nat_lt, if◌then◌else◌, List, [], ◌∷◌, length, map, filter, take, bytes_eq, slice_index_or, Option, Some}
use Rattle.std.specs.Prelude.{None, option_map}
use Rattle.std.specs.Option.{option_map_or}
use Rattle.std.specs.List.{list_any, range_with_len}
use Rattle.fdr_table.specs.Bounds.{most_table_bytes, most_params, most_places}
use Rattle.fdr_table.specs.Reading.{Row, records_of, field, row_kind, is_frame, is_param, is_place, first_some, frame_misread, param_misread, place_misread}
use Rattle.fdr_table.specs.Reading.{misnamed, names_of}
use Rattle.fdr_table.specs.declared.row.RowKind.{RowKind}
use Rattle.fdr_table.specs.declared.row.RowKind.TheVariants as kind
use Rattle.fdr_table.specs.declared.fault.TableFault.{TableFault}
use Rattle.fdr_table.specs.declared.fault.TableFault.TheVariants as fault

-- the fault, where the fact holds
abbrev pub where_true : Bool → TableFault → Option TableFault
where_true b f = if b then Some f else None

-- whether one of the rows is a frame row
abbrev pub has_frame : List Row → Bool
has_frame rows = list_any (λ (fields : Row). is_frame (row_kind fields)) rows

-- whether one of the parameters' rows has this name
abbrev pub has_name : List Row → List ℕ → Bool
has_name rows name = list_any (λ other. bytes_eq other name) (names_of rows)

-- how many of the rows are parameters' rows
abbrev pub param_count : List Row → ℕ
param_count rows = length (filter (λ (fields : Row). is_param (row_kind fields)) rows)

-- how many of the rows are places' rows
abbrev pub place_count : List Row → ℕ
place_count rows = length (filter (λ (fields : Row). is_place (row_kind fields)) rows)

-- the first fault of a row of this kind below the rows `above`, in the order of the faults' numbers
abbrev pub kind_fault : List Row → Row → RowKind → Option TableFault
kind_fault above fields kind.Frame = first_some (
    frame_misread fields
    ∷ where_true (has_frame above) fault.TwoFrames ∷ [])
kind_fault above fields kind.Param = first_some (
    param_misread fields
    ∷ where_true (not (has_frame above)) fault.NoFrame
    ∷ misnamed fields
    ∷ where_true (has_name above (field fields 1)) fault.Twice
    ∷ where_true (nat_le most_params (param_count above)) fault.Size ∷ [])
kind_fault above fields kind.Place = first_some (
    place_misread fields
    ∷ where_true (not (has_frame above)) fault.NoFrame
    ∷ where_true (not (has_name above (field fields 1))) fault.Unknown
    ∷ where_true (nat_le most_places (place_count above)) fault.Size ∷ [])

-- the first fault of a row below the rows `above`, in the order of the faults' numbers
abbrev pub row_fault : List Row → Row → Option TableFault
row_fault above fields = option_map_or (kind_fault above fields) (row_kind fields) (Some fault.Shape)

-- the first row with a fault, counted from 0, and its fault; a table with no row has no frame row
abbrev pub first_fault : List Row → Option (ℕ × TableFault)
first_fault [] = Some (0, fault.NoFrame)
first_fault (first ∷ rest) =
    let rows = first ∷ rest in
    first_some (map (λ i. option_map (λ f. (i, f)) (row_fault (take i rows) (slice_index_or rows i []))) (range_with_len 0 (length rows)))

-- the first of the faults 1 to 8 of a table's bytes, and its row: too many bytes come before the rows
unfoldable pub table_bytes_fault : List ℕ → Option (ℕ × TableFault)
table_bytes_fault bytes = if nat_lt most_table_bytes (length bytes) then Some (0, fault.Size) else first_fault (records_of bytes)
