-- The table of the rows above a row.
use Rattle.std.specs.Prelude.{◌≡◌, ◌<◌, ◌≤◌, ◌+◌, ℕ, true, List, [], ◌∷◌, ◌++◌, length, All, map, take, bytes_eq, slice_index_or, Option, Some, None, IfSome}
use Rattle.std.specs.Prelude.{is_some, position}
use Rattle.fdr_table.specs.Bounds.{most_params, most_places}
use Rattle.fdr_table.specs.Rows.{ParamRow, PlaceRow}
use Rattle.fdr_table.specs.Ranges.{HaveOwnNames, IsFrameInRange, IsPlaceInRange}
use Rattle.fdr_table.specs.Reading.{Row, field, first_some, frame_row, is_place, row_kind, names_of, table_of}
use Rattle.fdr_table.specs.Faults.{has_frame, has_name, place_count, row_fault}
use Rattle.fdr_table.specs.declared.draft.Entry.{Entry}
use Rattle.fdr_table.specs.declared.draft.Entry.TheVariants as entry
use Rattle.fdr_table.specs.declared.fault.TableFault.{TableFault}
use Rattle.fdr_table.specs.DraftRows.{DraftRows}

-- the index of the parameter with this name, if there is one
abbrev pub index_named : List ParamRow → List ℕ → Option ℕ
index_named params name = position (λ (p : ParamRow). bytes_eq p.name name) params

-- what the rows so far say, and what one more row says
abbrev pub with_entry : DraftRows → Entry → DraftRows
with_entry d (entry.Frame f) = record d { frame = Some f; rows = d.rows + 1 }
with_entry d (entry.Param p) = record d { params = d.params ++ p ∷ []; rows = d.rows + 1 }
with_entry d (entry.Place l) = record d { places = d.places ++ l ∷ []; rows = d.rows + 1 }

-- The rows above have no faults, and the draft is what they say.
pub record IsDraft (above : List Row) (d : DraftRows) : Type 0 where
  pub no_fault : (i : ℕ) → i < length above → row_fault (take i above) (slice_index_or above i []) ≡ None
  pub frame : first_some (map frame_row above) ≡ d.frame
  pub frame_there : has_frame above ≡ is_some d.frame
  pub params : (table_of above).params ≡ d.params
  pub names : names_of above ≡ map (λ (p : ParamRow). p.name) d.params
  pub places : (table_of above).places ≡ d.places
  pub count : place_count above ≡ length d.places
  pub named : All (λ (fields : Row). is_place (row_kind fields) ≡ true → has_name above (field fields 1) ≡ true) above
  pub rows : length above ≡ d.rows
  pub own_names : HaveOwnNames d.params
  pub few_params : length d.params ≤ most_params
  pub few_places : length d.places ≤ most_places

-- This is the fault of the row below rows of which the draft is what they say.
abbrev pub IsNextFault : DraftRows → Row → TableFault → Type 0
IsNextFault d row f = (above : List Row) → IsDraft above d → row_fault above row ≡ Some f

-- The second draft is what rows say with this row, where the first is what they say without it.
abbrev pub IsNextDraft : DraftRows → Row → DraftRows → Type 0
IsNextDraft d row next = (above : List Row) → IsDraft above d → IsDraft (above ++ row ∷ []) next

-- What a further row says may be added: a parameter with a new name where there are fewer than `most_params`, or a place of one
-- of the parameters.
abbrev pub Fits : DraftRows → Entry → Type 0
Fits d (entry.Frame f) = Unit {0}
Fits d (entry.Param p) = (index_named d.params p.name ≡ None) × (length d.params < most_params)
Fits d (entry.Place l) = l.param < length d.params

-- The frame row and the places that were read so far keep their ranges, and each place is one of a parameter that was read.
pub record IsDraftInRange (d : DraftRows) : Type 0 where
  pub frame : IfSome d.frame IsFrameInRange
  pub places : All IsPlaceInRange d.places
  pub owners : All (λ (l : PlaceRow). l.param < length d.params) d.places
