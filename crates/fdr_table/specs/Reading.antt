-- What the rows of a table say. Rows and fields are numbered from 0; field 0 is the letter.
use Rattle.std.specs.Prelude.{ℕ, ◌+◌, ◌-◌, ◌==◌, ◌&&◌, ◌||◌, Bool, true, false, if◌then◌else◌, List, [], ◌∷◌, length, codes, bytes_eq, slice_index_or}
use Rattle.std.specs.Prelude.{map, filter, filter_map, ℤ, pos, Option, Some, None, is_none, unwrap_or, position}
use Rattle.std.specs.List.{enumerate_from}
use Rattle.csv.specs.Reading.{default_config, records, strip_bom}
use Rattle.fdr_table.specs.Rows.{FrameRow, ParamRow, PlaceRow, TableRows}
use Rattle.fdr_table.specs.Bounds.{most_words, subframe_count, least_counter_word, frame_word_bits, most_parts, periods}
use Rattle.fdr_table.specs.Bounds.{bus_word_bits, most_bus, most_scale, most_offset, most_decimals, most_rate}
use Rattle.fdr_table.specs.Fields.{number_in, number_among, word_count_of, signed_within, label_field, sdi_field, subframes_of, age_field, is_name}
use Rattle.fdr_table.specs.Fields.{sign_of, is_signed, is_telling}
use Rattle.fdr_table.specs.declared.sign.Sign.{Sign}
use Rattle.fdr_table.specs.declared.sign.Sign.TheVariants as sign
use Rattle.fdr_table.specs.declared.row.RowKind.{RowKind}
use Rattle.fdr_table.specs.declared.row.RowKind.TheVariants as kind
use Rattle.fdr_table.specs.declared.fault.TableFault.{TableFault}
use Rattle.fdr_table.specs.declared.fault.TableFault.TheVariants as fault

-- a row of a table, as its fields
abbrev pub Row : Type 0
Row = List (List ℕ)

-- the rows of a table's bytes: the CSV records of the text, as the crate `csv` defines them, without a header, after a byte order
-- mark if there is one
unfoldable pub records_of : List ℕ → List Row
records_of bytes = records default_config (strip_bom bytes)

-- field i of a row, counted from 0, and empty where the row has no such field
unfoldable pub field : Row → ℕ → List ℕ
field fields i = slice_index_or fields i []

-- the kind of a row, by its letter and its number of fields: `F` rows have 4 fields, `P` rows have 13 or 14, `L` rows have 10;
-- any other row is of no kind
unfoldable pub row_kind : Row → Option RowKind
row_kind fields =
    if bytes_eq (field fields 0) (codes "F") && (length fields == 4) then Some kind.Frame
    else if bytes_eq (field fields 0) (codes "P") && (length fields == 13 || length fields == 14) then Some kind.Param
    else if bytes_eq (field fields 0) (codes "L") && (length fields == 10) then Some kind.Place
    else None

-- whether a row of this kind is a frame row
abbrev pub is_frame : Option RowKind → Bool
is_frame None = false
is_frame (Some kind.Frame) = true
is_frame (Some kind.Param) = false
is_frame (Some kind.Place) = false

-- whether a row of this kind is a parameter's
abbrev pub is_param : Option RowKind → Bool
is_param None = false
is_param (Some kind.Frame) = false
is_param (Some kind.Param) = true
is_param (Some kind.Place) = false

-- whether a row of this kind is a place's
abbrev pub is_place : Option RowKind → Bool
is_place None = false
is_place (Some kind.Frame) = false
is_place (Some kind.Param) = false
is_place (Some kind.Place) = true

-- the first of these that is there
abbrev pub first_some : {A : Type 0} → List (Option A) → Option A
first_some [] = None
first_some (None ∷ rest) = first_some rest
first_some (Some a ∷ rest) = Some a

-- the fault that field i is wrong, where what it should say isn't there
abbrev pub misread : {A : Type 0} → ℕ → Option A → Option TableFault
misread i None = Some (fault.Number i)
misread i (Some a) = None

-- the highest cycle of a period: one below it, or 15 where the period doesn't read
abbrev pub last_cycle : Option ℕ → ℕ
last_cycle None = 15
last_cycle (Some period) = period - 1

-- how many bits of a word of `size` bits there are from the lowest bit on, or all of them where that doesn't read
abbrev pub bits_from : ℕ → Option ℕ → ℕ
bits_from size None = size
bits_from size (Some lsb) = size + 1 - lsb

-- field 1 of a frame row: the words in a subframe
abbrev pub words_in : Row → Option ℕ
words_in fields = word_count_of (field fields 1)

-- field 2 of a frame row: the word that carries the frame counter
abbrev pub cword_in : Row → Option ℕ
cword_in fields = number_in least_counter_word most_words (field fields 2)

-- field 3 of a frame row: the subframe that carries the frame counter
abbrev pub csub_in : Row → Option ℕ
csub_in fields = number_in 1 subframe_count (field fields 3)

-- the first field of a frame row that isn't right
unfoldable pub frame_misread : Row → Option TableFault
frame_misread fields = first_some (
    misread 1 (words_in fields)
    ∷ misread 2 (cword_in fields)
    ∷ misread 3 (csub_in fields) ∷ [])

-- what a frame row says, where none of its fields is wrong
unfoldable pub frame_row : Row → Option FrameRow
frame_row fields =
    if is_frame (row_kind fields) && is_none (frame_misread fields) then Some (record {
      words = unwrap_or (words_in fields) 0;
      cword = unwrap_or (cword_in fields) 0;
      csub = unwrap_or (csub_in fields) 0;
    }) else None

-- field 2 of a parameter's row: the bus
abbrev pub bus_in : Row → Option ℕ
bus_in fields = number_in 0 most_bus (field fields 2)

-- field 3 of a parameter's row: the label
abbrev pub label_in : Row → Option ℕ
label_in fields = label_field (field fields 3)

-- field 4 of a parameter's row: the SDI, or any
abbrev pub sdi_in : Row → Option (Option ℕ)
sdi_in fields = sdi_field (field fields 4)

-- field 5 of a parameter's row: its lowest bit in a bus word, 1 to 32
abbrev pub bus_lsb_in : Row → Option ℕ
bus_lsb_in fields = number_in 1 bus_word_bits (field fields 5)

-- field 6 of a parameter's row: how many bits it has in a bus word
abbrev pub bus_width_in : Row → Option ℕ
bus_width_in fields = number_in 1 (bits_from bus_word_bits (bus_lsb_in fields)) (field fields 6)

-- field 7 of a parameter's row: its sign
abbrev pub sign_in : Row → Option Sign
sign_in fields = sign_of (unwrap_or (bus_width_in fields) 0) (field fields 7)

-- field 8 of a parameter's row: the numerator of its scale
abbrev pub num_in : Row → Option ℤ
num_in fields = signed_within most_scale (field fields 8)

-- field 9 of a parameter's row: the denominator of its scale
abbrev pub den_in : Row → Option ℕ
den_in fields = number_in 1 most_scale (field fields 9)

-- field 10 of a parameter's row: its offset
abbrev pub offset_in : Row → Option ℤ
offset_in fields = signed_within most_offset (field fields 10)

-- field 11 of a parameter's row: how many digits after the point its values have
abbrev pub decimals_in : Row → Option ℕ
decimals_in fields = number_in 0 most_decimals (field fields 11)

-- field 12 of a parameter's row: how many samples of it a superframe has
abbrev pub rate_in : Row → Option ℕ
rate_in fields = number_in 1 most_rate (field fields 12)

-- field 13 of a parameter's row: for how many microseconds its word counts as fresh, or for ever
abbrev pub age_in : Row → Option (Option ℕ)
age_in fields = age_field (field fields 13)

-- the first field of a parameter's row that isn't right, the name aside
unfoldable pub param_misread : Row → Option TableFault
param_misread fields = first_some (
    misread 2 (bus_in fields)
    ∷ misread 3 (label_in fields)
    ∷ misread 4 (sdi_in fields)
    ∷ misread 5 (bus_lsb_in fields)
    ∷ misread 6 (bus_width_in fields)
    ∷ misread 7 (sign_in fields)
    ∷ misread 8 (num_in fields)
    ∷ misread 9 (den_in fields)
    ∷ misread 10 (offset_in fields)
    ∷ misread 11 (decimals_in fields)
    ∷ misread 12 (rate_in fields)
    ∷ misread 13 (age_in fields) ∷ [])

-- the fault of a parameter's row whose name isn't one that is allowed
unfoldable pub misnamed : Row → Option TableFault
misnamed fields = if is_name (field fields 1) then None else Some fault.Name

-- what a parameter's row says, as row `number` of its table, where none of its fields is wrong
unfoldable pub param_row : ℕ → Row → Option ParamRow
param_row number fields =
    if is_param (row_kind fields) && is_none (first_some (param_misread fields ∷ misnamed fields ∷ [])) then Some (record {
      name = field fields 1;
      bus = unwrap_or (bus_in fields) 0;
      label = unwrap_or (label_in fields) 0;
      sdi = unwrap_or (sdi_in fields) None;
      lsb = unwrap_or (bus_lsb_in fields) 0;
      width = unwrap_or (bus_width_in fields) 0;
      signed = is_signed (unwrap_or (sign_in fields) sign.Unsigned);
      num = unwrap_or (num_in fields) (pos 0);
      den = pos (unwrap_or (den_in fields) 0);
      offset = unwrap_or (offset_in fields) (pos 0);
      decimals = unwrap_or (decimals_in fields) 0;
      rate = unwrap_or (rate_in fields) 0;
      age = unwrap_or (age_in fields) None;
      tells = is_telling (unwrap_or (sign_in fields) sign.Unsigned);
      row = number;
    }) else None

-- field 2 of a place's row: the number of the part
abbrev pub part_in : Row → Option ℕ
part_in fields = number_in 1 most_parts (field fields 2)

-- field 3 of a place's row: the set of subframes
abbrev pub subframes_in : Row → Option ℕ
subframes_in fields = subframes_of (field fields 3)

-- field 4 of a place's row: the first word
abbrev pub word_in : Row → Option ℕ
word_in fields = number_in 1 most_words (field fields 4)

-- field 5 of a place's row: how many words on the next one is, or 0
abbrev pub step_in : Row → Option ℕ
step_in fields = number_in 0 most_words (field fields 5)

-- field 6 of a place's row: its lowest bit in a word of a frame, 1 to 12
abbrev pub frame_lsb_in : Row → Option ℕ
frame_lsb_in fields = number_in 1 frame_word_bits (field fields 6)

-- field 7 of a place's row: how many bits it has in a word of a frame
abbrev pub frame_width_in : Row → Option ℕ
frame_width_in fields = number_in 1 (bits_from frame_word_bits (frame_lsb_in fields)) (field fields 7)

-- field 9 of a place's row: in how many frames it comes once
abbrev pub period_in : Row → Option ℕ
period_in fields = number_among periods (field fields 9)

-- field 8 of a place's row: in which of the frames of its period it comes, counted from 0
abbrev pub cycle_in : Row → Option ℕ
cycle_in fields = number_in 0 (last_cycle (period_in fields)) (field fields 8)

-- the first field of a place's row that isn't right, the name aside
unfoldable pub place_misread : Row → Option TableFault
place_misread fields = first_some (
    misread 2 (part_in fields)
    ∷ misread 3 (subframes_in fields)
    ∷ misread 4 (word_in fields)
    ∷ misread 5 (step_in fields)
    ∷ misread 6 (frame_lsb_in fields)
    ∷ misread 7 (frame_width_in fields)
    ∷ misread 8 (cycle_in fields)
    ∷ misread 9 (period_in fields) ∷ [])

-- what a place's row says, as row `number` of its table, of the parameter with index `param`, where none of its fields is wrong
unfoldable pub place_row : ℕ → ℕ → Row → Option PlaceRow
place_row param number fields =
    if is_place (row_kind fields) && is_none (place_misread fields) then Some (record {
      param = param;
      part = unwrap_or (part_in fields) 0;
      subs = unwrap_or (subframes_in fields) 0;
      word = unwrap_or (word_in fields) 0;
      step = unwrap_or (step_in fields) 0;
      lsb = unwrap_or (frame_lsb_in fields) 0;
      width = unwrap_or (frame_width_in fields) 0;
      cycle = unwrap_or (cycle_in fields) 0;
      period = unwrap_or (period_in fields) 0;
      row = number;
    }) else None

-- the names in the parameters' rows, in order
abbrev pub names_of : List Row → List (List ℕ)
names_of rows = map (λ (fields : Row). field fields 1) (filter (λ (fields : Row). is_param (row_kind fields)) rows)

-- the index of the parameter with this name in the rows, or 0 where there is none
abbrev pub param_named : List Row → List ℕ → ℕ
param_named rows name = unwrap_or (position (λ other. bytes_eq other name) (names_of rows)) 0

-- the table that rows say: the first frame row, the parameters and the places in order, and the number of rows
abbrev pub table_of : List Row → TableRows
table_of rows = record {
  frame = unwrap_or (first_some (map frame_row rows)) (record { words = 0; cword = 0; csub = 0 });
  params = filter_map (λ (e : ℕ × Row). param_row e.0 e.1) (enumerate_from 0 rows);
  places = filter_map (λ (e : ℕ × Row). place_row (param_named rows (field e.1 1)) e.0 e.1) (enumerate_from 0 rows);
  rows = length rows;
}
