-- The faults of a table whose rows are read, in the order of their numbers.
use Rattle.std.specs.Prelude.{ℕ, ◌+◌, ◌*◌, ◌/◌, ◌%◌, Bool, not, if◌then◌else◌, ◌==◌, ◌&&◌, nat_le, nat_lt, List, [], ◌∷◌, length, take, map, filter, find, fold}
use Rattle.std.specs.Prelude.{max, sum_by, Option, Some, None, option_map}
use Rattle.std.specs.List.{list_all, list_any, enumerate_from, range_with_len}
use Rattle.fdr_frame.specs.Slots.{is_counter, word_of}
use Rattle.fdr_table.specs.Rows.{FrameRow, ParamRow, PlaceRow, TableRows}
use Rattle.fdr_table.specs.Reading.{first_some}
use Rattle.fdr_table.specs.declared.fault.TableFault.{TableFault}
use Rattle.fdr_table.specs.declared.fault.TableFault.TheVariants as fault
use Rattle.fdr_check.specs.Occurrences.{frame_bits, occurs, occurrences, part_occurrences, part_width}
use Rattle.fdr_check.specs.Soundness.{covers, has_part, most_superframe_parts}

-- a row's number and its fault, where there is one
abbrev pub RowFault : Type 0
RowFault = Option (ℕ × TableFault)

-- the fault f with the row of the first place that the test finds
abbrev pub first_place : (PlaceRow → Bool) → TableFault → List PlaceRow → RowFault
first_place test f places = option_map (λ (p : PlaceRow). (p.row, f)) (find test places)

-- the fault Place: the counter's word, in row 0, or a place's word is above the number of words in a subframe
unfoldable pub place_fault : TableRows → RowFault
place_fault t = if nat_lt t.frame.words t.frame.cword then Some (0, fault.Place) else first_place (λ (p : PlaceRow). nat_lt t.frame.words p.word)
    fault.Place t.places

-- the fault OnSync: a place is on word 1, which has the sync words
unfoldable pub sync_fault : TableRows → RowFault
sync_fault t = first_place (λ (p : PlaceRow). p.word == 1) fault.OnSync t.places

-- whether an occurrence of the place is in the counter's word
unfoldable pub meets_counter : FrameRow → PlaceRow → Bool
meets_counter f p = list_any (λ k. occurs f.words p k && is_counter f.words f.cword f.csub k) (range_with_len 0 (64 * f.words))

-- the fault OnCounter: an occurrence of a place is in the counter's word
unfoldable pub counter_fault : TableRows → RowFault
counter_fault t = first_place (meets_counter t.frame) fault.OnCounter t.places

-- the first bit of the superframe that both places take, if there is one
unfoldable pub first_shared : ℕ → PlaceRow → PlaceRow → Option ℕ
first_shared w p q = find (λ b. covers w p b && covers w q b) (range_with_len 0 (16 * frame_bits w))

-- the fault Overlap of two places that share bit b of the superframe: both rows, the word, and the bit of the word from 1 on
abbrev pub overlap_at : ℕ → PlaceRow → PlaceRow → ℕ → TableFault
overlap_at w p q b = fault.Overlap p.row q.row (word_of w (b / 12)) (b % 12 + 1)

-- the fault Overlap of a place with a place above it: with the first such place, at the first bit that they share
unfoldable pub overlap_with : ℕ → List PlaceRow → PlaceRow → RowFault
overlap_with w above q = first_some (map (λ (p : PlaceRow). option_map (λ b. (q.row, overlap_at w p q b)) (first_shared w p q)) above)

-- the fault Overlap of the first of some places that shares a bit with a place above it
unfoldable pub overlap_among : ℕ → List PlaceRow → RowFault
overlap_among w places = first_some (map (λ (e : ℕ × PlaceRow). overlap_with w (take e.0 places) e.1) (enumerate_from 0 places))

-- the fault Overlap of a table: the first place that shares a bit with a place above it
unfoldable pub overlap_fault : TableRows → RowFault
overlap_fault t = overlap_among t.frame.words t.places

-- the greatest number of a part of the parameter with this index, 0 where it has no place
unfoldable pub last_part : List PlaceRow → ℕ → ℕ
last_part places param = fold (λ n (p : PlaceRow). max n p.part) 0 (filter (λ (p : PlaceRow). p.param == param) places)

-- whether parameter n has its parts: they are numbered from 1 to the last with none missing, the places of each have one width,
-- and the widths add to the parameter's
unfoldable pub has_parts : List PlaceRow → ℕ → ParamRow → Bool
has_parts places n p =
    nat_le 1 (last_part places n)
    && list_all (has_part places n) (range_with_len 1 (last_part places n))
    && list_all (λ (l : PlaceRow). l.width == part_width places n l.part) (filter (λ (l : PlaceRow). l.param == n) places)
    && (p.width == sum_by (part_width places n) (range_with_len 1 (last_part places n)))

-- the fault Parts: the first parameter that hasn't its parts
unfoldable pub parts_fault : TableRows → RowFault
parts_fault t = option_map (λ (e : ℕ × ParamRow). (e.1.row, fault.Parts))
    (find (λ (e : ℕ × ParamRow). not (has_parts t.places e.0 e.1)) (enumerate_from 0 t.params))

-- how often a part of the parameter with this index occurs in a superframe
abbrev pub count_of : ℕ → List PlaceRow → ℕ → ℕ → ℕ
count_of w places n part = length (part_occurrences w places n part)

-- the lowest part of parameter n that doesn't occur as often as the parameter's rate says, if there is one
unfoldable pub off_rate : ℕ → List PlaceRow → ℕ → ParamRow → Option ℕ
off_rate w places n p = find (λ part. has_part places n part && not (count_of w places n part == p.rate)) (range_with_len 1 4)

-- the fault Rate of parameter n, with its rate and how often its lowest differing part occurs
unfoldable pub rate_of : ℕ → List PlaceRow → ℕ → ParamRow → RowFault
rate_of w places n p = option_map (λ part. (p.row, fault.Rate p.rate (count_of w places n part))) (off_rate w places n p)

-- the fault Rate: the first parameter with a part that doesn't occur as often as its rate says
unfoldable pub rate_fault : TableRows → RowFault
rate_fault t = first_some (map (λ (e : ℕ × ParamRow). rate_of t.frame.words t.places e.0 e.1) (enumerate_from 0 t.params))

-- the fault TooMany: all parts together occur more than 262,144 times; the row is the number of the table's rows
unfoldable pub many_fault : TableRows → RowFault
many_fault t = if nat_lt most_superframe_parts (length (occurrences t.frame.words t.places)) then Some (t.rows, fault.TooMany) else None

-- the first of the faults 9 to 15 of a table, by its number and then by its row
unfoldable pub table_fault : TableRows → RowFault
table_fault t = first_some (
    place_fault t
    ∷ sync_fault t
    ∷ counter_fault t
    ∷ overlap_fault t
    ∷ parts_fault t
    ∷ rate_fault t
    ∷ many_fault t ∷ [])
