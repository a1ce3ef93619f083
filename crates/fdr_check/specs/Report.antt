-- The report of a table. Each line ends with a line feed.
use Rattle.std.specs.Prelude.{ℕ, ◌-◌, ◌*◌, ◌/◌, Bool, ◌==◌, if◌then◌else◌, List, [], ◌∷◌, ◌++◌, length, min, fold, codes, decimal, slice_get, option_map}
use Rattle.std.specs.List.{filter_map, flat_map, list_all, enumerate_from, range_with_len}
use Rattle.fdr_table.specs.Rows.{ParamRow, PlaceRow, TableRows}
use Rattle.fdr_check.specs.Occurrences.{Occurrence, occurrences, part_occurrences}

-- the word slots of the parts of sample i of the parameter with index n
unfoldable pub sample_slots : ℕ → List PlaceRow → ℕ → ℕ → List ℕ
sample_slots w places n i = filter_map (λ part. option_map (λ (o : Occurrence). o.at / 12) (slice_get (part_occurrences w places n part) i))
    (range_with_len 1 4)

-- the least of some numbers, or 0 where there are none
abbrev pub least : List ℕ → ℕ
least [] = 0
least (k ∷ ks) = fold min k ks

-- the word slot of the earliest part of sample i of the parameter with index n
abbrev pub first_slot : ℕ → List PlaceRow → ℕ → ℕ → ℕ
first_slot w places n i = least (sample_slots w places n i)

-- whether the samples of a superframe begin at equal distances: sample i begins i / rate of a superframe after the first
unfoldable pub is_even : ℕ → List PlaceRow → ℕ → ℕ → Bool
is_even w places n rate = list_all (λ i. rate * (first_slot w places n i - first_slot w places n 0) == i * (64 * w)) (range_with_len 0 rate)

-- the line `frame,W,PARAMS,PARTS` of a report
abbrev pub frame_line : ℕ → ℕ → ℕ → List ℕ
frame_line words params parts = codes "frame," ++ decimal words ++ codes "," ++ decimal params ++ codes "," ++ decimal parts ++ codes "\n"

-- the line `param,NAME,RATE,even` or `param,NAME,RATE,uneven` of a report
abbrev pub param_line : Bool → ParamRow → List ℕ
param_line even p =
    codes "param," ++ p.name ++ codes "," ++ decimal p.rate ++ (if even then codes ",even\n" else codes ",uneven\n")

-- the report of a table: the frame's line, and one of each parameter
unfoldable pub report_of : TableRows → List ℕ
report_of t =
    frame_line t.frame.words (length t.params) (length (occurrences t.frame.words t.places))
    ++ flat_map (λ (e : ℕ × ParamRow). param_line (is_even t.frame.words t.places e.0 e.1.rate) e.1) (enumerate_from 0 t.params)
