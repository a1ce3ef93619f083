-- Where the parts of the samples are in a superframe of 16 frames.
--
-- A bit of the superframe is counted from 0 at its start: bit 12 k is the least significant bit of word slot k. A table's
-- frame has four subframes of w words.
use Rattle.std.specs.Prelude.{ℕ, ◌*◌, max, min, ◌==◌, List, [], ◌∷◌, Option, option_map, map, filter, fold, slice_get}
use Rattle.std.specs.List.{filter_map, flat_map, range_with_len, enumerate_from}
use Rattle.fdr_table.specs.Rows.{ParamRow, PlaceRow, TableRows}
use Rattle.fdr_check.specs.Occurrences.{frame_bits, Occurrence, part_occurrences, shift_of}

-- a part of a parameter: its occurrences in a superframe, and how many bits of the raw value are below it
pub record Carrier : Type 0 where
  pub occurrences : List Occurrence
  pub shift : ℕ

-- a part of the parameter with this index, with its occurrences, where a subframe has w words
abbrev pub carrier_of : ℕ → List PlaceRow → ℕ → ℕ → Carrier
carrier_of w places param part = record { occurrences = part_occurrences w places param part; shift = shift_of places param part }

-- a part of a sample: at which bit of the superframe its lowest bit is, how many bits it has, and how many bits of the raw value
-- are below it
pub record Part : Type 0 where
  pub at : ℕ
  pub width : ℕ
  pub shift : ℕ

-- a part of sample i, where there is one: it is at the part's i-th occurrence, counted from 0
abbrev pub part_at : ℕ → Carrier → Option Part
part_at i c = option_map (λ (o : Occurrence). record { at = o.at; width = o.width; shift = c.shift }) (slice_get c.occurrences i)

-- the parts of sample i of the parameter with this index, by the number of the part: the i-th occurrence of each
unfoldable pub parts_of : ℕ → List PlaceRow → ℕ → ℕ → List Part
parts_of w places param i = filter_map (λ part. part_at i (carrier_of w places param part)) (range_with_len 1 4)

-- a sample: the index of its parameter, its number among those of the parameter within the superframe, and its parts
pub record Sample : Type 0 where
  pub param : ℕ
  pub index : ℕ
  pub parts : List Part

-- the samples of the parameter with index n, as many as its rate
unfoldable pub samples_of : ℕ → List PlaceRow → ℕ → ℕ → List Sample
samples_of w places n rate = map (λ i. record { param = n; index = i; parts = parts_of w places n i }) (range_with_len 0 rate)

-- the samples of all parameters of a table in a superframe
unfoldable pub samples : TableRows → List Sample
samples t = flat_map (λ (e : ℕ × ParamRow). samples_of t.frame.words t.places e.0 e.1.rate) (enumerate_from 0 t.params)

-- the bit of the superframe at which the earliest of these parts begins, or `at` where that is earlier
abbrev pub earliest_of : ℕ → List Part → ℕ
earliest_of at parts = fold (λ at (q : Part). min at q.at) at parts

-- the bit of the superframe at which the earliest part of a sample begins
unfoldable pub first_at : List Part → ℕ
first_at [] = 0
first_at (p ∷ parts) = earliest_of p.at parts

-- the bit of the superframe at which the last part of a sample begins
unfoldable pub last_at : List Part → ℕ
last_at parts = fold (λ at (q : Part). max at q.at) 0 parts

-- the samples of a table whose last part lies in this cycle of the superframe, in the order of last parts
unfoldable pub ending_in : TableRows → ℕ → List Sample
ending_in t cycle =
    flat_map (λ x. filter (λ (s : Sample). last_at s.parts == x) (samples t))
    (range_with_len (frame_bits t.frame.words * cycle) (frame_bits t.frame.words))
