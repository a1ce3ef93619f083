-- Of the code: the walk over the occurrences of a place in a superframe, and marks on its bits. The contracts of private
-- functions cite these, and no public one does.
use Rattle.std.specs.Prelude.{ℕ, ◌+◌, ◌-◌, ◌*◌, ◌/◌, ◌%◌, ◌<◌, ◌≤◌, ◌≡◌, ◌==◌, ◌&&◌, Bool, true, false, List, [], length, map, filter, nat_le, nat_lt}
use Rattle.std.specs.Prelude.{slice_index}
use Rattle.std.specs.Prelude.{count_by, not, if◌then◌else◌, Option, Some, None}
use Rattle.std.specs.Int.{bit_at}
use Rattle.std.specs.List.{list_any, flat_map, range_with_len}
use Rattle.fdr_table.specs.Rows.{PlaceRow}
use Rattle.fdr_check.specs.Occurrences.{has_subframe, is_on_word, begins_at}
use Rattle.fdr_check.specs.Soundness.{covers, has_part}
use Rattle.fdr_check.specs.Faults.{count_of}

-- the words of a subframe of w words that the place is on
unfoldable pub words_on : ℕ → PlaceRow → List ℕ
words_on w p = filter (is_on_word p) (range_with_len 1 w)

-- From one word of the place in a subframe of w words it is n words to the next, if there is one.
pub record IsStep (w : ℕ) (p : PlaceRow) (n : ℕ) : Type 0 where
  pub positive : 0 < n
  pub next : (v : ℕ) → is_on_word p v ≡ true → v + n ≤ w → is_on_word p (v + n) ≡ true
  pub between : (v d : ℕ) → is_on_word p v ≡ true → 0 < d → d < n → v + d ≤ w → is_on_word p (v + d) ≡ false

-- the word slots that the place is on in a subframe that begins at slot `start`
unfoldable pub slots_on : ℕ → PlaceRow → ℕ → List ℕ
slots_on w p start = map (λ v. start + (v - 1)) (words_on w p)

-- whether the place occurs in subframe j of the superframe, counted from 0: four of them are a frame
abbrev pub occurs_in_subframe : ℕ → PlaceRow → Bool
occurs_in_subframe j p = (j / 4 % p.period == p.cycle) && has_subframe p.subs (j % 4 + 1)

-- the word slots in which the place occurs in subframe j of the superframe
unfoldable pub subframe_slots : ℕ → PlaceRow → ℕ → List ℕ
subframe_slots w p j = if occurs_in_subframe j p then slots_on w p (j * w) else []

-- the word slots in which the place occurs in frame f of the superframe, counted from 0
unfoldable pub frame_slots : ℕ → PlaceRow → ℕ → List ℕ
frame_slots w p f = flat_map (subframe_slots w p) (range_with_len (4 * f) 4)

-- whether the place takes bit c of the words that it is in, counted from 0
abbrev pub takes_bit : PlaceRow → ℕ → Bool
takes_bit p c = nat_le p.lsb (c + 1) && nat_lt (c + 1) (p.lsb + p.width)

-- The bits that are 1 in this number are those that the place takes of the words that it is in.
pub record AreItsBits (p : PlaceRow) (bits : ℕ) : Type 0 where
  pub fits : bits < 4096
  pub each : (c : ℕ) → c < 12 → (bit_at bits c == 1) ≡ takes_bit p c

-- whether bit b of the superframe is marked, where there is a mark of 12 bits for each word slot
abbrev pub is_marked : List ℕ → ℕ → Bool
is_marked marks b = bit_at (slice_index marks (b / 12)) (b % 12) == 1

-- Exactly the bits of these places are marked in a superframe.
pub record AreMarks (w : ℕ) (places : List PlaceRow) (marks : List ℕ) : Type 0 where
  pub length : length marks ≡ 64 * w
  pub each : (b : ℕ) → b < 768 * w → is_marked marks b ≡ list_any (λ (p : PlaceRow). covers w p b) places

-- how often a place occurs in a superframe
abbrev pub starts_of : ℕ → PlaceRow → ℕ
starts_of w p = count_by (λ x. begins_at w x p) (range_with_len 0 (768 * w))

-- how often a part of the parameter with index n occurs in a superframe, where that differs from the rate
abbrev pub off_rate_at : ℕ → List PlaceRow → ℕ → ℕ → ℕ → Option ℕ
off_rate_at w places n rate part =
    if has_part places n part && not (count_of w places n part == rate) then Some (count_of w places n part) else None
