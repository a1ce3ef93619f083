-- Where the places of a table occur in a superframe of 16 frames.
--
-- A bit of the superframe is counted from 0 at its start: bit 12 k is the least significant bit of word slot k. A table's
-- frame has four subframes of w words.
use Rattle.std.specs.Prelude.{ℕ, ◌+◌, ◌-◌, ◌*◌, ◌/◌, ◌%◌, ◌^◌, Bool, if◌then◌else◌, ◌==◌, ◌&&◌, nat_le, List, map, filter, find, sum_by}
use Rattle.std.specs.Option.{option_map_or}
use Rattle.std.specs.List.{flat_map, range_with_len}
use Rattle.fdr_frame.specs.Slots.{frame_of, subframe_of, word_of}
use Rattle.fdr_table.specs.Rows.{PlaceRow}

-- how many bits a frame has, where a subframe has w words: 48 w
abbrev pub frame_bits : ℕ → ℕ
frame_bits w = 48 * w

-- the cycle, 0 to 15, that a bit of the superframe lies in: the frame counted within the superframe
abbrev pub cycle_of : ℕ → ℕ → ℕ
cycle_of w at = at / frame_bits w

-- whether subframe s is in the set: its bit s - 1 is 1
abbrev pub has_subframe : ℕ → ℕ → Bool
has_subframe subs s = subs / 2 ^ (s - 1) % 2 == 1

-- whether word v is one of the place's: its first word, or that plus a multiple of its step; a step of 0 gives the one word
abbrev pub is_on_word : PlaceRow → ℕ → Bool
is_on_word p v = if p.step == 0 then v == p.word else (nat_le p.word v && ((v - p.word) % p.step == 0))

-- whether the place occurs in word slot k of the superframe: the frame modulo the period is the cycle, the subframe is in the
-- set, and the word is one of the place's
abbrev pub occurs : ℕ → PlaceRow → ℕ → Bool
occurs w p k = (frame_of w k % p.period == p.cycle) && has_subframe p.subs (subframe_of w k) && is_on_word p (word_of w k)

-- the word slots of the superframe in which the place occurs, in their order
unfoldable pub slots_of : ℕ → PlaceRow → List ℕ
slots_of w p = filter (occurs w p) (range_with_len 0 (64 * w))

-- whether the place has an occurrence whose lowest bit is bit x of the superframe
unfoldable pub begins_at : ℕ → ℕ → PlaceRow → Bool
begins_at w x p = (x % 12 + 1 == p.lsb) && occurs w p (x / 12)

-- the bits of the superframe at which occurrences of the place begin, in their order
unfoldable pub place_bits : ℕ → PlaceRow → List ℕ
place_bits w p = filter (λ x. begins_at w x p) (range_with_len 0 (768 * w))

-- an occurrence of a place: at which bit of the superframe its lowest bit is, and how many bits it has
pub record Occurrence : Type 0 where
  pub at : ℕ
  pub width : ℕ

-- the occurrences of places whose lowest bit is bit x of the superframe
abbrev pub occurrences_at : ℕ → List PlaceRow → ℕ → List Occurrence
occurrences_at w places x = map (λ (p : PlaceRow). record { at = x; width = p.width }) (filter (begins_at w x) places)

-- all occurrences of places in a superframe, by slot and then by lowest bit
unfoldable pub occurrences : ℕ → List PlaceRow → List Occurrence
occurrences w places = flat_map (occurrences_at w places) (range_with_len 0 (16 * frame_bits w))

-- whether the place carries this part of the parameter with this index
abbrev pub is_part : ℕ → ℕ → PlaceRow → Bool
is_part param part p = (p.param == param) && (p.part == part)

-- the occurrences in a superframe of a part of the parameter with this index: those of all its places
unfoldable pub part_occurrences : ℕ → List PlaceRow → ℕ → ℕ → List Occurrence
part_occurrences w places param part = occurrences w (filter (is_part param part) places)

-- the bits of the superframe at which the occurrences of a part begin, in their order
unfoldable pub part_bits : ℕ → List PlaceRow → ℕ → ℕ → List ℕ
part_bits w places param part = map (λ (o : Occurrence). o.at) (part_occurrences w places param part)

-- how many bits a part of the parameter with this index has, which its places share
unfoldable pub part_width : List PlaceRow → ℕ → ℕ → ℕ
part_width places param part = option_map_or (λ (p : PlaceRow). p.width) (find (is_part param part) places) 0

-- how many bits of the raw value are below a part: those of the lower parts
unfoldable pub shift_of : List PlaceRow → ℕ → ℕ → ℕ
shift_of places param part = sum_by (part_width places param) (range_with_len 1 (part - 1))
