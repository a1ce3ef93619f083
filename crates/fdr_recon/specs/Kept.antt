-- What is kept of a table and of the frames that were read, and the rows that are made of it.
use Rattle.std.specs.Prelude.{ℕ, ◌+◌, ◌-◌, ◌*◌, ◌/◌, ◌%◌, ◌^◌, ◌<◌, ◌≤◌, ◌≡◌, ℤ, pos, neg_ℤ, ◌≤ℤ◌, Bool, if◌then◌else◌, ◌==◌, ◌&&◌}
use Rattle.std.specs.Prelude.{nat_lt, nat_le, not, List, [], ◌∷◌, length}
use Rattle.std.specs.Prelude.{Option, Some, None, sum_by, slice_index, slice_get}
use Rattle.std.specs.List.{All, slice_index_or}
use Rattle.fdr_frame.specs.Slots.{subframe_of, word_of}
use Rattle.fdr_table.specs.Rows.{FrameRow, ParamRow}
use Rattle.fdr_table.specs.Value.{value_of}
use Rattle.fdr_check.specs.Occurrences.{cycle_of}
use Rattle.fdr_layout.specs.Samples.{Part, Sample, first_at, last_at}
use Rattle.fdr_layout.specs.SlotParts.{Laid}
use Rattle.fdr_recon.specs.declared.Row.{Row}
use Rattle.fdr_recon.specs.Rows.{counter_place, reach, param_at}

-- what a rebuild keeps: the table's frame row and parameters, where its samples stand, the words of the last sixteen frames, one
-- frame after another, and how many frames before the last are joined with it, at most 15
pub record RebuildKept : Type 0 where
  pub frame : FrameRow
  pub params : List ParamRow
  pub laid : Laid
  pub words : List ℕ
  pub joined : ℕ

-- The parts lie one above the other in the raw value, from bit `low` up to bit `high`, without a hole.
abbrev pub FillUp : ℕ → ℕ → List Part → Type 0
FillUp low high [] = low ≡ high
FillUp low high (p ∷ parts) = (p.shift ≡ low) × FillUp (low + p.width) high parts

-- The sample is one of these parameters, and its parts are all bits of the raw value.
pub record IsSampleOf (params : List ParamRow) (s : Sample) : Type 0 where
  pub param : ParamRow
  pub found : slice_get params s.param ≡ Some param
  pub narrow : param.width ≤ 32
  pub parts : FillUp 0 param.width s.parts

-- The last part of the sample lies in this cycle of the superframe, and no part in a later one.
pub record EndsInCycle (w cycle : ℕ) (s : Sample) : Type 0 where
  pub last : cycle_of w (last_at s.parts) ≡ cycle
  pub parts : All (λ (p : Part). cycle_of w p.at ≤ cycle) s.parts

-- the word before which n words were kept last, or 0 where there is none
abbrev pub word_back : RebuildKept → ℕ → ℕ
word_back k n = if nat_lt n (length k.words) then slice_index k.words (length k.words - n - 1) else 0

-- which word counts as the given one, from the last word back, of the frame that is `back` frames before the last, where a
-- subframe has w words
abbrev pub from_end : ℕ → ℕ → ℕ → ℕ
from_end w back place = 4 * w * back + (4 * w - 1 - place)

-- the word at a place of the frame that is `back` frames before the last one kept, or 0 where there is none
unfoldable pub kept_word : RebuildKept → ℕ → ℕ → ℕ
kept_word k back place =
    if nat_lt place (4 * k.frame.words) && nat_lt (from_end k.frame.words back place) (length k.words)
    then slice_index k.words (length k.words - from_end k.frame.words back place - 1)
    else 0

-- the counter of the frame that is `back` frames before the last one kept
abbrev pub kept_counter : RebuildKept → ℕ → ℕ
kept_counter k back = kept_word k back (counter_place k.frame)

-- What holds of every rebuild: its words have room for sixteen frames and have 12 bits each, its samples are of its parameters
-- and end in their cycles, and rows are planned for its words of a subframe.
pub record IsRebuildKept (k : RebuildKept) (capacity counter planned : ℕ) : Type 0 where
  pub planned_for : planned ≡ k.frame.words
  pub some_words : 0 < k.frame.words
  pub room : capacity ≡ 64 * k.frame.words
  pub words : All (λ word. word < 4096) k.words
  pub last_counter : counter ≡ kept_counter k 0
  pub joined : k.joined ≤ 15
  pub params : All (λ (samples : List Sample). All (IsSampleOf k.params) samples) k.laid.cycles
  pub ends : (cycle : ℕ) → All (EndsInCycle k.frame.words cycle) (slice_index_or k.laid.cycles cycle [])

-- the cycle of the last frame kept: its counter modulo 16
abbrev pub kept_cycle : RebuildKept → ℕ
kept_cycle k = kept_counter k 0 % 16

-- the bits of a part of a sample that ends in the last frame kept, which has this cycle
unfoldable pub kept_bits : RebuildKept → ℕ → Part → ℕ
kept_bits k cycle p =
    kept_word k (cycle - cycle_of k.frame.words p.at) (p.at / 12 % (4 * k.frame.words)) / 2 ^ (p.at % 12) % 2 ^ p.width

-- the raw value of these parts of a sample that ends in the last frame kept, which has this cycle
unfoldable pub kept_raw : RebuildKept → ℕ → List Part → ℕ
kept_raw k cycle parts = sum_by (λ p. kept_bits k cycle p * 2 ^ p.shift) parts

-- the value of a sample that ends in the last frame kept
unfoldable pub kept_value : RebuildKept → Sample → ℤ
kept_value k s = value_of (param_at k.params s.param) (kept_raw k (kept_cycle k) s.parts)

-- the row of a sample that ends in the last frame kept, where enough frames before that are joined with it
unfoldable pub kept_row : RebuildKept → Sample → Option Row
kept_row k s =
    if nat_le (reach k.frame.words s.parts) k.joined
    then Some (record {
      counter = kept_counter k (reach k.frame.words s.parts);
      subframe = subframe_of k.frame.words (first_at s.parts / 12);
      word = word_of k.frame.words (first_at s.parts / 12);
      param = s.param;
      value = kept_value k s;
    })
    else None

-- the samples that end in the cycle of the last frame kept, none before the first frame
unfoldable pub kept_samples : RebuildKept → List Sample
kept_samples k = if length k.words == 0 then [] else slice_index_or k.laid.cycles (kept_cycle k) []

-- whether a next frame with these words is linked to the last one kept
unfoldable pub is_next : RebuildKept → Bool → List ℕ → Bool
is_next k adjacent words =
    adjacent && not (length k.words == 0) && (slice_index words (counter_place k.frame) == (kept_counter k 0 + 1) % 4096)

-- the largest size of a parameter's value: 4,300,000,000,000,000,000
abbrev pub most_value : ℕ
most_value = 4300000000000000000

-- The value is at most 4,300,000,000,000,000,000 in size, as each value of a parameter is.
pub record IsSmallValue (value : ℤ) : Type 0 where
  pub low : neg_ℤ (pos most_value) ≤ℤ value
  pub high : value ≤ℤ pos most_value

-- The row is one of a table with this many parameters, and its numbers keep their ranges.
pub record IsRow (params : ℕ) (r : Row) : Type 0 where
  pub counter : r.counter < 4096
  pub subframe_low : 1 ≤ r.subframe
  pub subframe_high : r.subframe ≤ 4
  pub word_low : 1 ≤ r.word
  pub word_high : r.word ≤ 1024
  pub param : r.param < params
  pub value : IsSmallValue r.value
