-- What the row of each sample needs, worked out once.
use Rattle.std.specs.Prelude.{ℕ, ◌≡◌, ◌+◌, ◌-◌, ◌*◌, ◌/◌, ◌%◌, ◌^◌, ◌<◌, ◌≤◌, List, [], length, map, bit_and, sum_by}
use Rattle.std.specs.List.{flat_map, range_with_len, slice_index_or}
use Rattle.fdr_frame.specs.Slots.{subframe_of, word_of}
use Rattle.fdr_layout.specs.Samples.{Part, Sample, first_at}
use Rattle.fdr_layout.specs.SlotParts.{Laid}
use Rattle.fdr_recon.specs.declared.plans.Field.{Field}
use Rattle.fdr_recon.specs.Kept.{RebuildKept, word_back}
use Rattle.fdr_recon.specs.Rows.{reach}

-- The field lies in a word of 12 bits, and its bits within the 48 of a raw value.
pub record FitsWord (f : Field) : Type 0 where
  pub low : f.low < 12
  pub ones : f.ones < 4096
  pub shift : f.shift ≤ 36

-- what the row of a sample needs: its parameter, how many frames it reaches back, the subframe and the word of its earliest part,
-- and where the bits of its parts are
pub record RowPlan : Type 0 where
  pub param : ℕ
  pub reach : ℕ
  pub subframe : ℕ
  pub word : ℕ
  pub fields : List Field

-- where the bits of a part are whose sample ends in this cycle, counted from the end of that frame
abbrev pub field_plan : ℕ → ℕ → Part → Field
field_plan w cycle p = record { back = 4 * w * (cycle + 1) - 1 - p.at / 12; low = p.at % 12; ones = 2 ^ p.width - 1; shift = p.shift }

-- what the row of a sample needs that ends in this cycle
abbrev pub row_plan : ℕ → ℕ → Sample → RowPlan
row_plan w cycle s = record {
  param = s.param;
  reach = reach w s.parts;
  subframe = subframe_of w (first_at s.parts / 12);
  word = word_of w (first_at s.parts / 12);
  fields = map (field_plan w cycle) s.parts;
}

-- what the rows of all samples need that end in this cycle
abbrev pub cycle_plans : Laid → ℕ → ℕ → List RowPlan
cycle_plans l w cycle = map (row_plan w cycle) (slice_index_or l.cycles cycle [])

-- The plans are what the rows of all cycles need, one cycle after another; the numbers say where those of each begin and those of
-- the last end.
pub record ArePlans (l : Laid) (w : ℕ) (starts : List ℕ) (plans : List RowPlan) : Type 0 where
  pub rows : plans ≡ flat_map (cycle_plans l w) (range_with_len 0 16)
  pub begins : starts ≡ map (λ c. length (flat_map (cycle_plans l w) (range_with_len 0 c))) (range_with_len 0 17)
  pub countable : (cycle : ℕ) → cycle < 16 → length (slice_index_or l.cycles cycle []) < 2 ^ 32

-- a layout and the words of a subframe that rows are planned by
pub record Planned : Type 0 where
  pub laid : Laid
  pub words : ℕ

-- the bits of a field, read from the words that are kept, at their place in the raw value
abbrev pub planned_bits : RebuildKept → Field → ℕ
planned_bits k f = bit_and (word_back k f.back / 2 ^ f.low) f.ones * 2 ^ f.shift

-- the raw value of these fields, read from the words that are kept
abbrev pub planned_raw : RebuildKept → List Field → ℕ
planned_raw k fields = sum_by (planned_bits k) fields
