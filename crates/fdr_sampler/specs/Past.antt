-- What a sampler was made from, and what it was given and asked for since.
use Rattle.std.specs.Prelude.{ℕ, ◌≡◌, ◌<◌, ◌≤◌, ◌+◌, IsTrue, List, [], ◌∷◌, ◌++◌, Some, None, length, map, slice_get, slice_index, slice_index_or}
use Rattle.std.specs.List.{All}
use Rattle.fdr_bus.specs.declared.BusRecord.{BusRecord}
use Rattle.fdr_bus.specs.declared.RecordKind.TheVariants.{Word}
use Rattle.fdr_bus.specs.Records.{time_of, last_time}
use Rattle.fdr_table.specs.Rows.{ParamRow, TableRows}
use Rattle.fdr_layout.specs.Samples.{Sample, samples}
use Rattle.fdr_layout.specs.SlotParts.{laid_of}
use Rattle.fdr_sampler.specs.Held.{source_of, counts_for, held_word, raw_value, first_part_slot}
use Rattle.fdr_sampler.specs.SlotTimes.{slot_time, time_of_slot}
use Rattle.fdr_sampler.specs.SlotWord.{slot_within, start_of}
use Rattle.fdr_sampler.specs.Kept.{SamplerKept}

-- what a sampler was made from, and what it was given and asked for since: a table, the records that were given, and how many
-- word slots were drawn
pub record SamplerPast : Type 0 where
  pub table : TableRows
  pub records : List BusRecord
  pub slots_drawn : ℕ

-- the past of a sampler that was just made
abbrev pub sampler_made : TableRows → SamplerPast
sampler_made t = record { table = t; records = []; slots_drawn = 0 }

-- the past of a sampler after a further record was given
abbrev pub sampler_with_record : SamplerPast → BusRecord → SamplerPast
sampler_with_record past r = record past { records = past.records ++ r ∷ [] }

-- the past of a sampler after one more word slot was drawn
abbrev pub sampler_with_word : SamplerPast → SamplerPast
sampler_with_word past = record past { slots_drawn = past.slots_drawn + 1 }

-- the past of a sampler after n more word slots were drawn
abbrev pub sampler_with_words : SamplerPast → ℕ → SamplerPast
sampler_with_words past n = record past { slots_drawn = past.slots_drawn + n }

-- The record may come next: it is a bus word, its time is in order, no word slot is due at it, and it counts for none of the
-- slots that were drawn.
pub record MayTake (past : SamplerPast) (r : BusRecord) : Type 0 where
  pub kind : r.kind ≡ Word
  pub order : time_of past.records ≤ r.time
  pub in_time : r.time ≤ last_time
  pub none_due : slot_time past.table.frame.words r.time ≤ time_of_slot past.slots_drawn
  pub counts_for_none : (k : ℕ) → k < past.slots_drawn → time_of_slot k < slot_time past.table.frame.words r.time

-- What the sampler keeps stands for this past: it was made from this table, was given these records and asked for this many
-- words. All the records count for the next word slot.
pub record RepresentsSampler (k : SamplerKept) (past : SamplerPast) : Type 0 where
  pub frame : k.frame ≡ past.table.frame
  pub sources : k.sources ≡ map source_of past.table.params
  pub laid : k.laid ≡ laid_of past.table
  pub slots_drawn : k.slots_drawn ≡ past.slots_drawn
  pub records : All (λ (r : BusRecord). IsTrue (counts_for past.table.frame.words past.slots_drawn r)) past.records
  pub held : (n : ℕ) (p : ParamRow) → slice_get past.table.params n ≡ Some p →
      slice_index_or k.held n None ≡ held_word past.table.frame.words (source_of p) past.records past.slots_drawn
  pub raws : (n : ℕ) (s : Sample) → slice_get (samples past.table) n ≡ Some s → 0 < length s.parts →
      first_part_slot s < slot_within past.table.frame.words past.slots_drawn →
      slice_index k.raws n ≡ raw_value past.table past.records (start_of past.table.frame.words past.slots_drawn) s
