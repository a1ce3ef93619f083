-- What is kept of a table and of the records that were given.
use Rattle.std.specs.Prelude.{ℕ, ◌≡◌, ◌<◌, ◌≤◌, ◌+◌, ◌*◌, ◌==◌, if◌then◌else◌, List, [], Option, Some, None, length, map, replicate, slice_get, slice_index}
use Rattle.std.specs.List.{All, enumerate_from, flat_map, range_with_len, slice_index_or}
use Rattle.std.specs.Option.{option_map_or}
use Rattle.fdr_bus.specs.declared.BusRecord.{BusRecord}
use Rattle.fdr_table.specs.Rows.{FrameRow, ParamRow}
use Rattle.fdr_layout.specs.Samples.{Sample}
use Rattle.fdr_layout.specs.SlotParts.{SlotPart, Laid}
use Rattle.fdr_sampler.specs.Held.{Source, HeldWord, source_of, is_from, word_and_time, raw_of_held, first_part_slot}
use Rattle.fdr_sampler.specs.SlotWord.{data_of}

-- how many word slots a recording has at most: 1,474,560,000, which are 1,440,000 seconds of 1,024 words
abbrev pub most_word_slots : ℕ
most_word_slots = 1474560000

-- what a sampler keeps: the table's frame, where its parameters come from and where their samples stand; the word that is held
-- for each parameter, with its time; the raw value that each sample was begun with; and how many word slots were drawn. What is
-- held doesn't change with the slots, though what it gives does
pub record SamplerKept : Type 0 where
  pub frame : FrameRow
  pub sources : List Source
  pub laid : Laid
  pub held : List (Option HeldWord)
  pub raws : List ℕ
  pub slots_drawn : ℕ

-- What holds of every sampler: its lists are as long as the table asks, and no more word slots were drawn than a recording may
-- have.
pub record IsSamplerKept (k : SamplerKept) : Type 0 where
  pub words : 0 < k.frame.words
  pub slots : length k.laid.slots ≡ 64 * k.frame.words
  pub params : All (λ (s : Sample). s.param < length k.sources) k.laid.samples
  pub held : length k.held ≡ length k.sources
  pub raws : length k.raws ≡ length k.laid.samples
  pub slots_drawn : k.slots_drawn ≤ most_word_slots

-- what is held for a source after a record, where it was `before`
abbrev pub held_word_after : Source → BusRecord → Option HeldWord → Option HeldWord
held_word_after s r before = if is_from s r then Some (word_and_time r) else before

-- The record is held for each of the sources that it is from, and nothing else changed.
pub record HasHeld (before after : SamplerKept) (r : BusRecord) : Type 0 where
  pub others : after ≡ record before { held = after.held }
  pub words : (n : ℕ) (s : Source) → slice_get before.sources n ≡ Some s
      → slice_index_or after.held n None ≡ held_word_after s r (slice_index_or before.held n None)

-- what a sampler keeps n word slots on, where nothing was drawn for them
abbrev pub with_slots_passed : SamplerKept → ℕ → SamplerKept
with_slots_passed k n = record k { slots_drawn = k.slots_drawn + n }

-- the raw number of source n at word slot k of a recording, by what is held for it
unfoldable pub raw_number_at : ℕ → ℕ → List Source → List (Option HeldWord) → ℕ → ℕ
raw_number_at w k sources held n = option_map_or (λ (s : Source). raw_of_held w s k (slice_index_or held n None)) (slice_get sources n) 0

-- the raw value of sample n at a word slot of its superframe, where `number` gives the raw numbers of the parameters there: that
-- of its own where it begins in this slot, and what it was begun with elsewhere
abbrev pub value_at : Laid → ℕ → (ℕ → ℕ) → List ℕ → ℕ → ℕ
value_at l slot number raws n =
    option_map_or (λ (s : Sample). if first_part_slot s == slot then number s.param else slice_index raws n) (slice_get l.samples n) 0

-- the parts that are in a word slot of the superframe
abbrev pub slot_parts : Laid → ℕ → List SlotPart
slot_parts l slot = slice_index_or l.slots slot []

-- The samples with parts in this word slot have these raw values there.
abbrev pub HaveValues : (ℕ → ℕ) → Laid → ℕ → (ℕ → ℕ) → List ℕ → Type 0
HaveValues value l slot number raws = All (λ (a : SlotPart). value_at l slot number raws a.sample ≡ value a.sample) (slot_parts l slot)

-- A word of data was drawn for these parts: it has their pieces of the raw values, each of their samples is now kept with its raw
-- value, and so is each that was before.
pub record IsDrawnWord (value : ℕ → ℕ) (parts : List SlotPart) (raws_before raws_after : List ℕ) (drawn_word : ℕ) : Type 0 where
  pub word : drawn_word ≡ data_of value parts
  pub kept : (n : ℕ) → slice_index raws_before n ≡ value n → slice_index raws_after n ≡ value n
  pub taken : All (λ (a : SlotPart). slice_index raws_after a.sample ≡ value a.sample) parts

-- the index of the parameter of each sample of a superframe, as often as the parameter's rate says
unfoldable pub owners_of : List ParamRow → List ℕ
owners_of params = flat_map (λ (e : ℕ × ParamRow). map (λ _. e.0) (range_with_len 0 e.1.rate)) (enumerate_from 0 params)

-- what a sampler keeps at the start of a recording
abbrev pub sampler_at_start : FrameRow → List ParamRow → Laid → SamplerKept
sampler_at_start frame params l = record {
  frame = frame;
  sources = map source_of params;
  laid = l;
  held = replicate (length params) None;
  raws = replicate (length l.samples) 0;
  slots_drawn = 0;
}
