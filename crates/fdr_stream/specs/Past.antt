-- What a stream was made from, and what was fed and given since.
use Rattle.std.specs.Prelude.{ℕ, ◌≡◌, ◌<◌, ◌≤◌, ◌+◌, ◌*◌, ◌/◌, ◌⊎◌, false, List, [], ◌∷◌, ◌++◌, length, map, drop, Option, Some, None}
use Rattle.std.specs.List.{range_with_len}
use Rattle.fdr_slot.specs.Limits.{least_payload_bytes, most_payload_bytes}
use Rattle.fdr_bus.specs.declared.BusRecord.{BusRecord}
use Rattle.fdr_bus.specs.Records.{time_of, last_time, has_end}
use Rattle.fdr_table.specs.Rows.{TableRows}
use Rattle.fdr_sampler.specs.SlotTimes.{slots_before}
use Rattle.fdr_sampler.specs.SlotWord.{slot_word}
use Rattle.fdr_sampler.specs.Stream.{slot_count}
use Rattle.fdr_sampler.specs.Past.{RepresentsSampler}
use Rattle.fdr_stream.specs.Blocks.{due_blocks}
use Rattle.fdr_stream.specs.Packing.{unpaired, whole_bytes}
use Rattle.fdr_stream.specs.Kept.{StreamKept}

-- what a stream was made from, and what was fed and given since: a table and the size of a block; the records that were taken;
-- the record that a block was given at, which is fed again; and how many blocks were given
pub record StreamPast : Type 0 where
  pub table : TableRows
  pub payload : ℕ
  pub records : List BusRecord
  pub begun : Option BusRecord
  pub blocks : ℕ

-- the past of a stream that was just made
abbrev pub stream_made : TableRows → ℕ → StreamPast
stream_made t payload = record { table = t; payload = payload; records = []; begun = None; blocks = 0 }

-- the past of a stream after a block was given at this record
abbrev pub with_block : StreamPast → BusRecord → StreamPast
with_block past r = record past { begun = Some r; blocks = past.blocks + 1 }

-- the past of a stream after this record was taken
abbrev pub stream_with_record : StreamPast → BusRecord → StreamPast
stream_with_record past r = record past { records = past.records ++ r ∷ []; begun = None }

-- The record may be fed: it is a good next record after those that were taken, and the same one where a block was given at it.
pub record MayFeedStream (past : StreamPast) (r : BusRecord) : Type 0 where
  pub order : time_of past.records ≤ r.time
  pub in_time : r.time ≤ last_time
  pub unended : has_end past.records ≡ false
  pub same : (past.begun ≡ None) ⊎ (past.begun ≡ Some r)

-- the words of the first n word slots of the recording of a stream
abbrev pub words_to : StreamPast → ℕ → List ℕ
words_to past n = map (slot_word past.table past.records) (range_with_len 0 n)

-- the time in microseconds up to which word slots may be drawn: that of the record at which a block was given, else that of the
-- last record
unfoldable pub time_from : List BusRecord → Option BusRecord → ℕ
time_from records None = time_of records
time_from records (Some r) = r.time

-- the time in microseconds up to which word slots of a stream may be drawn
abbrev pub time_reached : StreamPast → ℕ
time_reached past = time_from past.records past.begun

-- The words of the word slots that were drawn are in the blocks that were given, in the bytes that wait, and in the word that
-- waits for its pair.
pub record IsPacked (k : StreamKept) (past : StreamPast) : Type 0 where
  pub payload : k.payload ≡ past.payload
  pub words : past.table.frame.words ≤ 1024
  pub given : past.payload * past.blocks ≤ 3 * k.sampler.slots_drawn / 2
  pub odd : k.odd ≡ unpaired (words_to past k.sampler.slots_drawn)
  pub bytes : k.bytes ≡ drop (past.payload * past.blocks) (whole_bytes (words_to past k.sampler.slots_drawn))

-- The stream's sampler stands for the records that were taken.
abbrev pub IsSampled : StreamKept → StreamPast → Type 0
IsSampled k past = RepresentsSampler k.sampler (record { table = past.table; records = past.records; slots_drawn = k.sampler.slots_drawn })

-- A record comes next at this time, in millionths of a word slot: the words of some of the slots before it were drawn, and of no
-- others.
pub record IsDrawing (k : StreamKept) (past : StreamPast) (time : ℕ) : Type 0 where
  pub sampler : IsSampled k past
  pub packed : IsPacked k past
  pub no_later_slots : k.sampler.slots_drawn ≤ slots_before time

-- What the stream keeps stands for this past: it was made of this table for blocks of this size, these records were taken and
-- this many blocks given. No whole block waits. The sampler needs no end record, since nothing is fed after it.
pub record RepresentsStream (k : StreamKept) (past : StreamPast) : Type 0 where
  pub low : least_payload_bytes ≤ past.payload
  pub high : past.payload ≤ most_payload_bytes
  pub sampler : has_end past.records ≡ false → IsSampled k past
  pub packed : IsPacked k past
  pub within_payload : length k.bytes < past.payload
  pub slots_drawn : slot_count past.table.frame.words (time_of past.records) ≤ k.sampler.slots_drawn
  pub no_later_slots : k.sampler.slots_drawn ≤ slot_count past.table.frame.words (time_reached past)
  pub blocks : past.begun ≡ None → past.blocks ≡ due_blocks past.table past.payload past.records

-- All blocks of the stream were given, a short last one too: nothing waits, and the sampler is the one that stood for the
-- records.
pub record HasFinished (k : StreamKept) (past : StreamPast) : Type 0 where
  pub payload : k.payload ≡ past.payload
  pub odd : k.odd ≡ None
  pub bytes : k.bytes ≡ []
  pub sampler : has_end past.records ≡ false → IsSampled k past
