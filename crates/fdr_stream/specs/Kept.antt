-- What is kept of a stream: all that a block still needs.
use Rattle.std.specs.Prelude.{ℕ, ◌≡◌, ◌<◌, ◌≤◌, ◌+◌, ◌-◌, ◌*◌, List, [], ◌++◌, length, replicate, Option, None}
use Rattle.fdr_slot.specs.Limits.{least_payload_bytes, most_payload_bytes}
use Rattle.fdr_bus.specs.declared.BusRecord.{BusRecord}
use Rattle.fdr_bus.specs.declared.RecordKind.TheVariants.{Word}
use Rattle.fdr_sampler.specs.Empty.{HasEmptyRun}
use Rattle.fdr_sampler.specs.Kept.{SamplerKept, with_slots_passed, most_word_slots, HasHeld}
use Rattle.fdr_sampler.specs.SlotTimes.{time_of_slot, slots_before}
use Rattle.fdr_sampler.specs.SlotWord.{slot_within}
use Rattle.fdr_stream.specs.Packing.{filled_by, unpaired_after, last_byte}

-- what a stream keeps: the sampler, how many bytes a block has, the four bits that wait for the next word, where there are some,
-- and the whole bytes that wait for a block
pub record StreamKept : Type 0 where
  pub sampler : SamplerKept
  pub payload : ℕ
  pub odd : Option ℕ
  pub bytes : List ℕ

-- What holds of every stream: a block has 64 to 4,096 bytes, and what waits for it has room for two more.
pub record IsStreamKept (k : StreamKept) (capacity : ℕ) : Type 0 where
  pub low : least_payload_bytes ≤ k.payload
  pub high : k.payload ≤ most_payload_bytes
  pub room : capacity ≡ k.payload + 2

-- what a stream keeps after further words
abbrev pub with_packed_words : StreamKept → List ℕ → StreamKept
with_packed_words k words = record k { odd = unpaired_after k.odd words; bytes = k.bytes ++ filled_by k.odd words }

-- what a stream keeps once the waiting bits are filled with zero bits
abbrev pub with_filled_byte : StreamKept → StreamKept
with_filled_byte k = record k { odd = None; bytes = k.bytes ++ last_byte k.odd }

-- what a stream keeps after n empty word slots
abbrev pub with_empty_slots : StreamKept → ℕ → StreamKept
with_empty_slots k n = with_packed_words (record k { sampler = with_slots_passed k.sampler n }) (replicate n 0)

-- how many word slots before a time, in millionths of a slot, weren't drawn yet
abbrev pub late_slots : StreamKept → ℕ → ℕ
late_slots k time = slots_before time - k.sampler.slots_drawn

-- what a stream keeps after the word slots before a time that weren't drawn yet, where they are empty
abbrev pub with_late_slots : StreamKept → ℕ → StreamKept
with_late_slots k time = with_empty_slots k (late_slots k time)

-- So many empty word slots come next, and the block has room for them.
pub record HasEmptySlots (k : StreamKept) (count : ℕ) : Type 0 where
  pub empty : HasEmptyRun k.sampler.frame k.sampler.laid (slot_within k.sampler.frame.words k.sampler.slots_drawn) count
  pub room : length (with_empty_slots k count).bytes < k.payload

-- So many empty word slots come next, the slot after them is sampled at `data_time`, and those of them before `counted_to` count
-- as drawn, both in millionths of a slot.
pub record HasLateSlots (k : StreamKept) (count data_time counted_to : ℕ) : Type 0 where
  pub empty : HasEmptySlots k count
  pub data_time_is : data_time ≡ time_of_slot (k.sampler.slots_drawn + count)
  pub within : late_slots k counted_to ≤ count
  pub in_time : slots_before counted_to ≤ most_word_slots
  pub words : k.sampler.frame.words ≤ 1024
  pub slots : k.sampler.slots_drawn ≤ most_word_slots

-- The sampler holds the record, where it is a bus word, and nothing else changed.
pub record HasSampled (before after : StreamKept) (r : BusRecord) : Type 0 where
  pub others : after ≡ record before { sampler = record before.sampler { held = after.sampler.held } }
  pub word : r.kind ≡ Word → HasHeld before.sampler after.sampler r

-- what a stream keeps at the start of a trace
abbrev pub stream_at_start : SamplerKept → ℕ → StreamKept
stream_at_start sampler payload = record { sampler = sampler; payload = payload; odd = None; bytes = [] }
