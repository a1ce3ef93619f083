-- The recorded stream.
use Rattle.std.specs.Prelude.{ℕ, ◌+◌, ◌*◌, ◌/◌, ◌%◌, ◌^◌, List, length, map, slice_index}
use Rattle.std.specs.List.{range_with_len}
use Rattle.fdr_bits.specs.Bits.{number_of}
use Rattle.fdr_bus.specs.declared.BusRecord.{BusRecord}
use Rattle.fdr_bus.specs.Records.{time_of}
use Rattle.fdr_table.specs.Rows.{TableRows}
use Rattle.fdr_sampler.specs.SlotTimes.{slot_time, slots_before}
use Rattle.fdr_sampler.specs.SlotWord.{slot_word}

-- how many word slots are sampled before a time in microseconds, where w are sampled a second
abbrev pub slot_count : ℕ → ℕ → ℕ
slot_count w time = slots_before (slot_time w time)

-- the words of a recording: those of the word slots before the time of its records
abbrev pub stream_words : TableRows → List BusRecord → List ℕ
stream_words t records = map (slot_word t records) (range_with_len 0 (slot_count t.frame.words (time_of records)))

-- bit p of words of 12 bits, one after another and each from its least significant bit on; 0 past their end
abbrev pub word_bit : List ℕ → ℕ → ℕ
word_bit words p = slice_index words (p / 12) / 2 ^ (p % 12) % 2

-- the bits of words as bytes, 8 in each from its least significant bit on; zeros fill the last byte
unfoldable pub packed : List ℕ → List ℕ
packed words = map (λ i. number_of (λ j. word_bit words (8 * i + j)) 8) (range_with_len 0 ((12 * length words + 7) / 8))

-- the recording of these records by a table: the bytes of its words
abbrev pub stream_of : TableRows → List BusRecord → List ℕ
stream_of t records = packed (stream_words t records)
