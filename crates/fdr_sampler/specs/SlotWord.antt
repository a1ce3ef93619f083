-- The word of a slot of the recording.
use Rattle.std.specs.Prelude.{ℕ, ◌+◌, ◌-◌, ◌*◌, ◌/◌, ◌%◌, ◌^◌, Bool, ◌&&◌, nat_le, nat_lt, List, find, reverse, slice_get}
use Rattle.std.specs.Option.{option_map_or}
use Rattle.fdr_bits.specs.Bits.{number_of}
use Rattle.fdr_bus.specs.declared.BusRecord.{BusRecord}
use Rattle.fdr_frame.specs.declared.SlotKind.TheVariants.{Sync, Counter, Plain}
use Rattle.fdr_frame.specs.Slots.{frame_of, subframe_of, sync_word, kind_of}
use Rattle.fdr_table.specs.Rows.{FrameRow, TableRows}
use Rattle.fdr_layout.specs.SlotParts.{SlotPart, parts_in}
use Rattle.fdr_layout.specs.Samples.{Part, samples}
use Rattle.fdr_sampler.specs.Held.{raw_value}

-- the raw value of the sample with number n, in the superframe that begins at word slot `start`
unfoldable pub numbered_value : TableRows → List BusRecord → ℕ → ℕ → ℕ
numbered_value t records start n = option_map_or (raw_value t records start) (slice_get (samples t) n) 0

-- the piece of a raw value that a part carries
abbrev pub piece_of : ℕ → Part → ℕ
piece_of raw p = raw / 2 ^ p.shift % 2 ^ p.width

-- whether the part has bit b of the word that it is in
abbrev pub has_bit : ℕ → SlotPart → Bool
has_bit b a = nat_le (a.part.at % 12) b && nat_lt b (a.part.at % 12 + a.part.width)

-- bit b of a word as a part of it has it: that bit of the part's piece of its sample's raw value
abbrev pub bit_of_part : (ℕ → ℕ) → ℕ → SlotPart → ℕ
bit_of_part value b a = piece_of (value a.sample) a.part / 2 ^ (b - a.part.at % 12) % 2

-- bit b of a word with the pieces of these parts, where `value` gives the raw value of each sample: the bit of the part that has
-- it, and 0 where no part has it. No two parts of a sound table have one bit; of several, the last would count
unfoldable pub data_bit : (ℕ → ℕ) → List SlotPart → ℕ → ℕ
data_bit value parts b = option_map_or (bit_of_part value b) (find (has_bit b) (reverse parts)) 0

-- the word of 12 bits with the pieces of these parts, where `value` gives the raw value of each sample
unfoldable pub data_of : (ℕ → ℕ) → List SlotPart → ℕ
data_of value parts = number_of (data_bit value parts) 12

-- the word with the pieces of word slot k of the superframe that begins at slot `start`
abbrev pub data_word : TableRows → List BusRecord → ℕ → ℕ → ℕ
data_word t records start k = data_of (numbered_value t records start) (parts_in t k)

-- the word of word slot k, where `word` would be its word of data: a sync word and the frame counter modulo 4096 come before it
abbrev pub word_with : FrameRow → ℕ → ℕ → ℕ
word_with f k word = elim (kind_of f.words f.cword f.csub k) [
  | Sync ↦ sync_word (subframe_of f.words k)
  | Counter ↦ frame_of f.words k % 4096
  | Plain ↦ word
]

-- which word slot of its superframe word slot k of a recording is
abbrev pub slot_within : ℕ → ℕ → ℕ
slot_within w k = k % (64 * w)

-- the word slot that the superframe of word slot k of a recording begins at
abbrev pub start_of : ℕ → ℕ → ℕ
start_of w k = k - slot_within w k

-- the word of word slot k of the recording of these records: its sync word, the counter modulo 4096, or its word of data
abbrev pub slot_word : TableRows → List BusRecord → ℕ → ℕ
slot_word t records k = word_with t.frame k (data_word t records (start_of t.frame.words k) (slot_within t.frame.words k))
