-- The limits of a header's numbers, and of a block's.
use Rattle.std.specs.Prelude.{◌≤◌, ℕ, ◌^◌, Bool, ◌&&◌, nat_le}
use Rattle.fdr_frame.specs.WordCount.{is_word_count, IsWordCount}
use Rattle.fdr_slot.specs.declared.image.Header.{Header}

-- how many slots an image has at least: 4
abbrev pub least_slot_count : ℕ
least_slot_count = 4

-- how many slots an image has at most: 65,536
abbrev pub most_slot_count : ℕ
most_slot_count = 65536

-- how many bytes of payload the slots of an image have room for at least: 64
abbrev pub least_payload_bytes : ℕ
least_payload_bytes = 64

-- how many bytes of payload the slots of an image have room for at most: 4,096
abbrev pub most_payload_bytes : ℕ
most_payload_bytes = 4096

-- the sequence numbers of blocks are below this: 2^48
abbrev pub sequence_end : ℕ
sequence_end = 2 ^ 48

-- whether the numbers of a header are within their limits: N is 4 to 65,536, P is 64 to 4,096, W is one of the five numbers of
-- words, the version is 1 or 2
abbrev pub in_limits : Header → Bool
in_limits h =
    (nat_le least_slot_count h.slots && nat_le h.slots most_slot_count)
    && (nat_le least_payload_bytes h.payload && nat_le h.payload most_payload_bytes)
    && is_word_count h.words && (nat_le 1 h.version && nat_le h.version 2)

-- The numbers of a header are within their limits: N is 4 to 65,536, P is 64 to 4,096, W is one of the five numbers of words, the
-- version is 1 or 2.
pub record IsInLimits (h : Header) : Type 0 where
  pub least_slots : least_slot_count ≤ h.slots
  pub most_slots : h.slots ≤ most_slot_count
  pub least_payload : least_payload_bytes ≤ h.payload
  pub most_payload : h.payload ≤ most_payload_bytes
  pub word_count : IsWordCount h.words
  pub least_version : 1 ≤ h.version
  pub most_version : h.version ≤ 2
