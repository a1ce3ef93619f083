-- The head of a slot: its first 16 bytes.
use Rattle.std.specs.Prelude.{◌≡◌, ◌≤◌, ◌<◌, ℕ, ◌==◌, Bool, false, ◌&&◌, nat_lt, nat_le, if◌then◌else◌, List, ◌∷◌, ◌++◌, drop, IsTrue}
use Rattle.byteorder.specs.Endian.{big_number, big_bytes}
use Rattle.fdr_slot.specs.Limits.{sequence_end}
use Rattle.fdr_slot.specs.Places.{slot_number_of}
use Rattle.fdr_slot.specs.Headers.{has_open_gate}
use Rattle.fdr_slot.specs.declared.image.Header.{Header}
use Rattle.fdr_slot.specs.declared.head.SlotHead.{SlotHead}

-- what the 16 bytes of a slot's head say: whether the gate is open, the length of the payload, the session, the sequence number
unfoldable pub head_of : List ℕ → SlotHead
head_of bytes = record {
  gate = has_open_gate bytes;
  len = big_number 2 (drop 2 bytes);
  session = big_number 4 (drop 4 bytes);
  seq = big_number 8 (drop 8 bytes);
}

-- the session of a block with this head: in version 1 it is 0, whatever the bytes say
abbrev pub session_in : Header → SlotHead → ℕ
session_in h head = if h.version == 2 then head.session else 0

-- a head whose gate is closed, with this length, session and sequence number
abbrev pub closed_head : ℕ → ℕ → ℕ → SlotHead
closed_head len session seq = record { gate = false; len = len; session = session; seq = seq }

-- the 16 bytes that are written for a head with a closed gate and this length, session and sequence number
unfoldable pub head_bytes : ℕ → ℕ → ℕ → List ℕ
head_bytes len session seq = (0 ∷ 0 ∷ big_bytes 2 len) ++ big_bytes 4 session ++ big_bytes 8 seq

-- whether slot number `slot` holds a block, where it has this head: the gate is open, the sequence number is below 2^48 and
-- modulo N is the slot's number, and the length is 1 to P
abbrev pub is_valid : Header → ℕ → SlotHead → Bool
is_valid h slot head =
    head.gate && nat_lt head.seq sequence_end && (slot_number_of h.slots head.seq == slot) && nat_le 1 head.len && nat_le head.len h.payload

-- Slot number `slot` holds a block, where it has this head: the gate is open, the sequence number is below 2^48 and modulo N is
-- the slot's number, and the length is 1 to P.
pub record IsValid (h : Header) (slot : ℕ) (head : SlotHead) : Type 0 where
  pub gate : IsTrue head.gate
  pub number : head.seq < sequence_end
  pub place : slot_number_of h.slots head.seq ≡ slot
  pub not_empty : 1 ≤ head.len
  pub fits : head.len ≤ h.payload
