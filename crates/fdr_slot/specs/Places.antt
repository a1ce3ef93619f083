-- Where the slots of an image are.
use Rattle.std.specs.Prelude.{ℕ, ◌+◌, ◌*◌, ◌%◌}
use Rattle.fdr_slot.specs.declared.image.Header.{Header}

-- how many bytes a slot has: a head of 16 bytes, and room for P bytes of payload
abbrev pub slot_size : Header → ℕ
slot_size h = 16 + h.payload

-- where slot i begins, after the 64 bytes of the header: at 64 + i × (16 + P)
abbrev pub slot_at : Header → ℕ → ℕ
slot_at h i = 64 + i * slot_size h

-- how many bytes an image has: 64 + N × (16 + P)
abbrev pub image_size : Header → ℕ
image_size h = slot_at h h.slots

-- the slot, of n slots, that the block with this sequence number takes: the number modulo n
abbrev pub slot_number_of : ℕ → ℕ → ℕ
slot_number_of n number = number % n

-- where the slot of the block with this sequence number begins: its gate
abbrev pub gate_at : Header → ℕ → ℕ
gate_at h number = slot_at h (slot_number_of h.slots number)
