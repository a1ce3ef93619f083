-- Where slots lie in an image.
use Rattle.std.proofs.Common.{ℕ, ◌+◌, ◌*◌, ◌<◌, ◌≤◌, arith}
use Rattle.std.proofs.Math.Nat.{mul-le-mul_right}
use Rattle.fdr_slot.specs.declared.image.Header.{Header}
use Rattle.fdr_slot.specs.Places.{slot_at, slot_size, image_size}

-- a slot ends within the image
pub slot_within : (h : Header) (i : ℕ) → i < h.slots → slot_at h i + slot_size h ≤ image_size h
slot_within h i below =
    let whole : (i + 1) * (16 + h.payload) ≤ h.slots * (16 + h.payload) = mul-le-mul_right (16 + h.payload) (omega arith) in
    omega (arith, whole)
