-- What is in a slot after its gate.
use Rattle.std.specs.Prelude.{ℕ, ◌+◌, List, ◌++◌, length, drop}
use Rattle.fdr_deck.specs.Disk.{Torn, patched}
use Rattle.fdr_slot.specs.declared.image.Header.{Header}
use Rattle.fdr_slot.specs.Heads.{head_bytes}
use Rattle.fdr_slot.specs.Places.{gate_at}
use Rattle.fdr_ring.specs.Closing.{IsTurned, image_with_closed_gate}

-- what is written in a slot after its gate: the other 15 bytes of its head, with this number and session, and the payload
unfoldable pub body_bytes : ℕ → ℕ → List ℕ → List ℕ
body_bytes number session payload = drop 1 (head_bytes (length payload) session number) ++ payload

-- the image with this body after the gate of the slot of this number
abbrev pub image_with_body : Header → ℕ → ℕ → List ℕ → List ℕ → List ℕ
image_with_body h number session payload image = patched (gate_at h number + 1) (body_bytes number session payload) image

-- the image with this body after the gate of the slot of this number, and the gate of the following slot 00 where it was open
abbrev pub image_to_commit : Header → ℕ → ℕ → List ℕ → List ℕ → List ℕ
image_to_commit h number session payload image =
    image_with_closed_gate (gate_at h (number + 1)) (image_with_body h number session payload image)

-- Only bytes 1 to 15 + `size` of the slot of this number may be others than before, and the gate of the following slot where it
-- was open.
pub record IsPlacing (h : Header) (number size : ℕ) (old new : List ℕ) : Type 0 where
  pub placing : List ℕ
  pub body : Torn (gate_at h number + 1) (15 + size) old placing
  pub following : IsTurned (gate_at h (number + 1)) placing new
