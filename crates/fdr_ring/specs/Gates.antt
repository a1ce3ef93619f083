-- The gates of an image's slots.
use Rattle.std.specs.Prelude.{◌≡◌, ◌≢◌, ℕ, List, [], ◌∷◌, length, take, slice_index, Option}
use Rattle.fdr_deck.specs.Disk.{patched}
use Rattle.fdr_slot.specs.declared.image.Header.{Header}
use Rattle.fdr_slot.specs.Places.{gate_at}
use Rattle.fdr_recover.specs.Blocks.{Block}
use Rattle.fdr_recover.specs.Images.{block_numbered}

-- The gate of the slot of this number isn't open: it isn't 5A.
abbrev pub IsClosed : Header → List ℕ → ℕ → Type 0
IsClosed h image number = slice_index image (gate_at h number) ≢ 0x5a

-- the image with the gate of the slot of this number open
abbrev pub image_with_open_gate : Header → List ℕ → ℕ → List ℕ
image_with_open_gate h image number = patched (gate_at h number) (0x5a ∷ []) image

-- the block of this number that is in its slot once the gate of the slot is opened, if there is one then
unfoldable pub waiting_block : Header → List ℕ → ℕ → Option Block
waiting_block h image number = block_numbered h (image_with_open_gate h image number) number

-- The length of the image and its header of 64 bytes are as they were.
pub record KeepsHeader (old new : List ℕ) : Type 0 where
  pub size : length new ≡ length old
  pub header : take 64 new ≡ take 64 old
