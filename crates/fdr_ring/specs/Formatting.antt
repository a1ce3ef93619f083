-- Images that are made.
use Rattle.std.specs.Prelude.{◌≡◌, ◌⊎◌, ◌<◌, ℕ, ◌*◌, List, ◌++◌, replicate, Some, None}
use Rattle.fdr_deck.specs.State.{State}
use Rattle.fdr_deck.specs.Disk.{IsSettled}
use Rattle.fdr_slot.specs.declared.image.Header.{Header}
use Rattle.fdr_slot.specs.declared.image.ImageFault.TheVariants as fault
use Rattle.fdr_slot.specs.Places.{slot_size}
use Rattle.fdr_slot.specs.Headers.{header_bytes}
use Rattle.fdr_recover.specs.ImageHeader.{image_fault_of, header_in}
use Rattle.fdr_recover.specs.Images.{block_in}

-- No slot of the image with this header is valid.
abbrev pub IsEmpty : Header → List ℕ → Type 0
IsEmpty h image = (i : ℕ) → i < h.slots → block_in h image i ≡ None

-- The image has no fault, says this header, and has no valid slot.
pub record IsFormatted (h : Header) (image : List ℕ) : Type 0 where
  pub no_fault : image_fault_of image ≡ None
  pub header : header_in image ≡ h
  pub empty : IsEmpty h image

-- What a stop may leave while an image with this header is made: it is too small for a header or its gate is closed, or it is the
-- whole image without blocks.
abbrev pub FormattingStop : Header → List ℕ → Type 0
FormattingStop h image = (image_fault_of image ≡ Some fault.Small) ⊎ ((image_fault_of image ≡ Some fault.Closed) ⊎ IsFormatted h image)

-- The image is one at a moment while an image with this header is made: a settled disk without a byte gets what `FormattingStop`
-- says, and a disk that has bytes keeps what a stop could leave.
pub record Making (h : Header) (entry : State) (image : List ℕ) : Type 0 where
  pub made : entry.extent ≡ 0 → IsSettled entry → FormattingStop h image
  pub kept : 0 < entry.extent → entry.may_leave image

-- a new image with this header: the 64 bytes of the header, and zeros for the slots
abbrev pub fresh_image : Header → List ℕ
fresh_image h = header_bytes h ++ replicate (h.slots * slot_size h) 0
