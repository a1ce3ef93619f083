-- The header of an image, and its faults.
use Rattle.std.specs.Prelude.{◌≡◌, List, ℕ, length, take, Option, None}
use Rattle.fdr_slot.specs.declared.image.Header.{Header}
use Rattle.fdr_slot.specs.declared.image.ImageFault.{ImageFault}
use Rattle.fdr_slot.specs.Headers.{header_of, image_fault}

-- the first fault of an image, by its first 64 bytes and its length, or none
abbrev pub image_fault_of : List ℕ → Option ImageFault
image_fault_of image = image_fault (take 64 image) (length image)

-- what the header of an image says, its first 64 bytes
abbrev pub header_in : List ℕ → Header
header_in image = header_of (take 64 image)

-- The image has no fault, and is for frames with this count of words in a subframe.
pub record IsFor (count : ℕ) (image : List ℕ) : Type 0 where
  pub no_fault : image_fault_of image ≡ None
  pub words : (header_in image).words ≡ count
