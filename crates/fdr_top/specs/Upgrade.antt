-- What `upgrade` promises: an image of version 1 becomes one of version 2 by a single byte, and keeps its blocks.
use Rattle.std.specs.Prelude.{◌≡◌, ◌⊎◌, ◌==◌, if◌then◌else◌, List, [], ◌∷◌, ℕ, map, None, IsTrue}
use Rattle.fdr_deck.specs.State.{State, Tells}
use Rattle.fdr_deck.specs.Calls.{IsDiskWork}
use Rattle.fdr_deck.specs.Disk.{IsSettled, LearnsExtent, Torn, patched}
use Rattle.fdr_slot.specs.Headers.{version_byte}
use Rattle.fdr_recover.specs.ImageHeader.{image_fault_of, header_in}
use Rattle.fdr_recover.specs.Payloads.{contents_of, run_in}
use Rattle.fdr_ring.specs.Rings.{OfSettled}
use Rattle.fdr_top.specs.Refusals.{RefusesHeader}
use Rattle.fdr_top.specs.declared.outcome.Outcome.{Outcome}
use Rattle.fdr_top.specs.declared.outcome.Outcome.TheVariants as outcome

-- What a stop leaves of an image by whose header this is the version: the same image, or in version 1 the image with any byte at
-- place 1.
abbrev pub VersionStop : ℕ → List ℕ → List ℕ → Type 0
VersionStop version old image = (image ≡ old) ⊎ ((version ≡ 1) × Torn 1 1 old image)

-- What a stop in `upgrade` leaves of an image: the same image, or, where its header reads as version 1, the image with any byte
-- at place 1.
abbrev pub UpgradingStop : List ℕ → List ℕ → Type 0
UpgradingStop old image = (image ≡ old) ⊎ ((image_fault_of old ≡ None) × ((header_in old).version ≡ 1) × Torn 1 1 old image)

-- the image of this version with the byte of version 2, where it is of version 1
abbrev pub image_upgraded_from : ℕ → List ℕ → List ℕ
image_upgraded_from version image = if version == 1 then patched 1 (version_byte 2 ∷ []) image else image

-- the image in version 2: with the byte of version 2, where its header says version 1
abbrev pub upgraded : List ℕ → List ℕ
upgraded image = image_upgraded_from (header_in image).version image

-- What `upgrade` promises: what a stop leaves at each moment, that the recovered run keeps its numbers and bytes, what the image
-- is in the end, and which refusal is answered.
pub record UpgradesImage (tells : Tells) (old new : State) (answer : Outcome) : Type 0 where
  -- Nothing is announced and nothing pulled; where the disk was settled, that is all that a stop leaves at any moment.
  pub disk_work : IsDiskWork tells (OfSettled old UpgradingStop) old new
  pub learns : LearnsExtent tells old new
  -- Whatever is answered, no other byte is another.
  pub part : IsTrue tells.bytes → UpgradingStop old.held new.held
  -- In each such image the header reads, and the recovered run has the same numbers and payloads.
  pub kept : image_fault_of old.held ≡ None → (image : List ℕ) → UpgradingStop old.held image
      → (image_fault_of image ≡ None) × (map contents_of (run_in image) ≡ map contents_of (run_in old.held))
  pub held : answer ≡ outcome.Done → IsTrue tells.bytes → new.held ≡ upgraded old.held
  pub version : answer ≡ outcome.Done → IsTrue tells.bytes → (image_fault_of new.held ≡ None) × ((header_in new.held).version ≡ 2)
  pub settled : answer ≡ outcome.Done → IsTrue tells.stops → IsSettled new
  pub good : answer ≡ outcome.Done → IsTrue tells.bytes → image_fault_of old.held ≡ None
  pub header : RefusesHeader tells old new answer
