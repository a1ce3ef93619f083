-- What `format` promises: an image without blocks on a disk that had no byte.
use Rattle.std.specs.Prelude.{◌≡◌, ◌⊎◌, ℕ, ◌<◌, IsTrue}
use Rattle.fdr_io.specs.Faults.{Rose}
use Rattle.fdr_deck.specs.State.{State, Tells}
use Rattle.fdr_deck.specs.Calls.{IsDiskWork}
use Rattle.fdr_deck.specs.Disk.{IsSettled, KeepsDisk, LearnsExtent}
use Rattle.fdr_slot.specs.declared.image.Header.{Header}
use Rattle.fdr_slot.specs.Places.{image_size}
use Rattle.fdr_ring.specs.Formatting.{IsFormatted, Making, fresh_image}
use Rattle.fdr_top.specs.Stages.{IsPastTable}
use Rattle.fdr_top.specs.declared.outcome.Outcome.{Outcome}
use Rattle.fdr_top.specs.declared.outcome.Outcome.TheVariants as outcome

-- the header of a new image with this number of slots, this payload and these words of a subframe: of version 2
abbrev pub new_header : ℕ → ℕ → ℕ → Header
new_header slots payload words = record { slots = slots; payload = payload; words = words; version = 2 }

-- What `format` promises: the image with this header was made, or the answer says why it wasn't; and what a stop leaves at each
-- moment.
pub record Makes (h : Header) (tells : Tells) (old new : State) (answer : Outcome) : Type 0 where
  pub empty : answer ≡ outcome.Done → old.extent ≡ 0
  pub held : answer ≡ outcome.Done → IsTrue tells.bytes → new.held ≡ fresh_image h
  pub formatted : answer ≡ outcome.Done → IsTrue tells.bytes → IsFormatted h new.held
  pub settled : answer ≡ outcome.Done → IsTrue tells.stops → IsSettled new
  pub extent : answer ≡ outcome.Done → new.extent ≡ image_size h
  pub not_empty : answer ≡ outcome.NotEmpty → 0 < new.extent
  pub learns : answer ≡ outcome.NotEmpty → LearnsExtent tells old new
  pub kept : answer ≡ outcome.NotEmpty → KeepsDisk old new
  pub disk_work : IsDiskWork tells (Making h old) old new
  pub cause : answer ≡ outcome.DiskFault → Rose old.disk_faults new.disk_faults
  pub not_empty_always : IsPastTable answer → 0 < old.extent → (answer ≡ outcome.NotEmpty) ⊎ (answer ≡ outcome.DiskFault)
