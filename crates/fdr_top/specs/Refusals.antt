-- Which refusal of an image is answered.
use Rattle.std.specs.Prelude.{◌≡◌, ◌≢◌, ◌⊎◌, ◌↔◌, ◌<◌, ◌≤◌, ◌+◌, ◌*◌, ℕ, nat_lt, if◌then◌else◌, Option, Some, None, IsTrue}
use Rattle.fdr_deck.specs.State.{State, Tells}
use Rattle.fdr_slot.specs.declared.image.ImageFault.{ImageFault}
use Rattle.fdr_slot.specs.declared.image.ImageFault.TheVariants as fault
use Rattle.fdr_recover.specs.ImageHeader.{image_fault_of, header_in, IsFor}
use Rattle.fdr_table.specs.Rows.{TableRows}
use Rattle.fdr_top.specs.Stages.{IsPastTable}
use Rattle.fdr_top.specs.declared.outcome.Outcome.{Outcome}
use Rattle.fdr_top.specs.declared.outcome.Outcome.TheVariants as outcome

-- Which refusal of an image is answered for its header: its first fault, and too small by its length on every deck. An image that
-- is to be refused is, unless the disk failed.
pub record RefusesHeader (tells : Tells) (old new : State) (answer : Outcome) : Type 0 where
  pub refused : (why : ImageFault) → answer ≡ outcome.ImageRefused why → IsTrue tells.bytes → image_fault_of old.held ≡ Some why
  pub small : (why : ImageFault) → answer ≡ outcome.ImageRefused why → (why ≡ fault.Small) ↔ (new.extent < 64)
  pub small_always : IsPastTable answer → new.extent < 64 → (answer ≡ outcome.ImageRefused fault.Small) ⊎ (answer ≡ outcome.DiskFault)
  pub refused_always : (why : ImageFault) → IsPastTable answer → IsTrue tells.bytes → image_fault_of old.held ≡ Some why
      → (answer ≡ outcome.ImageRefused why) ⊎ (answer ≡ outcome.DiskFault)

-- Which refusal of an image is answered: one for its header, or both numbers of words where it is for other frames than the
-- table's. An image that is to be refused is, unless the disk failed.
pub record RefusesImage (t : TableRows) (tells : Tells) (old new : State) (answer : Outcome) : Type 0 where
  pub header : RefusesHeader tells old new answer
  pub words : (image table : ℕ) → answer ≡ outcome.WordsDiffer image table
      → (table ≡ t.frame.words) × (image ≢ table) × (IsTrue tells.bytes → IsFor image old.held)
  pub words_always : (image : ℕ) → IsPastTable answer → IsTrue tells.bytes → IsFor image old.held → image ≢ t.frame.words
      → (answer ≡ outcome.WordsDiffer image t.frame.words) ⊎ (answer ≡ outcome.DiskFault)

-- OldVersion is answered where the image is of version 1 for the table's frames, unless the disk failed, and nowhere else.
pub record RefusesOldImage (t : TableRows) (tells : Tells) (old : State) (answer : Outcome) : Type 0 where
  pub version : answer ≡ outcome.OldVersion → IsTrue tells.bytes → IsFor t.frame.words old.held × ((header_in old.held).version ≡ 1)
  pub version_always : IsPastTable answer → IsTrue tells.bytes → IsFor t.frame.words old.held → (header_in old.held).version ≡ 1
      → (answer ≡ outcome.OldVersion) ⊎ (answer ≡ outcome.DiskFault)

-- The header of the image was read, and it has no fault.
pub record HasHeader (tells : Tells) (old new : State) : Type 0 where
  pub long : 64 ≤ new.extent
  pub good : IsTrue tells.bytes → image_fault_of old.held ≡ None

-- what is wrong with the length of an image that is read by these slots and this payload, in place of its header
abbrev pub ring_fault : ℕ × ℕ → ℕ → Option ImageFault
ring_fault ring size =
    if nat_lt size 64 then Some fault.Small
    else if nat_lt size (64 + ring.0 * (16 + ring.1)) then Some fault.Short
    else None

-- An image that is read by a ring, in place of its header, is refused by its length alone, and then always, unless the disk
-- failed.
pub record RefusesLength (ring : ℕ × ℕ) (new : State) (answer : Outcome) : Type 0 where
  pub refused : (why : ImageFault) → answer ≡ outcome.ImageRefused why → ring_fault ring new.extent ≡ Some why
  pub refused_always : (why : ImageFault) → IsPastTable answer → ring_fault ring new.extent ≡ Some why
      → (answer ≡ outcome.ImageRefused why) ⊎ (answer ≡ outcome.DiskFault)
  pub words : (image table : ℕ) → answer ≢ outcome.WordsDiffer image table

-- which refusal of an image is answered, where it is read by its header, or by a ring in place of that
abbrev pub RefusesBy : Option (ℕ × ℕ) → TableRows → Tells → State → State → Outcome → Type 0
RefusesBy None t tells old new answer = RefusesImage t tells old new answer
RefusesBy (Some ring) t tells old new answer = RefusesLength ring new answer

-- the image can be read: its header was read and has no fault, or it has the length of the ring that is taken in place of that
abbrev pub IsReadable : Option (ℕ × ℕ) → Tells → State → State → Type 0
IsReadable None tells old new = HasHeader tells old new
IsReadable (Some ring) tells old new = ring_fault ring new.extent ≡ None
