-- Which refusal of an image a recording ends with.
use Rattle.std.specs.Prelude.{◌≡◌, ◌≢◌, ◌⊎◌, ◌↔◌, ◌<◌, ℕ, Some, Err, IsTrue}
use Rattle.fdr_deck.specs.State.{State, Tells}
use Rattle.fdr_slot.specs.declared.image.ImageFault.{ImageFault}
use Rattle.fdr_slot.specs.declared.image.ImageFault.TheVariants as image_fault
use Rattle.fdr_recover.specs.ImageHeader.{image_fault_of, header_in, IsFor}
use Rattle.fdr_table.specs.Rows.{TableRows}
use Rattle.fdr_recorder.specs.Ends.{RecordingEnd}
use Rattle.fdr_recorder.specs.declared.error.SessionFault.TheVariants as fault

-- Which refusal of an image a recording ends with: its first fault, too small by its length on every deck, or other words than
-- the table's. An image that is to be refused is, unless the disk failed or memory ended.
pub record RefusesSession (t : TableRows) (tells : Tells) (old new : State) (end : RecordingEnd) : Type 0 where
  pub refused : (why : ImageFault) → end ≡ Err (fault.Image why) → IsTrue tells.bytes → image_fault_of old.held ≡ Some why
  pub small : (why : ImageFault) → end ≡ Err (fault.Image why) → (why ≡ image_fault.Small) ↔ (new.extent < 64)
  pub small_always : end ≢ Err fault.NoMemory → new.extent < 64
      → (end ≡ Err (fault.Image image_fault.Small)) ⊎ (end ≡ Err fault.DiskFault)
  pub refused_always : (why : ImageFault) → end ≢ Err fault.NoMemory → IsTrue tells.bytes → image_fault_of old.held ≡ Some why
      → (end ≡ Err (fault.Image why)) ⊎ (end ≡ Err fault.DiskFault)
  pub words : (image table : ℕ) → end ≡ Err (fault.WordsDiffer image table)
      → (table ≡ t.frame.words) × (image ≢ table) × (IsTrue tells.bytes → IsFor image old.held)
  pub words_always : (image : ℕ) → end ≢ Err fault.NoMemory → IsTrue tells.bytes → IsFor image old.held → image ≢ t.frame.words
      → (end ≡ Err (fault.WordsDiffer image t.frame.words)) ⊎ (end ≡ Err fault.DiskFault)

-- A recording ends with OldVersion where the image is for frames of the table's words and of version 1, unless the disk failed or
-- memory ended, and nowhere else.
pub record RefusesOldVersion (t : TableRows) (tells : Tells) (old : State) (end : RecordingEnd) : Type 0 where
  pub refused : end ≡ Err fault.OldVersion → IsTrue tells.bytes
      → IsFor t.frame.words old.held × ((header_in old.held).version ≡ 1)
  pub refused_always : end ≢ Err fault.NoMemory → IsTrue tells.bytes → IsFor t.frame.words old.held → (header_in old.held).version ≡ 1
      → (end ≡ Err fault.OldVersion) ⊎ (end ≡ Err fault.DiskFault)
