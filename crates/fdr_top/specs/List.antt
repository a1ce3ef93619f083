-- What `list` promises: the listing of the blocks of the recovered run of what the disk holds.
use Rattle.std.specs.Prelude.{◌≡◌, ◌⊎◌, ◌≤◌, ℕ, List, [], ◌++◌, Option, IsTrue, take}
use Rattle.fdr_io.specs.Faults.{Rose}
use Rattle.fdr_io.specs.Told.{followed_by}
use Rattle.fdr_deck.specs.State.{State, Tells}
use Rattle.fdr_slot.specs.Limits.{IsInLimits}
use Rattle.fdr_slot.specs.Places.{image_size}
use Rattle.fdr_recover.specs.Blocks.{Block}
use Rattle.fdr_recover.specs.ImageHeader.{header_in, IsFor}
use Rattle.fdr_recover.specs.declared.error.HeaderFault.{HeaderFault}
use Rattle.fdr_recover.specs.declared.error.HeaderFault.TheVariants as header
use Rattle.fdr_table.specs.Rows.{TableRows}
use Rattle.fdr_readout.specs.Reading.{ReadsEvents, decided_past}
use Rattle.fdr_top.specs.Refusals.{RefusesImage}
use Rattle.fdr_recover.specs.Payloads.{run_in}
use Rattle.fdr_top.specs.Recover.{OnlyLooks}
use Rattle.fdr_top.specs.Sessions.{listing_of_blocks}
use Rattle.fdr_top.specs.SessionsTaken.{decided_lines}
use Rattle.fdr_top.specs.declared.listing.ImageReader.{ImageReader}
use Rattle.fdr_top.specs.declared.outcome.Outcome.{Outcome}
use Rattle.fdr_top.specs.declared.outcome.Outcome.TheVariants as outcome

-- the listing of an image by a table: that of the blocks of its recovered run, by its version
abbrev pub listing_in : TableRows → List ℕ → List ℕ
listing_in t image = listing_of_blocks t (header_in image).version (run_in image)

-- Some first blocks of a list were read: all lines that they decide were written, and nothing else.
pub record ListsRead (t : TableRows) (version : ℕ) (whole : List Block) (written_before written_now : Option (List ℕ)) : Type 0 where
  pub read : List Block
  pub unread : List Block
  pub parted : whole ≡ read ++ unread
  pub text : written_now ≡ followed_by written_before (decided_lines t version read)

-- What `list` promises: how much of the image's listing was written, that the disk was only looked at, that the image was one for
-- the table's words, and which refusal is answered.
pub record ListsImage (t : TableRows) (tells : Tells) (old new : State) (written_before written_now : Option (List ℕ))
    (sink_before sink_now : ℕ) (answer : Outcome) : Type 0 where
  pub looks : OnlyLooks tells old new
  pub text : answer ≡ outcome.Done → IsTrue tells.bytes → written_now ≡ followed_by written_before (listing_in t old.held)
  pub part : IsTrue tells.bytes → (k : ℕ) × (written_now ≡ followed_by written_before (take k (listing_in t old.held)))
  -- Where the disk failed and the output didn't, all lines went out that some first blocks of the run decide: none waits, and
  -- none is cut.
  pub drained : answer ≡ outcome.DiskFault → IsTrue tells.bytes → (Rose sink_before sink_now → ⊥)
      → ListsRead t (header_in old.held).version (run_in old.held) written_before written_now
  pub good : (answer ≡ outcome.Done) ⊎ (answer ≡ outcome.WriteFault) → IsTrue tells.bytes → IsFor t.frame.words old.held
  -- Nothing was written, or the image is one for the table's frames.
  pub begun : (written_now ≡ written_before) ⊎ (IsTrue tells.bytes → IsFor t.frame.words old.held)
  pub image : RefusesImage t tells old new answer

-- An image was opened to be listed: its header was read, it is for the table's frames, and there is memory for reading its bits.
pub record IsOpened (t : TableRows) (tells : Tells) (old new : State) (r : ImageReader) : Type 0 where
  pub limits : IsInLimits r.header
  pub whole : image_size r.header ≤ new.extent
  pub header : IsTrue tells.bytes → r.header ≡ header_in old.held
  pub image : IsTrue tells.bytes → IsFor t.frame.words old.held
  pub fresh : ReadsEvents t r.events (decided_past t.frame.words [])

-- the answer where reading an image's header for the table's frames ends with this fault
abbrev pub opening_refusal : HeaderFault → Outcome
opening_refusal (header.Image why) = outcome.ImageRefused why
opening_refusal (header.WordsDiffer image table) = outcome.WordsDiffer image table
opening_refusal header.DiskFault = outcome.DiskFault

-- The answer is one where no image is opened.
abbrev pub RefusesOpening : Outcome → Type 0
RefusesOpening outcome.Done = ⊥
RefusesOpening outcome.Usage = ⊥
RefusesOpening (outcome.TableRefused row f) = ⊥
RefusesOpening (outcome.TraceRefused index why) = ⊥
RefusesOpening (outcome.ImageRefused why) = Unit {0}
RefusesOpening outcome.NotEmpty = ⊥
RefusesOpening (outcome.WordsDiffer image table) = Unit {0}
RefusesOpening outcome.SeqEnd = ⊥
RefusesOpening (outcome.ReadFault i) = ⊥
RefusesOpening outcome.WriteFault = ⊥
RefusesOpening outcome.DiskFault = Unit {0}
RefusesOpening outcome.TooLong = ⊥
RefusesOpening outcome.NoMemory = Unit {0}
RefusesOpening outcome.OldVersion = ⊥
RefusesOpening (outcome.CellFault at) = ⊥
RefusesOpening (outcome.RuleRefused row f) = ⊥
