-- The blocks that a recording adds to an image, at every moment and in the end.
use Rattle.std.specs.Prelude.{◌≡◌, ◌⊎◌, ◌<◌, ◌≤◌, ℕ, ◌+◌, ◌-◌, max, List, ◌++◌, length, take, IsTrue}
use Rattle.fdr_bus.specs.declared.BusRecord.{BusRecord}
use Rattle.fdr_deck.specs.State.{Moment, State, Tells}
use Rattle.fdr_deck.specs.Disk.{IsSettled}
use Rattle.fdr_deck.specs.Moments.{Elapses, EachMoment}
use Rattle.fdr_slot.specs.Limits.{sequence_end}
use Rattle.fdr_slot.specs.declared.image.Header.{Header}
use Rattle.fdr_recover.specs.Blocks.{Block}
use Rattle.fdr_recover.specs.Images.{next_of, recovered_run}
use Rattle.fdr_recover.specs.ImageHeader.{header_in, IsFor}
use Rattle.fdr_recover.specs.Payloads.{run_in}
use Rattle.fdr_ring.specs.Runs.{IsTail, last_blocks}
use Rattle.fdr_table.specs.Rows.{TableRows}
use Rattle.fdr_stream.specs.Blocks.{due_blocks}
use Rattle.fdr_recorder.specs.Keeping.{RecoversPrefix, RecoversPrefixAfter}
use Rattle.fdr_recorder.specs.Past.{RecordingPast, all_blocks, session_of}
use Rattle.fdr_recorder.specs.Recording.{IsClose, IsReady}

-- the number of the next block of an image, by its own header
abbrev pub next_in : List ℕ → ℕ
next_in image = next_of (header_in image) image

-- a session of these records in an image, by the image's own header, next number and last session
abbrev pub past_in : TableRows → List ℕ → List BusRecord → RecordingPast
past_in t image records =
    record { table = t; header = header_in image; first = next_in image; session = session_of (run_in image); records = records }

-- the blocks that a recording of these records adds to an image: those of their stream, with numbers that go on from the image's
-- next, and with the session after that of the image's last block
abbrev pub new_blocks : TableRows → List ℕ → List BusRecord → List Block
new_blocks t image records = all_blocks (past_in t image records)

-- the number that is announced once all blocks stand that are due at these records: `first` and as many as there are
abbrev pub owed_number : TableRows → Header → ℕ → List BusRecord → ℕ
owed_number t h first records = first + due_blocks t h.payload records

-- What the promises on stops ask of the disk: it is settled, and no number above the image's next was announced.
abbrev pub MayRecord : State → Type 0
MayRecord d = IsReady (next_in d.held) d

-- A moment of a recording of these records: the image keeps the blocks at entry and the first of the new ones, except for the
-- oldest; all announced ones are among them, or older than those that are promised; and at most one of them isn't announced.
pub record IsBlockMoment (t : TableRows) (entry : State) (records : List BusRecord) (m : Moment) : Type 0 where
  -- A stop leaves the blocks at entry and the first of the new ones, except the oldest; all that were announced are among
  -- them, or older than those that are promised.
  pub keeps : RecoversPrefix (header_in entry.held) entry.held (run_in entry.held) (new_blocks t entry.held records) m.announced m.image
  -- At most one recorded block isn't announced.
  pub close : IsClose (header_in entry.held) (next_in entry.held) m

-- These blocks stand after the run at entry, of which the last N - 1 are left, and are announced. The header says what it said,
-- and where stops are told, the disk is settled.
pub record AddsToRun (tells : Tells) (blocks : List Block) (old new : State) : Type 0 where
  pub header : header_in new.held ≡ header_in old.held
  pub run : recovered_run (header_in old.held) new.held
      ≡ last_blocks ((header_in old.held).slots - 1) (run_in old.held ++ blocks)
  pub next : next_of (header_in old.held) new.held ≡ next_in old.held + length blocks
  pub announced : new.announced ≡ next_in old.held + length blocks
  pub settled : IsTrue tells.stops → IsSettled new

-- What a recording of these records does: what a stop leaves at each moment, that many recordings wear nothing away, what stands
-- in the end where `all` is recorded or the numbers are `used_up`, that a further recording may follow, and that the image is of
-- version 2.
pub record RecordsBlocks (t : TableRows) (tells : Tells) (records : List BusRecord) (old new : State) (all used_up : Type 0)
    : Type 0 where
  pub time : Elapses tells old new
  pub moments : MayRecord old → EachMoment tells old new (IsBlockMoment t old records)
  -- So many recordings one after another wear nothing away: the run at entry may be the last blocks of any list.
  pub chain : (whole : List Block) → IsTail ((header_in old.held).slots - 2) whole (run_in old.held) → MayRecord old
      → EachMoment tells old new (λ (m : Moment). RecoversPrefixAfter (header_in old.held) whole (new_blocks t old.held records) m.image)
  pub recorded : all → IsTrue tells.bytes → AddsToRun tells (new_blocks t old.held records) old new
  pub within : all → IsTrue tells.bytes → next_in old.held + length (new_blocks t old.held records) ≤ sequence_end
  -- A further recording may follow at once, and at most one recorded block isn't announced by what may stand announced now.
  pub ready : all → IsTrue tells.stops → MayRecord old → MayRecord new
  pub near : all → IsTrue tells.bytes → MayRecord old
      → next_in old.held + length (new_blocks t old.held records) ≤ max (next_in old.held) new.least + 1
  pub seq_end : used_up → IsTrue tells.bytes
      → AddsToRun tells (take (sequence_end - next_in old.held) (new_blocks t old.held records)) old new
  pub beyond : used_up → IsTrue tells.bytes → sequence_end < next_in old.held + length (new_blocks t old.held records)
  pub good : all ⊎ used_up → IsTrue tells.bytes → IsFor t.frame.words old.held
  -- The image is of version 2, which has sessions.
  pub current : all ⊎ used_up → IsTrue tells.bytes → (header_in old.held).version ≡ 2
