-- What calls that record blocks leave, at each moment and in the end.
use Rattle.std.specs.Prelude.{◌≡◌, ◌<◌, ◌≤◌, ℕ, ◌+◌, ◌-◌, max, List, ◌++◌, length, take, IsTrue}
use Rattle.fdr_deck.specs.State.{Moment, State, Tells}
use Rattle.fdr_deck.specs.Disk.{IsSettled}
use Rattle.fdr_deck.specs.Moments.{HasSamePulls, Elapses, EachMoment}
use Rattle.fdr_deck.specs.Pull.{KeepsInput}
use Rattle.fdr_slot.specs.Limits.{sequence_end}
use Rattle.fdr_slot.specs.declared.image.Header.{Header}
use Rattle.fdr_recover.specs.Blocks.{Block}
use Rattle.fdr_recover.specs.Images.{recovered_run, next_of}
use Rattle.fdr_ring.specs.Runs.{last_blocks}
use Rattle.fdr_ring.specs.Rings.{IsRing, IsSureRing}
use Rattle.fdr_recorder.specs.Keeping.{RecoversPrefix, RecoversAll}

-- A recording may go on with this number: the disk is settled, and no number above it may have been announced.
pub record IsReady (next : ℕ) (d : State) : Type 0 where
  pub settled : IsSettled d
  pub greatest : d.greatest ≤ next

-- This number is announced, and it is at most one more than the greater of a mark and the least announced number.
pub record IsNear (next mark : ℕ) (d : State) : Type 0 where
  pub announced : d.announced ≡ next
  pub least : next ≤ max mark d.least + 1

-- A moment while these blocks are recorded: the image keeps the run at entry and the first of them (`RecoversPrefix`), and
-- nothing is pulled.
pub record IsRecordingMoment (h : Header) (entry : State) (new : List Block) (m : Moment) : Type 0 where
  pub image : RecoversPrefix h entry.held (recovered_run h entry.held) new m.announced m.image
  pub least : entry.least ≤ m.announced
  pub pulled : HasSamePulls entry m

-- At this moment at most one recorded block after the mark isn't announced.
abbrev pub IsClose : Header → ℕ → Moment → Type 0
IsClose h mark m = next_of h m.image ≤ max mark m.announced + 1

-- What calls that record these blocks, from this number on, leave whatever they answer: at each moment, the blocks that come to
-- stand are the first of these, and nothing is pulled.
pub record RecordsFirstOf (tells : Tells) (h : Header) (next : ℕ) (new : List Block) (old now : State) : Type 0 where
  pub time : Elapses tells old now
  pub moments : IsReady next old → EachMoment tells old now (IsRecordingMoment h old new)
  pub close : (mark : ℕ) → IsReady next old → IsNear next mark old → EachMoment tells old now (IsClose h mark)
  -- on any disk, the numbers of bytes pulled are those at entry
  pub pulled : EachMoment tells old now (HasSamePulls old)
  pub input : KeepsInput old now
  pub input_faults : now.input_faults ≡ old.input_faults
  pub disk_faults : old.disk_faults ≤ now.disk_faults
  pub extent : now.extent ≡ old.extent
  -- no number below the least at entry may be announced, and none above the next one after these blocks
  pub least : old.greatest ≤ next → old.least ≤ now.least
  pub greatest : old.greatest ≤ next → now.greatest ≤ next + length new

-- All of these blocks are after the run, and are announced.
pub record RecordsAllOf (tells : Tells) (h : Header) (next : ℕ) (new : List Block) (old now : State) : Type 0 where
  pub fact : IsRing tells h next old → IsRing tells h (next + length new) now
  pub sure : IsSureRing tells h next old → IsSureRing tells h (next + length new) now
  pub keeps : IsTrue tells.bytes → RecoversAll h old.held (recovered_run h old.held) new now.held
  -- of a list that the run at entry is the last N - 1 blocks of, the run is the last N - 1 with the new ones after it
  pub last : IsTrue tells.bytes → (whole : List Block) → recovered_run h old.held ≡ last_blocks (h.slots - 1) whole
      → recovered_run h now.held ≡ last_blocks (h.slots - 1) (whole ++ new)
  pub settled : IsTrue tells.stops → IsSettled old → IsSettled now
  pub announced : old.announced ≡ next → now.announced ≡ next + length new
  pub greatest : old.greatest ≤ next → now.greatest ≤ next + length new
  pub least : old.greatest ≤ next → old.least ≤ now.least
  pub near : (mark : ℕ) → IsNear next mark old → IsNear (next + length new) mark now
  pub disk_faults : now.disk_faults ≡ old.disk_faults

-- The numbers ended among these blocks: those before that stand and are announced, and nothing else was done.
pub record HasEnded (tells : Tells) (h : Header) (next : ℕ) (new : List Block) (old now : State) : Type 0 where
  pub beyond : sequence_end < next + length new
  pub recorded : RecordsAllOf tells h next (take (sequence_end - next) new) old now
