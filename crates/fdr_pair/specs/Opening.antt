-- The headers of both images, with which a recording on two disks starts.
use Rattle.std.specs.Prelude.{◌≡◌, ◌≢◌, ◌⊎◌, ◌↔◌, ◌<◌, ◌≤◌, ◌-◌, ◌^◌, ◌&&◌, ℕ, Bool}
use Rattle.std.specs.Prelude.{List, nat_eq, nat_lt, if◌then◌else◌, Option, Some, None, Result, Ok, Err, IsTrue, ⊤}
use Rattle.fdr_io.specs.Faults.{Rose}
use Rattle.fdr_deck.specs.State.{Tells}
use Rattle.fdr_deck.specs.Disk.{KeepsDisk, LearnsExtent}
use Rattle.fdr_slot.specs.declared.image.Header.{Header}
use Rattle.fdr_slot.specs.declared.image.ImageFault.{ImageFault}
use Rattle.fdr_slot.specs.declared.image.ImageFault.TheVariants as image_fault
use Rattle.fdr_slot.specs.Limits.{IsInLimits}
use Rattle.fdr_slot.specs.Places.{image_size}
use Rattle.fdr_recover.specs.declared.error.RingFault.{RingFault}
use Rattle.fdr_recover.specs.declared.error.RingFault.TheVariants as ring
use Rattle.fdr_recover.specs.ImageHeader.{image_fault_of, header_in}
use Rattle.fdr_twin.specs.declared.side.Side.{Side}
use Rattle.fdr_twin.specs.declared.side.Side.TheVariants as side
use Rattle.fdr_twin.specs.Pair.{Pair, Disk, disk_on, seen}
use Rattle.fdr_pair.specs.Bringing.{HasNoFault, HasFailedAlone}
use Rattle.fdr_pair.specs.declared.outcome.PairOutcome.{PairOutcome}
use Rattle.fdr_pair.specs.declared.outcome.PairOutcome.TheVariants as outcome
use Rattle.fdr_pair.specs.declared.open.SideHeader.{SideHeader}
use Rattle.fdr_pair.specs.declared.open.SideHeader.TheVariants as header
use Rattle.fdr_pair.specs.declared.open.LivingSides.{LivingSides}
use Rattle.fdr_pair.specs.declared.open.LivingSides.TheVariants as living
use Rattle.fdr_pair.specs.declared.open.Opened.{Opened}

-- what reading the header of a side gives, by the answer of reading it on a deck: a header, a fault of the image, or one of the
-- disk; there is no other
abbrev pub side_header : Result Header RingFault → SideHeader
side_header (Ok h) = header.Read h
side_header (Err (ring.Image why)) = header.Refused why
side_header (Err ring.DiskFault) = header.Failed
side_header (Err ring.NotEmpty) = header.Failed
side_header (Err ring.SeqEnd) = header.Failed

-- what reading a header gives of an image with this first fault, or of one that has none and this header
abbrev pub header_or_fault : Option ImageFault → Header → SideHeader
header_or_fault None h = header.Read h
header_or_fault (Some why) h = header.Refused why

-- what reading the header of an image gives on a disk that doesn't fail: the header, or the first fault of the image
abbrev pub header_read : List ℕ → SideHeader
header_read image = header_or_fault (image_fault_of image) (header_in image)

-- what reading the header of a disk gives, by its counts of faults before and after: where the count rose, the disk failed
abbrev pub header_after : Disk → Disk → SideHeader
header_after old new = if nat_lt old.faults new.faults then header.Failed else header_read old.held

-- whether two headers are the same in the slots, the payload, the words and the version
abbrev pub same_header : Header → Header → Bool
same_header h k = nat_eq h.slots k.slots && nat_eq h.payload k.payload && nat_eq h.words k.words && nat_eq h.version k.version

-- the header of the sides that haven't failed, by what was read of each; or the first refusal of these: both failed, the first
-- image is refused, the second is, and the headers differ
abbrev pub common_header : SideHeader → SideHeader → Result Opened PairOutcome
common_header header.Failed header.Failed = Err outcome.DiskFault
common_header (header.Refused why) second = Err (outcome.ImageRefused side.First why)
common_header header.Failed (header.Refused why) = Err (outcome.ImageRefused side.Second why)
common_header (header.Read h) (header.Refused why) = Err (outcome.ImageRefused side.Second why)
common_header (header.Read h) header.Failed = Ok (record { header = h; living = living.OnlyFirst })
common_header header.Failed (header.Read h) = Ok (record { header = h; living = living.OnlySecond })
common_header (header.Read h) (header.Read k) =
    if same_header h k then Ok (record { header = h; living = living.Both }) else Err outcome.HeadersDiffer

-- what is wrong with a header for frames of this count of words in a subframe: it is for frames of other words, or it is of
-- version 1, of which the first is named; or None
abbrev pub frame_refusal : ℕ → Header → Option PairOutcome
frame_refusal words h =
    if nat_eq h.words words then (if nat_eq h.version 1 then Some outcome.OldVersion else None) else Some (outcome.WordsDiffer h.words words)

-- the header that was opened, unless there is this refusal
abbrev pub opened_unless : Option PairOutcome → Opened → Result Opened PairOutcome
opened_unless None opened = Ok opened
opened_unless (Some why) opened = Err why

-- sides that have a common header and are to record frames of this count of words in a subframe, or the first refusal
abbrev pub checked : ℕ → Result Opened PairOutcome → Result Opened PairOutcome
checked words (Ok opened) = opened_unless (frame_refusal words opened.header) opened
checked words (Err why) = Err why

-- the answer of opening both sides for frames of this count of words in a subframe, by what was read of each side's header: what
-- is common to the sides that haven't failed, or the first refusal
abbrev pub opening : ℕ → SideHeader → SideHeader → Result Opened PairOutcome
opening words first second = checked words (common_header first second)

-- What was read of a side's header is what its image says, or the side failed.
abbrev pub IsReadOf : SideHeader → List ℕ → Type 0
IsReadOf header.Failed image = ⊤
IsReadOf (header.Refused why) image = header.Refused why ≡ header_read image
IsReadOf (header.Read h) image = header.Read h ≡ header_read image

-- What was read of a side's header fits the length of the disk: a header is in limits and the disk has room for its image, and
-- an image is refused as too small exactly where the disk has fewer than 64 bytes.
abbrev pub FitsExtent : SideHeader → ℕ → Type 0
FitsExtent header.Failed extent = ⊤
FitsExtent (header.Refused why) extent = (why ≡ image_fault.Small) ↔ (extent < 64)
FitsExtent (header.Read h) extent = IsInLimits h × (image_size h ≤ extent)

-- A side failed only where its count of faults rose, and else the count is as it was.
abbrev pub IsCountedAs : SideHeader → ℕ → ℕ → Type 0
IsCountedAs header.Failed old new = Rose old new
IsCountedAs (header.Refused why) old new = new ≡ old
IsCountedAs (header.Read h) old new = new ≡ old

-- The disk of a side was only looked at: what it holds and what a stop may leave are as they were. Its length may have been
-- learned.
pub record LooksAtSide (tells : Tells) (side : Side) (old new : Pair) : Type 0 where
  pub extent : LearnsExtent tells (seen side old) (seen side new)
  pub disk : KeepsDisk (seen side old) (seen side new)

-- This was read of the header of a side.
pub record ReadsHeader (tells : Tells) (side : Side) (r : SideHeader) (old new : Pair) : Type 0 where
  pub read : IsTrue tells.bytes → IsReadOf r (disk_on side old).held
  pub fits : FitsExtent r (disk_on side new).extent
  pub faults : IsCountedAs r (disk_on side old).faults (disk_on side new).faults
  pub looks : LooksAtSide tells side old new

-- No count of faults is at its greatest, at which it no longer shows whether the side failed.
pub record AreCountsBelowMost (p : Pair) : Type 0 where
  pub first : p.first.faults < 2 ^ 64 - 1
  pub second : p.second.faults < 2 ^ 64 - 1

-- The answer is one that the headers of the images give.
abbrev pub IsHeaderAnswer : PairOutcome → Type 0
IsHeaderAnswer answer = ((s : Side) × (why : ImageFault) × (answer ≡ outcome.ImageRefused s why)) ⊎ ((answer ≡ outcome.HeadersDiffer)
    ⊎ (((image : ℕ) × (table : ℕ) × (answer ≡ outcome.WordsDiffer image table)) ⊎ (answer ≡ outcome.OldVersion)))

-- what is read of the header of a side, unless this is the side that failed
abbrev pub read_unless : Option Side → Side → SideHeader → SideHeader
read_unless (Some side.First) side.First read = header.Failed
read_unless (Some side.Second) side.Second read = header.Failed
read_unless failed side read = read

-- The headers give this refusal, by which side failed, if one did: its count of faults rose, and the other's is as it was. It is
-- so whatever the counts are.
pub record IsRefusedByHeaders (words : ℕ) (old new : Pair) (why : PairOutcome) : Type 0 where
  pub failed : Option Side
  pub rose : (side : Side) → failed ≡ Some side → Rose (disk_on side old).faults (disk_on side new).faults
  pub only : (side : Side) → (failed ≡ Some side) ⊎ ((disk_on side new).faults ≡ (disk_on side old).faults)
  pub refused : opening words (read_unless failed side.First (header_read old.first.held))
      (read_unless failed side.Second (header_read old.second.held)) ≡ Err why

-- An image has no fault, and is of version 2 and for frames of this count of words in a subframe.
pub record IsRightImage (words : ℕ) (image : List ℕ) : Type 0 where
  pub no_fault : image_fault_of image ≡ None
  pub count : (header_in image).words ≡ words
  pub version : (header_in image).version ≡ 2

-- Exactly these sides haven't failed: the count of each of the others rose.
abbrev pub AreLiving : LivingSides → Pair → Pair → Type 0
AreLiving living.Both old new = HasNoFault old new
AreLiving living.OnlyFirst old new = HasFailedAlone side.Second old new
AreLiving living.OnlySecond old new = HasFailedAlone side.First old new

-- Each of these sides has the property P.
abbrev pub OnLiving : LivingSides → (Side → Type 0) → Type 0
OnLiving living.Both P = P side.First × P side.Second
OnLiving living.OnlyFirst P = P side.First
OnLiving living.OnlySecond P = P side.Second

-- The header is in limits and that of a side's image, which has no fault and for which the disk has room.
pub record IsHeaderOn (tells : Tells) (h : Header) (side : Side) (old new : Pair) : Type 0 where
  pub limits : IsInLimits h
  pub whole : image_size h ≤ (disk_on side new).extent
  pub read : IsTrue tells.bytes → h ≡ header_in (disk_on side old).held
  pub no_fault : IsTrue tells.bytes → image_fault_of (disk_on side old).held ≡ None

-- At least one side hasn't failed.
abbrev pub HasLivingSide : Pair → Pair → Type 0
HasLivingSide old new = (new.first.faults ≡ old.first.faults) ⊎ (new.second.faults ≡ old.second.faults)

-- What a refusal of both sides says, whatever the disks tell. DiskFault: both counts rose. ImageRefused: the side hasn't failed,
-- and is too small exactly where it has fewer than 64 bytes. HeadersDiffer: no side failed. WordsDiffer: the words are other ones
-- than asked for, and a side hasn't failed. OldVersion: a side hasn't failed. No other refusal comes.
abbrev pub IsOpeningRefusal : ℕ → PairOutcome → Pair → Pair → Type 0
IsOpeningRefusal words outcome.DiskFault old new =
    Rose old.first.faults new.first.faults × Rose old.second.faults new.second.faults
IsOpeningRefusal words (outcome.ImageRefused s why) old new =
    ((disk_on s new).faults ≡ (disk_on s old).faults) × ((why ≡ image_fault.Small) ↔ ((disk_on s new).extent < 64))
IsOpeningRefusal words outcome.HeadersDiffer old new = HasNoFault old new
IsOpeningRefusal words (outcome.WordsDiffer image table) old new = (table ≡ words) × (image ≢ words) × HasLivingSide old new
IsOpeningRefusal words outcome.OldVersion old new = HasLivingSide old new
IsOpeningRefusal words outcome.Done old new = ⊥
IsOpeningRefusal words outcome.Usage old new = ⊥
IsOpeningRefusal words (outcome.TableRefused row f) old new = ⊥
IsOpeningRefusal words (outcome.TraceRefused index f) old new = ⊥
IsOpeningRefusal words outcome.SeqEnd old new = ⊥
IsOpeningRefusal words (outcome.ReadFault i) old new = ⊥
IsOpeningRefusal words outcome.NoMemory old new = ⊥
IsOpeningRefusal words (outcome.BlocksDiffer seq) old new = ⊥
IsOpeningRefusal words (outcome.LeadFault s) old new = ⊥
IsOpeningRefusal words (outcome.FarBehind s) old new = ⊥
