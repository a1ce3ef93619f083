-- What the start of a recording on two disks leaves.
use Rattle.std.specs.Prelude.{◌≡◌, ◌⊎◌, ◌≤◌, ◌-◌, ℕ, max, List, [], Option, Some, None, IsTrue}
use Rattle.std.specs.Option.{ForSome}
use Rattle.fdr_io.specs.Faults.{Rose}
use Rattle.fdr_deck.specs.State.{Tells}
use Rattle.fdr_deck.specs.Disk.{IsSettled}
use Rattle.fdr_slot.specs.declared.image.ImageFault.{ImageFault}
use Rattle.fdr_slot.specs.declared.image.Header.{Header}
use Rattle.fdr_recover.specs.Blocks.{Block}
use Rattle.fdr_recover.specs.Images.{recovered_run, next_of}
use Rattle.fdr_recover.specs.ImageHeader.{image_fault_of, header_in}
use Rattle.fdr_recover.specs.Payloads.{run_in}
use Rattle.fdr_ring.specs.Gates.{KeepsHeader}
use Rattle.fdr_ring.specs.Runs.{last_blocks}
use Rattle.fdr_ring.specs.declared.ring.Ring.{Ring}
use Rattle.fdr_table.specs.Rows.{TableRows}
use Rattle.fdr_trace.specs.Reading.{RepresentsTrace}
use Rattle.fdr_twin.specs.declared.side.Side.{Side}
use Rattle.fdr_twin.specs.declared.side.Side.TheVariants.{First, Second}
use Rattle.fdr_twin.specs.Pair.{Pair, disk_on, image_on, seen}
use Rattle.fdr_twin.specs.Rest.{PairElapses}
use Rattle.fdr_twin.specs.Serving.{EachPairMoment}
use Rattle.fdr_recorder.specs.NewBlocks.{next_in}
use Rattle.fdr_recorder.specs.Past.{past_at_start, session_of}
use Rattle.fdr_pair.specs.Numbers.{KeepsLine, HasPulled}
use Rattle.fdr_pair.specs.Brought.{brought_run}
use Rattle.fdr_pair.specs.Alike.{AreAlike, lead_on, follower_on, lead_image, follower_image}
use Rattle.fdr_pair.specs.PairMoments.{MayRecordPair, HasFailedBy, KeepsRunUntilPull, KeepsRunWith, StaysAsAtEntry}
use Rattle.fdr_pair.specs.SideKeeping.{KeepsRecording}
use Rattle.fdr_pair.specs.Traces.{IsPairBegun}
use Rattle.fdr_pair.specs.Bringing.{HasNoFault}
use Rattle.fdr_pair.specs.Opening.{AreCountsBelowMost}
use Rattle.fdr_pair.specs.PairWork.{LeavesLine}
use Rattle.fdr_pair.specs.PairStages.{LeavesPairLine, IsPastPairTable}
use Rattle.fdr_pair.specs.PairRun.{RefusesHeaders, RefusesRuns, LeavesPair, HasPairCause, OnlyLooksAtPair}
use Rattle.fdr_pair.specs.declared.outcome.PairOutcome.{PairOutcome}
use Rattle.fdr_pair.specs.declared.outcome.PairOutcome.TheVariants as outcome
use Rattle.fdr_pair.specs.declared.rings.PairRings.{PairRings}
use Rattle.fdr_pair.specs.declared.start.PairStart.{PairStart}
use Rattle.fdr_pair.specs.SideCounts.{CountsBoth}

-- the ring of a side, or None where it has failed
abbrev pub ring_on : Side → PairRings → Option Ring
ring_on First rings = rings.first
ring_on Second rings = rings.second

-- The image of a side holds the last N - 1 blocks of this run, whose next number is `next`. Length and header are as they were.
pub record HoldsRun (h : Header) (side : Side) (run : List Block) (next : ℕ) (old new : Pair) : Type 0 where
  pub kept : KeepsHeader (disk_on side old).held (disk_on side new).held
  pub last : recovered_run h (disk_on side new).held ≡ last_blocks (h.slots - 1) run
  pub number : next_of h (disk_on side new).held ≡ next

-- A side has failed, or its image holds this run.
abbrev pub StartsOnRun : Option Ring → Header → Side → List Block → ℕ → Pair → Pair → Type 0
StartsOnRun None h side run next old new = Rose (disk_on side old).faults (disk_on side new).faults
StartsOnRun (Some r) h side run next old new = HoldsRun h side run next old new

-- The recording goes on from the lead's run, on which both sides are that haven't failed.
pub record StartsWithLead (words : ℕ) (rings : PairRings) (session : ℕ) (old new : Pair) : Type 0 where
  pub header : rings.header ≡ header_in (lead_image old)
  pub next : rings.next ≡ next_in (lead_image old)
  pub after : session ≡ session_of (run_in (lead_image old))
  pub lead : StartsOnRun (ring_on (lead_on old) rings) rings.header (lead_on old) (run_in (lead_image old)) rings.next old new
  pub follower : (AreAlike words old × StartsOnRun (ring_on (follower_on old) rings) rings.header (follower_on old)
      (brought_run rings.header (lead_image old) (follower_image old)) rings.next old new)
      ⊎ ((ring_on (follower_on old) rings ≡ None) × Rose (disk_on (follower_on old) old).faults (disk_on (follower_on old) new).faults)

-- The lead has failed, and the recording goes on from the run of the other side.
pub record StartsWithoutLead (words : ℕ) (rings : PairRings) (session : ℕ) (old new : Pair) : Type 0 where
  pub header : rings.header ≡ header_in (follower_image old)
  pub next : rings.next ≡ next_in (follower_image old)
  pub after : session ≡ session_of (run_in (follower_image old))
  pub lead : (ring_on (lead_on old) rings ≡ None) × Rose (disk_on (lead_on old) old).faults (disk_on (lead_on old) new).faults
  pub follower : StartsOnRun (ring_on (follower_on old) rings) rings.header (follower_on old) (run_in (follower_image old)) rings.next old new

-- What both images keep while a recording starts: the lead's its run and every announced block, the other's its own run, and
-- where both are alike the first of the blocks that its brought run adds. An image whose header doesn't read stays as it was.
pub record KeepsAtStart (words : ℕ) (tells : Tells) (old new : Pair) : Type 0 where
  pub lead : image_fault_of (lead_image old) ≡ None → MayRecordPair old → EachPairMoment tells old new
      (λ m. HasFailedBy (lead_on old) old m ⊎ KeepsRecording (header_in (lead_image old)) (lead_image old) (run_in (lead_image old))
      (next_in (lead_image old)) [] m.announced (image_on (lead_on old) m))
  pub lead_run : image_fault_of (lead_image old) ≡ None → MayRecordPair old → EachPairMoment tells old new (KeepsRunWith (lead_on old) [] old)
  pub follower : image_fault_of (follower_image old) ≡ None → MayRecordPair old → EachPairMoment tells old new (KeepsRunUntilPull words old)
  pub unread : (side : Side) (why : ImageFault) → image_fault_of (disk_on side old).held ≡ Some why → IsSettled (seen side old)
      → EachPairMoment tells old new (StaysAsAtEntry side old)
  pub unpulled : EachPairMoment tells old new (HasPulled old)

-- The side has failed, or its image has no fault and this header.
abbrev pub HasHeaderUnlessFailed : Header → Side → Pair → Pair → Type 0
HasHeaderUnlessFailed h side old new = Rose (disk_on side old).faults (disk_on side new).faults
    ⊎ ((image_fault_of (disk_on side old).held ≡ None) × (h ≡ header_in (disk_on side old).held))

-- Each side that hasn't failed has an image with this header, of version 2 and for frames of this count of words in a subframe.
pub record HaveRightHeader (words : ℕ) (h : Header) (old new : Pair) : Type 0 where
  pub first : HasHeaderUnlessFailed h First old new
  pub second : HasHeaderUnlessFailed h Second old new
  pub count : h.words ≡ words
  pub version : h.version ≡ 2

-- What is so where a recording on two disks by this table isn't started, for this reason: which refusal is answered, what caused
-- it and what it leaves, and what both images keep meanwhile.
pub record IsStartRefused (t : TableRows) (tells : Tells) (old new : Pair) (why : PairOutcome) : Type 0 where
  pub past : IsPastPairTable why ⊎ (why ≡ outcome.NoMemory)
  pub time : PairElapses old new
  pub counts : CountsBoth old new
  pub line : LeavesPairLine why ⊎ (why ≡ outcome.DiskFault)
  pub unpulled : LeavesLine old new
  pub keeps : KeepsAtStart t.frame.words tells old new
  pub headers : RefusesHeaders t.frame.words tells old new why
  pub runs : RefusesRuns t.frame.words tells old new why
  pub leaves : LeavesPair tells old new why
  pub causes : HasPairCause t.frame.words tells old new why
  pub memory : why ≡ outcome.NoMemory → OnlyLooksAtPair tells old new why

-- The count of faults of a side that has this ring is as it was, and that of one without a ring rose.
abbrev pub IsCountedByRing : Option Ring → ℕ → ℕ → Type 0
IsCountedByRing None old new = Rose old new
IsCountedByRing (Some r) old new = new ≡ old

-- A recording on two disks by this table was started: the session has the rings, the next number and the session's number of the
-- run that it goes on from, the next number is announced, and nothing was pulled.
pub record IsPairStarted (t : TableRows) (tells : Tells) (s : PairStart) (old new : Pair) : Type 0 where
  pub trace : RepresentsTrace s.trace [] []
  pub begun : IsPairBegun tells s.session (past_at_start t s.session.rings.header s.session.rings.next s.session.session) new
  pub time : PairElapses old new
  pub counted : CountsBoth old new
  pub line : KeepsLine old new
  pub greatest : new.greatest ≤ max old.greatest s.session.rings.next
  pub counts : (side : Side) → IsCountedByRing (ring_on side s.session.rings) (disk_on side old).faults (disk_on side new).faults
  pub keeps : KeepsAtStart t.frame.words tells old new
  pub header : IsTrue tells.bytes → HaveRightHeader t.frame.words s.session.rings.header old new
  pub read : IsTrue tells.bytes → (side : Side) → ForSome (ring_on side s.session.rings) (λ r. image_fault_of (disk_on side old).held ≡ None)
  pub near : IsTrue tells.bytes → AreCountsBelowMost new → HasNoFault old new → AreAlike t.frame.words old
  pub goes_on : IsTrue tells.bytes → StartsWithLead t.frame.words s.session.rings s.session.session old new
      ⊎ StartsWithoutLead t.frame.words s.session.rings s.session.session old new
