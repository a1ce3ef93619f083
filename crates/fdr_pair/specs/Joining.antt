-- How the side that doesn't lead was brought up to the lead.
use Rattle.std.specs.Prelude.{◌≡◌, ◌<◌, ◌≤◌, ◌-◌, ℕ, Some, IsTrue}
use Rattle.fdr_deck.specs.State.{Tells}
use Rattle.fdr_deck.specs.Disk.{IsSettled}
use Rattle.fdr_slot.specs.declared.image.Header.{Header}
use Rattle.fdr_slot.specs.Places.{image_size}
use Rattle.fdr_recover.specs.Images.{recovered_run, next_of}
use Rattle.fdr_recover.specs.declared.run.Found.{Found}
use Rattle.fdr_ring.specs.Gates.{KeepsHeader}
use Rattle.fdr_ring.specs.Runs.{last_blocks}
use Rattle.fdr_ring.specs.declared.ring.Ring.{Ring}
use Rattle.fdr_twin.specs.declared.side.Side.{Side}
use Rattle.fdr_twin.specs.declared.side.Side.TheVariants.{First, Second}
use Rattle.fdr_twin.specs.Pair.{Pair, PairMoment, other_side, disk_on, image_on, seen}
use Rattle.fdr_recorder.specs.Keeping.{RecoversPrefix}
use Rattle.fdr_pair.specs.SidePuts.{IsSettledRing}
use Rattle.fdr_pair.specs.SideRuns.{IsRunOn}
use Rattle.fdr_pair.specs.PairWork.{IsSameContent, IsLookedAt}
use Rattle.fdr_pair.specs.Brought.{leader_by, brought_run, missing_blocks, IsFarBehind}
use Rattle.fdr_pair.specs.Bringing.{HasBrought, HasNoFault, HasFailedAlone}
use Rattle.fdr_pair.specs.declared.join.Follower.{Follower}
use Rattle.fdr_pair.specs.declared.join.Follower.TheVariants as follower
use Rattle.fdr_pair.specs.declared.join.Joined.{Joined}
use Rattle.fdr_pair.specs.declared.runs.SideRuns.{SideRuns}
use Rattle.fdr_pair.specs.declared.runs.SideRuns.TheVariants as runs
use Rattle.fdr_pair.specs.declared.outcome.PairOutcome.{PairOutcome}
use Rattle.fdr_pair.specs.declared.outcome.PairOutcome.TheVariants as outcome

-- A moment while the side that follows is opened and brought up: the lead's image is one that a stop could leave before, and the
-- other side's, if that was settled, keeps its own run and the first of the blocks that it hasn't. If that side is too far
-- behind, its image is one that a stop could leave before.
pub record IsJoining (h : Header) (lead : Side) (old : Pair) (m : PairMoment) : Type 0 where
  pub lead_image : (disk_on lead old).may_leave (image_on lead m)
  pub follower : IsSettled (seen (other_side lead) old) → RecoversPrefix h (disk_on (other_side lead) old).held
      (recovered_run h (disk_on (other_side lead) old).held)
      (missing_blocks h (disk_on lead old).held (disk_on (other_side lead) old).held) 0 (image_on (other_side lead) m)
  pub far : IsFarBehind h (disk_on lead old).held (disk_on (other_side lead) old).held
      → (disk_on (other_side lead) old).may_leave (image_on (other_side lead) m)

-- The image of the side that follows holds the last N - 1 blocks of its brought run, and has the lead's next number. Length and
-- header are as they were.
pub record IsBroughtUp (h : Header) (lead : Side) (old new : Pair) : Type 0 where
  pub kept : KeepsHeader (disk_on (other_side lead) old).held (disk_on (other_side lead) new).held
  pub run : recovered_run h (disk_on (other_side lead) new).held
      ≡ last_blocks (h.slots - 1) (brought_run h (disk_on lead old).held (disk_on (other_side lead) old).held)
  pub next : next_of h (disk_on (other_side lead) new).held ≡ next_of h (disk_on lead old).held

-- What became of the side that follows, whose ring was attached: it failed, and the lead didn't; or it was brought up to the lead
-- in this ring, whose next number is the lead's.
abbrev pub IsBroughtIn : Tells → Side → Ring → ℕ → Follower → Pair → Pair → Type 0
IsBroughtIn tells lead ring next follower.Failed old new = HasFailedAlone (other_side lead) old new
IsBroughtIn tells lead ring next follower.Level old new = ⊥
IsBroughtIn tells lead ring next (follower.Brought r) old new = (r.next ≡ next) × HasBrought tells lead ring r
    (missing_blocks ring.header (disk_on lead old).held (disk_on (other_side lead) old).held) old new

-- What became of the side that follows, where the lead's next number is this one: it failed, and the lead didn't; it has the same
-- next number, and nothing was done on it; or it was brought up in this ring, on a settled disk.
abbrev pub HasJoined : Tells → Header → Side → ℕ → Follower → Pair → Pair → Type 0
HasJoined tells h lead next follower.Failed old new = HasFailedAlone (other_side lead) old new
HasJoined tells h lead next follower.Level old new = HasNoFault old new
    × IsSameContent (disk_on (other_side lead) old) (disk_on (other_side lead) new)
    × (IsTrue tells.bytes → next_of h (disk_on (other_side lead) old).held ≡ next)
HasJoined tells h lead next (follower.Brought r) old new = HasNoFault old new × (r.header ≡ h) × (r.next ≡ next)
    × IsSettledRing tells (other_side lead) r new × (IsTrue tells.bytes → IsBroughtUp h lead old new)

-- Why the side that follows wasn't brought up to the lead, whose next number is this one. LeadFault: the lead failed alone, and
-- the other side's next number is still below its own. FarBehind: no side failed, nothing was done, and the side that follows is
-- too far behind. BlocksDiffer: no side failed, and the twin doesn't tell its bytes. No other answer comes.
abbrev pub IsJoinRefusal : Tells → Header → Side → ℕ → PairOutcome → Pair → Pair → Type 0
IsJoinRefusal tells h lead next (outcome.LeadFault s) old new = (s ≡ lead) × HasFailedAlone lead old new
    × (IsTrue tells.bytes → next_of h (disk_on (other_side lead) new).held < next)
IsJoinRefusal tells h lead next (outcome.FarBehind s) old new = (s ≡ other_side lead) × HasNoFault old new
    × IsSameContent (disk_on (other_side lead) old) (disk_on (other_side lead) new)
    × (IsTrue tells.bytes → IsFarBehind h (disk_on lead old).held (disk_on (other_side lead) old).held)
IsJoinRefusal tells h lead next (outcome.BlocksDiffer seq) old new = HasNoFault old new × (IsTrue tells.bytes → ⊥)
IsJoinRefusal tells h lead next outcome.Done old new = ⊥
IsJoinRefusal tells h lead next outcome.Usage old new = ⊥
IsJoinRefusal tells h lead next (outcome.TableRefused row f) old new = ⊥
IsJoinRefusal tells h lead next (outcome.TraceRefused index f) old new = ⊥
IsJoinRefusal tells h lead next (outcome.ImageRefused s why) old new = ⊥
IsJoinRefusal tells h lead next (outcome.WordsDiffer image table) old new = ⊥
IsJoinRefusal tells h lead next outcome.SeqEnd old new = ⊥
IsJoinRefusal tells h lead next (outcome.ReadFault i) old new = ⊥
IsJoinRefusal tells h lead next outcome.DiskFault old new = ⊥
IsJoinRefusal tells h lead next outcome.NoMemory old new = ⊥
IsJoinRefusal tells h lead next outcome.OldVersion old new = ⊥
IsJoinRefusal tells h lead next outcome.HeadersDiffer old new = ⊥

-- the side that leads, by what was found of the runs of both
abbrev pub lead_by_found : Found → Found → Side
lead_by_found first second = leader_by (Some first.next) (Some second.next)

-- what was found on a side
abbrev pub found_on : Side → Found → Found → Found
found_on First first second = first
found_on Second first second = second

-- This was found of the run of a side, whose disk has room for an image with this header.
pub record HasRunOn (tells : Tells) (h : Header) (side : Side) (found : Found) (p : Pair) : Type 0 where
  pub whole : image_size h ≤ (disk_on side p).extent
  pub run : IsRunOn tells h side found p

-- These were found of the runs of the sides that haven't failed.
abbrev pub HaveRuns : Tells → Header → SideRuns → Pair → Type 0
HaveRuns tells h (runs.Both first second) p = HasRunOn tells h First first p × HasRunOn tells h Second second p
HaveRuns tells h (runs.Alone side found) p = HasRunOn tells h side found p

-- A moment while the sides with these runs are joined: where one has failed, nothing is done.
abbrev pub JoinMoment : Header → SideRuns → Pair → PairMoment → Type 0
JoinMoment h (runs.Both first second) old m = IsJoining h (lead_by_found first second) old m
JoinMoment h (runs.Alone side found) old m = IsLookedAt old m

-- Both sides were joined: the side leads whose run goes further, and the other isn't too far behind and was brought up to it. The
-- lead is left.
pub record AreBothJoined (tells : Tells) (h : Header) (first second : Found) (j : Joined) (old new : Pair) : Type 0 where
  pub lead : j.lead ≡ lead_by_found first second
  pub found : j.found ≡ found_on (lead_by_found first second) first second
  pub follower : HasJoined tells h (lead_by_found first second) j.found.next j.follower old new
  pub near : IsTrue tells.bytes → IsFarBehind h (disk_on (lead_by_found first second) old).held
      (disk_on (other_side (lead_by_found first second)) old).held → ⊥
  pub kept : IsSameContent (disk_on (lead_by_found first second) old) (disk_on (lead_by_found first second) new)

-- One side leads, since the other has failed, and nothing was done.
pub record IsJoinedAlone (side : Side) (found : Found) (j : Joined) (old new : Pair) : Type 0 where
  pub lead : j.lead ≡ side
  pub run : j.found ≡ found
  pub follower : j.follower ≡ follower.Failed
  pub no_fault : HasNoFault old new
  pub first : IsSameContent old.first new.first
  pub second : IsSameContent old.second new.second

-- The sides with these runs were joined.
abbrev pub AreJoinedSides : Tells → Header → SideRuns → Joined → Pair → Pair → Type 0
AreJoinedSides tells h (runs.Both first second) j old new = AreBothJoined tells h first second j old new
AreJoinedSides tells h (runs.Alone side found) j old new = IsJoinedAlone side found j old new

-- Why both sides weren't joined, and that the lead is left.
pub record IsBothRefused (tells : Tells) (h : Header) (first second : Found) (why : PairOutcome) (old new : Pair) : Type 0 where
  pub cause : IsJoinRefusal tells h (lead_by_found first second) (found_on (lead_by_found first second) first second).next why old new
  pub kept : IsSameContent (disk_on (lead_by_found first second) old) (disk_on (lead_by_found first second) new)

-- Why the sides with these runs weren't joined. A side alone always is.
abbrev pub AreNotJoined : Tells → Header → SideRuns → PairOutcome → Pair → Pair → Type 0
AreNotJoined tells h (runs.Both first second) why old new = IsBothRefused tells h first second why old new
AreNotJoined tells h (runs.Alone side found) why old new = ⊥
