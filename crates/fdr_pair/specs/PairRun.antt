-- What is promised of recording on two disks.
use Rattle.std.specs.Prelude.{◌≡◌, ◌≢◌, ◌⊎◌, ◌≤◌, ◌<◌, ◌+◌, ℕ, true, List, [], length, Option, Some, None, Err, IfSome, IsTrue}
use Rattle.fdr_io.specs.Faults.{Rose}
use Rattle.fdr_io.specs.Limits.{piece_bytes}
use Rattle.fdr_io.specs.Told.{preceded_by}
use Rattle.fdr_io.specs.declared.Input.TheVariants as input
use Rattle.fdr_bus.specs.Records.{IsDecided, good_prefix, has_end, trace_fault}
use Rattle.fdr_bus.specs.declared.TraceFault.{TraceFault}
use Rattle.fdr_bus.specs.declared.TraceFault.TheVariants as trace
use Rattle.fdr_deck.specs.State.{Tells}
use Rattle.fdr_deck.specs.Disk.{IsSettled}
use Rattle.fdr_slot.specs.Limits.{sequence_end}
use Rattle.fdr_slot.specs.declared.image.ImageFault.{ImageFault}
use Rattle.fdr_recover.specs.Images.{next_of}
use Rattle.fdr_recover.specs.ImageHeader.{image_fault_of, header_in}
use Rattle.fdr_table.specs.Bounds.{most_table_bytes}
use Rattle.fdr_table.specs.Rows.{TableRows}
use Rattle.fdr_table.specs.declared.fault.TableFault.{TableFault}
use Rattle.fdr_check.specs.Soundness.{IsSound}
use Rattle.fdr_load.specs.Limits.{TakesAtMost}
use Rattle.fdr_load.specs.Tables.{IsAccepted, IsTableRefused, table_in}
use Rattle.fdr_trace.specs.Pulls.{PullsUntilDecided}
use Rattle.fdr_twin.specs.declared.side.Side.{Side}
use Rattle.fdr_twin.specs.declared.side.Side.TheVariants.{First}
use Rattle.fdr_twin.specs.Pair.{Pair, disk_on, seen}
use Rattle.fdr_twin.specs.Rest.{PairElapses}
use Rattle.fdr_twin.specs.Serving.{EachPairMoment}
use Rattle.fdr_recorder.specs.NewBlocks.{new_blocks, next_in}
use Rattle.fdr_pair.specs.PairWork.{LeavesLine, IsLineMoment, IsLookedAt}
use Rattle.fdr_pair.specs.Bringing.{HasNoFault, HasFailedAlone}
use Rattle.fdr_pair.specs.Opening.{opening, header_after, AreCountsBelowMost, HasLivingSide, IsHeaderAnswer, IsOpeningRefusal, IsRefusedByHeaders}
use Rattle.fdr_pair.specs.Opening.{LooksAtSide}
use Rattle.fdr_pair.specs.Alike.{AreAlike, HaveOneHeader, HaveDifferentBlocks, IsSideFarBehind, lead_on, follower_on, lead_image, follower_image}
use Rattle.fdr_pair.specs.PairStages.{EndsBeforeDisks, EndsPairTrace, IsPastPairTable, LeavesPairLine, WritesOnNeither}
use Rattle.fdr_pair.specs.PairMoments.{MayRecordPair, KeepsOwnRun, KeepsRunUntilPull, KeepsRunWith, StaysAsAtEntry}
use Rattle.fdr_pair.specs.PairEnds.{GoesOnWithLead, GoesOnWithoutLead}
use Rattle.fdr_pair.specs.declared.outcome.PairOutcome.{PairOutcome}
use Rattle.fdr_pair.specs.declared.outcome.PairOutcome.TheVariants as outcome
use Rattle.fdr_pair.specs.SideCounts.{CountsBoth}

-- what a recording on two disks saw: of the table's source the bytes that were left, where it tells them, and the count of
-- faults, before and after; what the twin tells, and what it meant before and after; and the answer
pub record PairRun : Type 1 where
  pub rest_before : Option (List ℕ)
  pub rest_now : Option (List ℕ)
  pub table_before : ℕ
  pub table_now : ℕ
  pub tells : Tells
  pub old : Pair
  pub new : Pair
  pub answer : PairOutcome

-- Which answer the headers of both images give, by a table with this count of words in a subframe: exactly the first refusal,
-- over the sides that haven't failed. By the counts alone it comes always where none of them is at its greatest.
pub record RefusesHeaders (words : ℕ) (tells : Tells) (old new : Pair) (answer : PairOutcome) : Type 0 where
  pub cause : IsHeaderAnswer answer → IsOpeningRefusal words answer old new
  pub only : IsHeaderAnswer answer → IsTrue tells.bytes → IsRefusedByHeaders words old new answer
  pub always : (why : PairOutcome) → IsHeaderAnswer why → IsPastPairTable answer → IsTrue tells.bytes → AreCountsBelowMost new
      → opening words (header_after old.first new.first) (header_after old.second new.second) ≡ Err why → answer ≡ why

-- Which answer the runs of both images give: BlocksDiffer with the least number at which they differ, and FarBehind of the side
-- that is. They come only where neither side has failed, and then always where no count of faults is at its greatest, unless
-- memory ended. A twin that doesn't tell its bytes may show a difference otherwise.
pub record RefusesRuns (words : ℕ) (tells : Tells) (old new : Pair) (answer : PairOutcome) : Type 0 where
  pub differ : (seq : ℕ) → answer ≡ outcome.BlocksDiffer seq → HasNoFault old new × (IsTrue tells.bytes → HaveDifferentBlocks words old seq)
  pub differ_always : (seq : ℕ) → IsPastPairTable answer → IsTrue tells.bytes → AreCountsBelowMost new → HasNoFault old new
      → HaveDifferentBlocks words old seq → answer ≡ outcome.BlocksDiffer seq
  pub far : (s : Side) → answer ≡ outcome.FarBehind s → HasNoFault old new × (IsTrue tells.bytes → IsSideFarBehind words old s)
  pub far_always : (s : Side) → IsPastPairTable answer → IsTrue tells.bytes → AreCountsBelowMost new → HasNoFault old new
      → IsSideFarBehind words old s → answer ≡ outcome.FarBehind s

-- The lead failed before the other side was brought up to it: its count rose and the other's didn't, no byte of it has changed,
-- and where bytes are told, it led by images with one header, and the other's next number is still below the lead's.
pub record HasLeadFailed (words : ℕ) (tells : Tells) (s : Side) (old new : Pair) : Type 0 where
  pub alone : HasFailedAlone s old new
  pub kept : LooksAtSide tells s old new
  pub lead : IsTrue tells.bytes → s ≡ lead_on old
  pub header : IsTrue tells.bytes → HaveOneHeader words old
  pub behind : IsTrue tells.bytes → next_of (header_in (lead_image old)) (disk_on (follower_on old) new).held < next_in (lead_image old)

-- What caused the answer where it is a fault: both disks failed, the lead did, or the input.
pub record HasPairCause (words : ℕ) (tells : Tells) (old new : Pair) (answer : PairOutcome) : Type 0 where
  pub first : answer ≡ outcome.DiskFault → Rose old.first.faults new.first.faults
  pub second : answer ≡ outcome.DiskFault → Rose old.second.faults new.second.faults
  pub lead : (s : Side) → answer ≡ outcome.LeadFault s → HasLeadFailed words tells s old new
  pub input : answer ≡ outcome.ReadFault input.Line → Rose old.input_faults new.input_faults

-- What a refusal leaves. Where nothing is pulled or announced, the input and the announced number are as they were, at each
-- moment too. Where nothing is written, both disks are; only on a twin that doesn't tell its bytes may a difference of blocks
-- show later, and both disks may have been written by then.
pub record LeavesPair (tells : Tells) (old new : Pair) (answer : PairOutcome) : Type 0 where
  pub line : LeavesPairLine answer → LeavesLine old new
  pub line_moments : LeavesPairLine answer → EachPairMoment tells old new (IsLineMoment old)
  pub disks : (side : Side) → WritesOnNeither answer → IsTrue tells.bytes ⊎ ((seq : ℕ) → answer ≢ outcome.BlocksDiffer seq)
      → LooksAtSide tells side old new

-- How the trace on the input ended, of which these bytes were pulled, by the answer: by its end record, its first fault, or a
-- read that failed before it was decided. Once it is decided, no fault of the input is met. What was told of the input decides
-- how a recording of all of it ends.
pub record EndsPairLine (tells : Tells) (old new : Pair) (pulled : List ℕ) (answer : PairOutcome) : Type 0 where
  pub ended : answer ≡ outcome.Done → has_end (good_prefix pulled) ≡ true
  pub refused : (index : ℕ) (why : TraceFault) → answer ≡ outcome.TraceRefused index why → trace_fault pulled ≡ Some (index, why)
  pub truncated : (index : ℕ) → answer ≡ outcome.TraceRefused index trace.Truncated → IsTrue tells.input → new.input ≡ []
  pub undecided : answer ≡ outcome.ReadFault input.Line → IsDecided pulled → ⊥
  pub no_fault : EndsPairTrace answer → answer ≢ outcome.ReadFault input.Line → new.input_faults ≡ old.input_faults
  pub decided : IsDecided pulled → new.input_faults ≡ old.input_faults
  pub whole : answer ≡ outcome.Done → IsTrue tells.input → good_prefix pulled ≡ good_prefix old.input
  pub always : (index : ℕ) (why : TraceFault) → EndsPairTrace answer → IsTrue tells.input → trace_fault old.input ≡ Some (index, why)
      → (answer ≡ outcome.TraceRefused index why) ⊎ (answer ≡ outcome.ReadFault input.Line)

-- What the images of both sides keep of the trace of which these bytes were pulled. At every moment the lead's keeps its run at
-- entry, what is recorded and what is announced. The other's keeps its run until bytes are pulled, and from then on its brought
-- run with what is recorded and announced; only where the lead failed before may it be its own run. An image whose header doesn't
-- read stays as it was. So from the first pulled byte on either disk may be lost whole while the other hasn't failed.
pub record KeepsPair (t : TableRows) (tells : Tells) (pulled : List ℕ) (old new : Pair) (answer : PairOutcome) : Type 0 where
  pub lead : image_fault_of (lead_image old) ≡ None → MayRecordPair old
      → EachPairMoment tells old new (KeepsOwnRun (lead_on old) t (good_prefix pulled) old)
  pub lead_run : image_fault_of (lead_image old) ≡ None → MayRecordPair old
      → EachPairMoment tells old new (λ m. m.taken ≡ old.taken → KeepsRunWith (lead_on old) [] old m)
  pub follower : image_fault_of (follower_image old) ≡ None → MayRecordPair old
      → EachPairMoment tells old new (λ m. m.taken ≡ old.taken → KeepsRunUntilPull t.frame.words old m)
  pub unread : (side : Side) (why : ImageFault) → image_fault_of (disk_on side old).held ≡ Some why → IsSettled (seen side old)
      → EachPairMoment tells old new (StaysAsAtEntry side old)
  pub goes_on : (LeavesPairLine answer → ⊥) → IsTrue tells.bytes
      → GoesOnWithLead t tells (good_prefix pulled) pulled old new (EndsPairTrace answer) (answer ≡ outcome.SeqEnd)
      ⊎ GoesOnWithoutLead t tells (good_prefix pulled) pulled old new (EndsPairTrace answer) (answer ≡ outcome.SeqEnd)

-- All that is needed to record on both disks by a table is there: images that are alike and have numbers for all blocks of the
-- trace on the input, which has an end.
pub record IsWholePair (t : TableRows) (tells : Tells) (old : Pair) : Type 0 where
  pub input : IsTrue tells.input
  pub ended : has_end (good_prefix old.input) ≡ true
  pub bytes : IsTrue tells.bytes
  pub alike : AreAlike t.frame.words old
  pub numbers : next_in (lead_image old) + length (new_blocks t (lead_image old) (good_prefix old.input)) ≤ sequence_end

-- No count of faults rose: of the input and of both disks.
pub record CountsNoPairFault (old new : Pair) : Type 0 where
  pub input : Rose old.input_faults new.input_faults → ⊥
  pub first : Rose old.first.faults new.first.faults → ⊥
  pub second : Rose old.second.faults new.second.faults → ⊥

-- What is promised of recording on two disks by this table, past the reading of it.
pub record RecordsPair (t : TableRows) (r : PairRun) : Type 0 where
  pub pulled : List ℕ
  pub pulls : PullsUntilDecided r.tells (seen First r.old) (seen First r.new) [] pulled
  pub time : PairElapses r.old r.new
  pub keeps : KeepsPair t r.tells pulled r.old r.new r.answer
  pub ends : EndsPairLine r.tells r.old r.new pulled r.answer
  pub headers : RefusesHeaders t.frame.words r.tells r.old r.new r.answer
  pub runs : RefusesRuns t.frame.words r.tells r.old r.new r.answer
  pub leaves : LeavesPair r.tells r.old r.new r.answer
  pub causes : HasPairCause t.frame.words r.tells r.old r.new r.answer
  -- Where the trace or the numbers ended, at least one side hasn't failed.
  pub lives : EndsPairTrace r.answer ⊎ (r.answer ≡ outcome.SeqEnd) → HasLivingSide r.old r.new
  -- Where all that it needs is there and nothing fails, all is done, or memory ended.
  pub complete : IsWholePair t r.tells r.old → CountsNoPairFault r.old r.new → (r.answer ≡ outcome.Done) ⊎ (r.answer ≡ outcome.NoMemory)

-- How the answer goes with the table: which fault is named, how much was taken of the source, and that past it the table was
-- accepted.
pub record ReadsPairTable (old new : Option (List ℕ)) (answer : PairOutcome) : Type 0 where
  pub refused_taken : (row : ℕ) (f : TableFault) → answer ≡ outcome.TableRefused row f
      → (taken : List ℕ) × IsTableRefused taken row f × (old ≡ preceded_by taken new)
      × (length taken ≤ most_table_bytes + piece_bytes)
  pub refused : (row : ℕ) (f : TableFault) (bytes : List ℕ) → answer ≡ outcome.TableRefused row f → old ≡ Some bytes
      → IsTableRefused bytes row f
  pub refused_always : (row : ℕ) (f : TableFault) (bytes : List ℕ) → old ≡ Some bytes → IsTableRefused bytes row f
      → ((answer ≡ outcome.TableRefused row f) ⊎ (answer ≡ outcome.ReadFault input.Table)) ⊎ (answer ≡ outcome.NoMemory)
  pub refused_at_end : (row : ℕ) (f : TableFault) (bytes : List ℕ) → answer ≡ outcome.TableRefused row f
      → old ≡ Some bytes → length bytes ≤ most_table_bytes → new ≡ Some []
  pub accepted_at_end : IsPastPairTable answer → IfSome new (λ left. left ≡ [])
  pub fault_within_limit : answer ≡ outcome.ReadFault input.Table
      → (taken : List ℕ) × (length taken ≤ most_table_bytes) × (old ≡ preceded_by taken new)

-- The table was read and accepted, and the statement holds of it. Where the source tells its bytes, it is that of these.
abbrev pub ByPairTable : Option (List ℕ) → (TableRows → Type 0) → Type 0
ByPairTable rest P = (t : TableRows) × ((bytes : List ℕ) → rest ≡ Some bytes → IsAccepted bytes × (t ≡ table_in bytes)) × IsSound t × P t

-- The source tells its bytes, and a recording by the table that they are has all that it needs.
abbrev pub IsWholePairInput : Option (List ℕ) → Tells → Pair → Type 0
IsWholePairInput rest tells old = (bytes : List ℕ) × (rest ≡ Some bytes) × IsAccepted bytes × IsWholePair (table_in bytes) tells old

-- The disks were only looked at: at each moment both images are ones that a stop could leave at entry, nothing was pulled or
-- announced, and in the end both disks hold what they held.
pub record OnlyLooksAtPair (tells : Tells) (old new : Pair) (answer : PairOutcome) : Type 0 where
  pub time : PairElapses old new
  pub moments : EachPairMoment tells old new (IsLookedAt old)
  pub leaves : LeavesPair tells old new answer

-- What is promised of recording on two disks, where the words are of the one form: how the answer goes with the table, what is
-- recorded past it, what is left where memory ends, and when all is done.
pub record RunsPair (r : PairRun) : Type 0 where
  pub table : ReadsPairTable r.rest_before r.rest_now r.answer
  pub bounded : TakesAtMost (most_table_bytes + piece_bytes) r.rest_before r.rest_now
  pub table_cause : r.answer ≡ outcome.ReadFault input.Table → Rose r.table_before r.table_now
  pub no_table_fault : r.answer ≢ outcome.ReadFault input.Table → r.table_now ≡ r.table_before
  -- No count of faults of a disk falls, and at no moment is it above the one in the end.
  pub counts : CountsBoth r.old r.new
  -- Before the disks are asked for anything both hold what they held, and neither failed.
  pub before : EndsBeforeDisks r.answer → OnlyLooksAtPair r.tells r.old r.new r.answer × HasNoFault r.old r.new
  pub records : IsPastPairTable r.answer → ByPairTable r.rest_before (λ (t : TableRows). RecordsPair t r)
  pub memory : r.answer ≡ outcome.NoMemory → OnlyLooksAtPair r.tells r.old r.new r.answer
  pub complete : IsWholePairInput r.rest_before r.tells r.old → CountsNoPairFault r.old r.new → (Rose r.table_before r.table_now → ⊥)
      → (r.answer ≡ outcome.Done) ⊎ (r.answer ≡ outcome.NoMemory)
