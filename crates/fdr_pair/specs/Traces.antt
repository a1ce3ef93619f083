-- What the recording of a trace on two disks leaves, at each moment and in the end.
use Rattle.std.specs.Prelude.{◌≡◌, ◌⊎◌, ◌<◌, ◌≤◌, ℕ, ◌+◌, List, [], length, Result, Ok, Err}
use Rattle.fdr_io.specs.Faults.{Rose}
use Rattle.fdr_bus.specs.declared.BusRecord.{BusRecord}
use Rattle.fdr_bus.specs.Records.{good_prefix}
use Rattle.fdr_deck.specs.State.{Moment, Tells}
use Rattle.fdr_slot.specs.Limits.{sequence_end}
use Rattle.fdr_recover.specs.Blocks.{Block}
use Rattle.fdr_trace.specs.Pulls.{PullsUntilDecided}
use Rattle.fdr_trace.specs.declared.TraceStop.TheVariants as stop
use Rattle.fdr_twin.specs.declared.side.Side.{Side}
use Rattle.fdr_twin.specs.declared.side.Side.TheVariants.{First, Second}
use Rattle.fdr_twin.specs.Pair.{Pair, PairMoment, disk_on, image_on, seen}
use Rattle.fdr_twin.specs.Same.{IsSameDisk}
use Rattle.fdr_twin.specs.Rest.{PairElapses, StaysOn}
use Rattle.fdr_twin.specs.Serving.{EachPairMoment}
use Rattle.fdr_recorder.specs.Past.{RecordingPast, all_blocks, recorded_of}
use Rattle.fdr_recorder.specs.Ends.{HasRecordedSource, RecordingEnd}
use Rattle.fdr_recorder.specs.Lag.{IsLagMoment, KeepsUp}
use Rattle.fdr_recorder.specs.Supplied.{owed_number_by, past_fed}
use Rattle.fdr_recorder.specs.Supply.{EndsLine}
use Rattle.fdr_recorder.specs.declared.error.SessionFault.TheVariants as session
use Rattle.fdr_recorder.specs.declared.source.SourceEnd.{SourceEnd}
use Rattle.fdr_recorder.specs.declared.source.SourceEnd.TheVariants as source
use Rattle.fdr_pair.specs.Numbers.{HasPulled}
use Rattle.fdr_pair.specs.Living.{SideKept, SideMoment}
use Rattle.fdr_pair.specs.PairPast.{RepresentsPair}
use Rattle.fdr_pair.specs.PairRecording.{AreSettled, BothFailed, PairHasEnded, PairRecordsAll}
use Rattle.fdr_pair.specs.declared.fault.PairFault.{PairFault}
use Rattle.fdr_pair.specs.declared.fault.PairFault.TheVariants as fault
use Rattle.fdr_pair.specs.declared.rings.PairRings.{PairRings}
use Rattle.fdr_pair.specs.declared.session.PairSession.{PairSession}
use Rattle.fdr_pair.specs.SideCounts.{CountsBoth}
use Rattle.fdr_pair.specs.Ahead.{StaysNearOn}

-- The session was just started, its rings are on settled disks, and their next number is announced.
pub record IsPairBegun (tells : Tells) (s : PairSession) (past : RecordingPast) (p : Pair) : Type 0 where
  pub none : past.records ≡ []
  pub stands : RepresentsPair s past
  pub number : s.rings.next ≡ past.first
  pub settled : AreSettled tells s.rings p
  pub announced : p.announced ≡ past.first

-- No number from before the recording, whose first block has the number `first`, is told any more where this many bytes were
-- pulled: none above `first` could be announced at the start, or bytes were pulled since.
abbrev pub TellsOnlySince : ℕ → Pair → ℕ → Type 0
TellsOnlySince first old taken = (old.greatest ≤ first) ⊎ (old.taken < taken)

-- A moment at which nothing was done yet: nothing was pulled, and each side has an image that a stop could leave before and the
-- count of faults that it had, or the moment is one from before.
pub record IsIdleMoment (old : Pair) (m : PairMoment) : Type 0 where
  pub pulled : HasPulled old m
  pub sides : (side : Side) → old.since old.clock m ⊎ StaysOn side old m

-- the moment as one side shows it
abbrev pub shown_on : Side → PairMoment → Moment
shown_on side m = record { image = image_on side m; announced = m.announced; taken = m.taken; pulled_before = m.pulled_before }

-- A moment at which a recording on two disks keeps up: nothing was pulled yet, or what is owed for the good records of the bytes
-- before the last pull that gave some is announced.
abbrev pub IsPairLagMoment : (List BusRecord → ℕ) → Pair → List ℕ → PairMoment → Type 0
IsPairLagMoment owed old bytes m = IsLagMoment owed (seen First old) bytes (shown_on First m)

-- The session that began with these rings was fed these records, all that were read of these bytes. Their due blocks are on
-- each side that hasn't failed, and are announced. Until bytes are pulled nothing is done. At each moment each side has failed by
-- then, or its image keeps its run, the first of these blocks and every announced one, and the recording keeps up.
pub record HasFedPair (tells : Tells) (past : RecordingPast) (rings : PairRings) (s : PairSession) (bytes : List ℕ) (old now : Pair)
    : Type 0 where
  pub pulls : PullsUntilDecided tells (seen First old) (seen First now) [] bytes
  pub time : PairElapses old now
  pub counts : CountsBoth old now
  pub idle : EachPairMoment tells old now (λ m. IsIdleMoment old m ⊎ (old.taken < m.taken))
  pub still : length bytes ≡ 0 → (side : Side) → IsSameDisk (disk_on side old) (disk_on side now)
  pub recorded : PairRecordsAll tells rings s.rings (recorded_of past) old now
  pub greatest : TellsOnlySince past.first old now.taken → now.greatest ≤ past.first + length (recorded_of past)
  pub first : EachPairMoment tells old now (λ m. TellsOnlySince past.first old m.taken → SideMoment First rings.first (recorded_of past) old m)
  pub second : EachPairMoment tells old now (λ m. TellsOnlySince past.first old m.taken → SideMoment Second rings.second (recorded_of past) old m)
  pub first_kept : EachPairMoment tells old now (SideKept First rings.first (recorded_of past) old)
  pub second_kept : EachPairMoment tells old now (SideKept Second rings.second (recorded_of past) old)
  pub in_time : EachPairMoment tells old now
      (λ m. TellsOnlySince past.first old m.taken → IsPairLagMoment (owed_number_by past) old bytes m)
  pub near : old.announced ≡ rings.next → (side : Side) → StaysNearOn tells rings.header side old now
  pub up : TellsOnlySince past.first old now.taken → KeepsUp (owed_number_by past) tells (seen First old) (seen First now) bytes past.records

-- All records of the trace were fed to the session, and so the trace ended.
pub record HasFedTrace (tells : Tells) (past : RecordingPast) (rings : PairRings) (s : PairSession) (old now : Pair) (end : SourceEnd)
    : Type 0 where
  pub pulled : List ℕ
  pub stands : RepresentsPair s (past_fed past (good_prefix pulled))
  pub has : HasFedPair tells (past_fed past (good_prefix pulled)) rings s pulled old now
  pub ends : EndsLine tells (seen First old) (seen First now) pulled (Ok end)
  -- the input failed only where its count rose
  pub cause : end ≡ source.Stopped stop.Failed → Rose old.input_faults now.input_faults

-- how a recording on two disks ended, as one on a single disk would have
abbrev pub recording_end : Result SourceEnd PairFault → RecordingEnd
recording_end (Ok end) = Ok end
recording_end (Err fault.DiskFault) = Err session.DiskFault
recording_end (Err fault.SeqEnd) = Err session.SeqEnd

-- all blocks of the trace that these bytes begin with, by what a session was started on
abbrev pub trace_blocks : RecordingPast → List ℕ → List Block
trace_blocks past bytes = all_blocks (past_fed past (good_prefix bytes))

-- What the recording of a trace on two disks leaves since its session was started with these rings. Until bytes are pulled
-- nothing is done. At each moment each side has failed by then, or its image keeps its run, the first of the trace's blocks and
-- every announced one; and the recording keeps up with what was pulled. Where the trace ended, all of its blocks are on each
-- side that hasn't failed, at least one. Where the numbers ended, those that have one are. Otherwise both sides have failed.
pub record PairRecordsTrace (tells : Tells) (past : RecordingPast) (rings : PairRings) (old now : Pair) (end : Result SourceEnd PairFault)
    : Type 0 where
  pub pulled : List ℕ
  pub pulls : PullsUntilDecided tells (seen First old) (seen First now) [] pulled
  pub time : PairElapses old now
  pub counts : CountsBoth old now
  pub idle : EachPairMoment tells old now (λ m. IsIdleMoment old m ⊎ (old.taken < m.taken))
  pub first : EachPairMoment tells old now
      (λ m. TellsOnlySince past.first old m.taken → SideMoment First rings.first (trace_blocks past pulled) old m)
  pub second : EachPairMoment tells old now
      (λ m. TellsOnlySince past.first old m.taken → SideMoment Second rings.second (trace_blocks past pulled) old m)
  pub first_kept : EachPairMoment tells old now (SideKept First rings.first (trace_blocks past pulled) old)
  pub second_kept : EachPairMoment tells old now (SideKept Second rings.second (trace_blocks past pulled) old)
  pub in_time : EachPairMoment tells old now
      (λ m. TellsOnlySince past.first old m.taken → IsPairLagMoment (owed_number_by past) old pulled m)
  -- where the number before them is announced, each block is announced before the next one is put
  pub near : old.announced ≡ rings.next → (side : Side) → StaysNearOn tells rings.header side old now
  pub recorded : HasRecordedSource (recording_end end)
      → (left : PairRings) × PairRecordsAll tells rings left (trace_blocks past pulled) old now
  pub within : HasRecordedSource (recording_end end) → past.first + length (trace_blocks past pulled) ≤ sequence_end
  pub seq_end : end ≡ Err fault.SeqEnd → PairHasEnded tells rings (trace_blocks past pulled) old now
  pub both_failed : end ≡ Err fault.DiskFault → BothFailed tells rings old now
  pub ends : EndsLine tells (seen First old) (seen First now) pulled (recording_end end)
  -- the input failed only where its count rose
  pub cause : end ≡ Ok (source.Stopped stop.Failed) → Rose old.input_faults now.input_faults
