-- How far the records of a supply were recorded in a session.
use Rattle.std.specs.Prelude.{◌≡◌, ◌<◌, ◌≤◌, ℕ, ◌+◌, ◌-◌, List, [], length, take, Ok, Err, IsTrue}
use Rattle.fdr_bus.specs.declared.BusRecord.{BusRecord}
use Rattle.fdr_deck.specs.State.{Moment, State, Tells}
use Rattle.fdr_deck.specs.Disk.{IsSettled}
use Rattle.fdr_deck.specs.Moments.{Elapses, EachMoment}
use Rattle.fdr_slot.specs.Limits.{sequence_end}
use Rattle.fdr_slot.specs.declared.image.Header.{Header}
use Rattle.fdr_table.specs.Rows.{TableRows}
use Rattle.fdr_recover.specs.Blocks.{Block}
use Rattle.fdr_recover.specs.Images.{recovered_run}
use Rattle.fdr_ring.specs.Rings.{IsSureRing}
use Rattle.fdr_recover.specs.ImageHeader.{header_in}
use Rattle.fdr_trace.specs.Pulls.{PullsUntilDecided}
use Rattle.fdr_recorder.specs.Keeping.{RecoversPrefix}
use Rattle.fdr_recorder.specs.Past.{RecordingPast, RepresentsRecording, all_blocks, recorded_of}
use Rattle.fdr_recorder.specs.Recording.{RecordsAllOf, IsClose}
use Rattle.fdr_recorder.specs.declared.session.Session.{Session}
use Rattle.fdr_recorder.specs.Ends.{HasRecordedSource, RecordingEnd}
use Rattle.fdr_recorder.specs.Lag.{IsLagMoment, KeepsUp}
use Rattle.fdr_recorder.specs.NewBlocks.{MayRecord, RecordsBlocks, next_in, owed_number}
use Rattle.fdr_recorder.specs.Refusing.{RefusesOldVersion, RefusesSession}
use Rattle.fdr_recorder.specs.Supply.{RecordSupply, EndsSupply, supplied_records}
use Rattle.fdr_recorder.specs.declared.error.SessionFault.TheVariants as fault
use Rattle.fdr_recorder.specs.declared.source.SourceEnd.{SourceEnd}

-- the past of a session, where it was fed these records
abbrev pub past_fed : RecordingPast → List BusRecord → RecordingPast
past_fed past records = record past { records = records }

-- the number that is announced once all blocks stand that are due at these records, by what a session was started on
abbrev pub owed_number_by : RecordingPast → List BusRecord → ℕ
owed_number_by past records = owed_number past.table past.header past.first records

-- The session was just started, and the image's next number is announced.
pub record IsBegun (tells : Tells) (s : Session) (past : RecordingPast) (d : State) : Type 0 where
  pub none : past.records ≡ []
  pub stands : RepresentsRecording s past
  pub number : s.ring.next ≡ past.first
  pub ring : IsSureRing tells past.header past.first d
  pub settled : IsTrue tells.stops → IsSettled d
  pub announced : d.announced ≡ past.first

-- A moment since a session was started, while these blocks are recorded and these bytes or some of them were pulled: the image
-- keeps the blocks, at most one isn't announced, and the recording keeps up.
pub record IsSupplyMoment (t : TableRows) (h : Header) (first : ℕ) (entry : State) (blocks : List Block) (bytes : List ℕ)
    (m : Moment) : Type 0 where
  pub keeps : RecoversPrefix h entry.held (recovered_run h entry.held) blocks m.announced m.image
  pub close : IsClose h first m
  pub least : entry.least ≤ m.announced
  pub in_time : IsLagMoment (owed_number t h first) entry bytes m

-- A moment since a session with this past was started, while these blocks are recorded and these bytes or some of them were
-- pulled.
abbrev pub SupplyMoment : RecordingPast → State → List Block → List ℕ → Moment → Type 0
SupplyMoment past entry blocks bytes m = IsSupplyMoment past.table past.header past.first entry blocks bytes m

-- The session was fed these records, all that were read of these bytes, and their due blocks are recorded.
pub record HasFed (tells : Tells) (past : RecordingPast) (bytes : List ℕ) (old now : State) : Type 0 where
  pub pulls : PullsUntilDecided tells old now [] bytes
  pub time : Elapses tells old now
  pub recorded : RecordsAllOf tells past.header past.first (recorded_of past) old now
  pub moments : old.greatest ≤ past.first → EachMoment tells old now (SupplyMoment past old (recorded_of past) bytes)
  pub up : old.greatest ≤ past.first → KeepsUp (owed_number_by past) tells old now bytes past.records

-- All records of the supply were fed to the session, and so it ended.
pub record HasFedAll (from : RecordSupply) (tells : Tells) (past : RecordingPast) (s : Session) (old now : State) (end : SourceEnd) : Type 0 where
  pub pulled : List ℕ
  pub stands : RepresentsRecording s (past_fed past (supplied_records from pulled))
  pub ring : IsSureRing tells past.header s.ring.next now
  pub has : HasFed tells (past_fed past (supplied_records from pulled)) pulled old now
  pub ends : EndsSupply from tells old now pulled (Ok end)

-- What a recording of a supply leaves since its session was started.
pub record Continues (from : RecordSupply) (tells : Tells) (past : RecordingPast) (old now : State) (end : RecordingEnd) : Type 0 where
  pub pulled : List ℕ
  pub pulls : PullsUntilDecided tells old now [] pulled
  pub time : Elapses tells old now
  pub moments : old.greatest ≤ past.first
      → EachMoment tells old now (SupplyMoment past old (all_blocks (past_fed past (supplied_records from pulled))) pulled)
  pub recorded : HasRecordedSource end
      → RecordsAllOf tells past.header past.first (all_blocks (past_fed past (supplied_records from pulled))) old now
  pub within : HasRecordedSource end → past.first + length (all_blocks (past_fed past (supplied_records from pulled))) ≤ sequence_end
  pub seq_end : end ≡ Err fault.SeqEnd → RecordsAllOf tells past.header past.first
      (take (sequence_end - past.first) (all_blocks (past_fed past (supplied_records from pulled)))) old now
  pub beyond : end ≡ Err fault.SeqEnd → sequence_end < past.first + length (all_blocks (past_fed past (supplied_records from pulled)))
  pub ends : EndsSupply from tells old now pulled end

-- The records of a supply were recorded, or the recording was refused: what it leaves from before its session was started.
pub record RecordsSupply (from : RecordSupply) (t : TableRows) (tells : Tells) (old new : State) (end : RecordingEnd) : Type 0 where
  pub pulled : List ℕ
  pub pulls : PullsUntilDecided tells old new [] pulled
  pub blocks : RecordsBlocks t tells (supplied_records from pulled) old new (HasRecordedSource end) (end ≡ Err fault.SeqEnd)
  pub image : RefusesSession t tells old new end
  pub version : RefusesOldVersion t tells old end
  pub in_time : MayRecord old
      → EachMoment tells old new (IsLagMoment (owed_number t (header_in old.held) (next_in old.held)) old pulled)
  pub ends : EndsSupply from tells old new pulled end
