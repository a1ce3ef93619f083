-- What a session was started on, and what it was fed since.
use Rattle.std.specs.Prelude.{◌≡◌, ◌≤◌, ℕ, ◌+◌, ◌-◌, ◌%◌, ◌^◌, false, List, [], ◌∷◌, ◌++◌, length, map, None}
use Rattle.std.specs.List.{range_with_len}
use Rattle.fdr_bus.specs.declared.BusRecord.{BusRecord}
use Rattle.fdr_bus.specs.Records.{time_of, last_time, has_end}
use Rattle.fdr_slot.specs.declared.image.Header.{Header}
use Rattle.fdr_table.specs.Rows.{TableRows}
use Rattle.fdr_recover.specs.Blocks.{Block}
use Rattle.fdr_recover.specs.Stretches.{last_session}
use Rattle.fdr_sampler.specs.Stream.{stream_of}
use Rattle.fdr_stream.specs.Blocks.{cut_block, blocks_of, due_blocks}
use Rattle.fdr_stream.specs.Past.{StreamPast, RepresentsStream}
use Rattle.fdr_recorder.specs.declared.session.Session.{Session}

-- the session of a recording after these blocks: one more than the session of the last of them, modulo 2^32, or 1 where there is
-- none
abbrev pub session_of : List Block → ℕ
session_of [] = 1
session_of (b ∷ bs) = (last_session (b ∷ bs) + 1) % 2 ^ 32

-- what a session was started on, and what it was fed since: the table, the header of the image and its next number then, the
-- session's number, and the records that were fed
pub record RecordingPast : Type 0 where
  pub table : TableRows
  pub header : Header
  pub first : ℕ
  pub session : ℕ
  pub records : List BusRecord

-- the past of a session that was just started
abbrev pub past_at_start : TableRows → Header → ℕ → ℕ → RecordingPast
past_at_start t h first session = record { table = t; header = h; first = first; session = session; records = [] }

-- the past of a session after a further record was fed
abbrev pub recording_with_record : RecordingPast → BusRecord → RecordingPast
recording_with_record past r = record past { records = past.records ++ r ∷ [] }

-- The record is a good next one after those that were fed.
pub record MayFeedRecording (past : RecordingPast) (r : BusRecord) : Type 0 where
  pub order : time_of past.records ≤ r.time
  pub in_time : r.time ≤ last_time
  pub unended : has_end past.records ≡ false

-- the bytes of the recording of the records that a session was fed
abbrev pub recorded_bytes : RecordingPast → List ℕ
recorded_bytes past = stream_of past.table past.records

-- how many blocks are due at the records that a session was fed
abbrev pub due_count : RecordingPast → ℕ
due_count past = due_blocks past.table past.header.payload past.records

-- block i of a session, counted from 0, with its number in the image and the session's
abbrev pub numbered_block : RecordingPast → ℕ → Block
numbered_block past i =
    record { number = past.first + i; session = past.session; payload = cut_block past.header.payload (recorded_bytes past) i }

-- this many blocks of a session, from block `from` on
abbrev pub blocks_from : RecordingPast → ℕ → ℕ → List Block
blocks_from past from count = map (numbered_block past) (range_with_len from count)

-- the blocks of a session that are due at the records that it was fed
abbrev pub recorded_of : RecordingPast → List Block
recorded_of past = blocks_from past 0 (due_count past)

-- all blocks of a session's records: those of their whole stream
abbrev pub all_blocks : RecordingPast → List Block
all_blocks past = blocks_from past 0 (length (blocks_of past.header.payload (recorded_bytes past)))

-- the blocks of a session that become due by this record
abbrev pub blocks_due_at : RecordingPast → BusRecord → List Block
blocks_due_at past r = blocks_from (recording_with_record past r) (due_count past) (due_count (recording_with_record past r) - due_count past)

-- the blocks of a session that aren't due yet: none, or a last one
abbrev pub rest_of : RecordingPast → List Block
rest_of past = blocks_from past (due_count past) (length (blocks_of past.header.payload (recorded_bytes past)) - due_count past)

-- the past of a session's stream: it was fed the session's records and has given all blocks that are due
abbrev pub stream_past : RecordingPast → StreamPast
stream_past past = record { table = past.table; payload = past.header.payload; records = past.records; begun = None; blocks = due_count past }

-- The session was started on this and fed these records, and the due blocks were recorded. It has room for a block.
pub record RepresentsRecording (s : Session) (past : RecordingPast) : Type 0 where
  pub header : s.ring.header ≡ past.header
  pub stream : RepresentsStream s.stream.value (stream_past past)
  pub session : s.session ≡ past.session
  pub next : s.ring.next ≡ past.first + due_count past
  pub room : past.header.payload ≤ length s.block.value
