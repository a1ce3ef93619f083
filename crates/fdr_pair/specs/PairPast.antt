-- What a session on two disks was started on, and what it was fed since.
use Rattle.std.specs.Prelude.{◌≡◌, ◌≤◌, ◌+◌, length}
use Rattle.fdr_stream.specs.Past.{RepresentsStream}
use Rattle.fdr_recorder.specs.Past.{RecordingPast, due_count, stream_past}
use Rattle.fdr_pair.specs.declared.session.PairSession.{PairSession}

-- The session was started on this and fed these records, and the due blocks were recorded. It has room for a block.
pub record RepresentsPair (s : PairSession) (past : RecordingPast) : Type 0 where
  pub header : s.rings.header ≡ past.header
  pub stream : RepresentsStream s.stream.value (stream_past past)
  pub session : s.session ≡ past.session
  pub next : s.rings.next ≡ past.first + due_count past
  pub room : past.header.payload ≤ length s.block.value
