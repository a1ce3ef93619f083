-- The memory of a recording.
use Rattle.std.specs.Prelude.{◌≤◌, ℕ, length}
use Rattle.fdr_table.specs.Rows.{TableRows}
use Rattle.fdr_stream.specs.Past.{RepresentsStream, stream_made}
use Rattle.fdr_pair.specs.declared.session.RecordingRoom.{RecordingRoom}

-- The memory is for a recording by this table with blocks of this many bytes: nothing was fed yet, and there is room for a block.
pub record IsRoomFor (t : TableRows) (payload : ℕ) (room : RecordingRoom) : Type 0 where
  pub stream : RepresentsStream room.stream.value (stream_made t payload)
  pub block : payload ≤ length room.block.value
