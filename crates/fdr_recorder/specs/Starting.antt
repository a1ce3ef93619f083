-- What the start of a session leaves.
use Rattle.std.specs.Prelude.{◌≡◌, ◌≤◌, ◌⊎◌, ◌-◌, [], IsTrue}
use Rattle.fdr_deck.specs.State.{Moment, State, Tells}
use Rattle.fdr_deck.specs.Disk.{IsSettled}
use Rattle.fdr_deck.specs.Moments.{HasSamePulls, Elapses, EachMoment}
use Rattle.fdr_deck.specs.Pull.{KeepsInput}
use Rattle.fdr_slot.specs.declared.image.Header.{Header}
use Rattle.fdr_slot.specs.Places.{gate_at}
use Rattle.fdr_recover.specs.Images.{recovered_run, next_of}
use Rattle.fdr_recover.specs.ImageHeader.{header_in}
use Rattle.fdr_ring.specs.Closing.{image_with_closed_gate}
use Rattle.fdr_ring.specs.Runs.{last_blocks}
use Rattle.fdr_ring.specs.Rings.{IsSureRing, IsAttaching}
use Rattle.fdr_table.specs.Rows.{TableRows}
use Rattle.fdr_recorder.specs.Recording.{IsReady, IsRecordingMoment}
use Rattle.fdr_recorder.specs.Past.{RepresentsRecording, past_at_start, session_of}
use Rattle.fdr_recorder.specs.declared.session.Session.{Session}

-- A moment while a session starts: no block is recorded, and only the gate of the next number may be another byte, where it was
-- open.
pub record IsStarting (h : Header) (entry : State) (m : Moment) : Type 0 where
  pub recording : IsRecordingMoment h entry [] m
  pub image : IsAttaching h entry.held m.image

-- At this moment no number was announced but one of before, or a stop may leave the image in the end too: so nothing is announced
-- before what it rests on is durable.
abbrev pub AnnouncesLast : State → State → Moment → Type 0
AnnouncesLast old now m = ((old.least ≤ m.announced) × (m.announced ≤ old.greatest)) ⊎ now.may_leave m.image

-- What the start of a session leaves, whatever it answers: at each moment the run but for its oldest block, and nothing is
-- pulled.
pub record Starts (tells : Tells) (h : Header) (old now : State) : Type 0 where
  pub time : Elapses tells old now
  pub moments : IsReady (next_of h old.held) old → EachMoment tells old now (IsStarting h old)
  -- on any disk, the numbers of bytes pulled are those at entry
  pub pulled : EachMoment tells old now (HasSamePulls old)
  pub input : KeepsInput old now
  pub input_faults : now.input_faults ≡ old.input_faults
  pub disk_faults : old.disk_faults ≤ now.disk_faults

-- The session is that of a recording after the run at entry, and stands for the image on the disk without any records, and its
-- next number is announced.
pub record IsStarted (tells : Tells) (t : TableRows) (s : Session) (old now : State) : Type 0 where
  pub stands : RepresentsRecording s (past_at_start t s.ring.header s.ring.next s.session)
  pub session : IsTrue tells.bytes → s.session ≡ session_of (recovered_run s.ring.header old.held)
  pub version : s.ring.header.version ≡ 2
  pub words : s.ring.header.words ≡ t.frame.words
  pub header : IsTrue tells.bytes → s.ring.header ≡ header_in old.held
  pub next : IsTrue tells.bytes → s.ring.next ≡ next_of s.ring.header old.held
  pub held : IsTrue tells.bytes → now.held ≡ image_with_closed_gate (gate_at s.ring.header (next_of s.ring.header old.held)) old.held
  pub run : IsTrue tells.bytes → recovered_run s.ring.header now.held
      ≡ last_blocks (s.ring.header.slots - 1) (recovered_run s.ring.header old.held)
  pub fact : IsSureRing tells s.ring.header s.ring.next now
  pub settled : IsTrue tells.stops → IsSettled now
  pub announced : now.announced ≡ s.ring.next
  pub greatest : old.greatest ≤ s.ring.next → now.greatest ≤ s.ring.next
  pub least : old.greatest ≤ s.ring.next → old.least ≤ now.least
