-- What was read of bytes that come in pieces.
use Rattle.std.specs.Prelude.{ℕ, ◌≡◌, ◌*◌, ◌++◌, true, false, List, [], map, vec_len}
use Rattle.std.specs.List.{flat_map, filter_map}
use Rattle.fdr_frame.specs.WordCount.{IsWordCount}
use Rattle.fdr_sync.specs.Events.{Event, decided_events, frame_of_event}
use Rattle.fdr_resync.specs.Past.{ScannerPast, RepresentsScanner}
use Rattle.fdr_resync.specs.Adjacency.{ends_with_frame}
use Rattle.fdr_table.specs.Rows.{TableRows}
use Rattle.fdr_recon.specs.Rows.{ReadFrame}
use Rattle.fdr_recon.specs.Past.{RepresentsRebuild, BeginsApart}
use Rattle.fdr_readout.specs.declared.events.EventReader.{EventReader}
use Rattle.fdr_readout.specs.Listing.{frame_read}
use Rattle.fdr_readout.specs.Entries.{Entry, entries_at}

-- These bytes may follow the ones of a past: none may, once no byte comes.
abbrev pub MayGoOn : ScannerPast → List ℕ → Type 0
MayGoOn past more = past.finished ≡ true → more ≡ []

-- The frames among the events that were taken were read as they are read of all bytes, however those go on.
abbrev pub AreRead : TableRows → ScannerPast → List ReadFrame → Type 0
AreRead t past read = (more : List ℕ) → MayGoOn past more
    → read ≡ map (frame_read (past.bytes ++ more) t.frame.words) (filter_map frame_of_event past.taken)

-- The reader of events stands where these bytes came and these of their events were taken. It may have read frames of other bytes
-- before: the first frame of these bytes isn't adjacent to them.
pub record ReadsEvents (t : TableRows) (r : EventReader) (past : ScannerPast) : Type 0 where
  pub count : IsWordCount t.frame.words
  pub words : past.words ≡ t.frame.words
  pub scanner : RepresentsScanner r.scanner past
  pub room : vec_len r.words ≡ 4 * t.frame.words
  pub adjacent : r.after_frame ≡ ends_with_frame past.taken
  pub earlier : List ReadFrame
  pub read : List ReadFrame
  pub frames : RepresentsRebuild r.rebuild t (earlier ++ read)
  pub apart : BeginsApart read
  pub as_read : AreRead t past read

-- the past of a scanner where these bytes came and the events that they decide were taken
abbrev pub decided_past : ℕ → List ℕ → ScannerPast
decided_past w b = record { words = w; bytes = b; taken = decided_events b w; finished = false }

-- the entries of these events of bytes
abbrev pub entries_in : TableRows → List ℕ → List Event → List Entry
entries_in t b es = flat_map (entries_at t b) es
