-- What came to a scanner and was taken from it, and what a scanner keeps of it.
use Rattle.std.specs.Prelude.{ℕ, ◌≡◌, ◌+◌, ◌*◌, ◌<◌, ◌≤◌, ◌-◌, ◌^◌, Bool, true, false, if◌then◌else◌, List, [], ◌∷◌, ◌++◌, Option, length, drop}
use Rattle.std.specs.Option.{ForSome}
use Rattle.fdr_frame.specs.WordCount.{IsWordCount}
use Rattle.fdr_sync.specs.Frames.{IsFramePosition}
use Rattle.fdr_sync.specs.Events.{Event, Frame, events_of, decided_events, events_from, decided_from}

-- what came to a scanner since it was made or restarted: how many words a subframe has, the bytes that were pushed, the events
-- that were taken, and whether no further byte comes
pub record ScannerPast : Type 0 where
  pub words : ℕ
  pub bytes : List ℕ
  pub taken : List Event
  pub finished : Bool

-- the past of a scanner as it is made, for subframes of w words
abbrev pub scanner_made : ℕ → ScannerPast
scanner_made w = record { words = w; bytes = []; taken = []; finished = false }

-- the past of a scanner after a further piece of bytes was pushed
abbrev pub scanner_with_bytes : ScannerPast → List ℕ → ScannerPast
scanner_with_bytes past piece = record past { bytes = past.bytes ++ piece }

-- the past of a scanner after further events were taken
abbrev pub scanner_with_events : ScannerPast → List Event → ScannerPast
scanner_with_events past es = record past { taken = past.taken ++ es }

-- the past of a scanner that was told that no further byte comes
abbrev pub scanner_finished : ScannerPast → ScannerPast
scanner_finished past = record past { finished = true }

-- the events that no further bytes change: `decided_events` of the bytes so far, and all of `events_of` once no byte comes
abbrev pub known_events : ScannerPast → List Event
known_events past = if past.finished then events_of past.bytes past.words else decided_events past.bytes past.words

-- what a scanner keeps: how many words a subframe has, how many bytes were dropped, the bytes that came after those, the bit
-- where the events that were taken end, a bit before which no further frame begins, whether no further byte comes, and where the
-- frame begins that the last take gave, if it gave one and its bytes are still there
pub record ScannerKept : Type 0 where
  pub words : ℕ
  pub before : ℕ
  pub window : List ℕ
  pub free : ℕ
  pub from : ℕ
  pub ended : Bool
  pub frame : Option ℕ

-- how many bytes were pushed to a scanner, by what it keeps
abbrev pub bytes_pushed : ScannerKept → ℕ
bytes_pushed k = k.before + length k.window

-- how many bits came after the events that were taken, by what a scanner keeps
abbrev pub bits_left : ScannerKept → ℕ
bits_left k = 8 * bytes_pushed k - k.free

-- how many bytes a scanner keeps at most, whatever came: 24 w + 4,096
abbrev pub window_size : ℕ → ℕ
window_size w = 24 * w + 4096

-- What holds of every scanner: its numbers are in order, and its window has room for as many bytes as a scanner keeps at most.
pub record IsScannerKept (k : ScannerKept) (capacity : ℕ) : Type 0 where
  pub words : IsWordCount k.words
  pub room : window_size k.words ≤ capacity
  pub window : length k.window ≤ window_size k.words
  pub order : k.free ≤ k.from
  pub behind : 8 * k.before ≤ k.from
  pub within : k.from ≤ 8 * bytes_pushed k
  pub limit : bytes_pushed k ≤ 2 ^ 28
  pub frame_behind : ForSome k.frame (λ at. 8 * k.before ≤ at)
  pub frame_within : ForSome k.frame (λ at. at + 48 * k.words ≤ 8 * bytes_pushed k)

-- The last of the events is a frame that begins at this bit.
abbrev pub EndsWithFrameAt : List Event → ℕ → Type 0
EndsWithFrameAt es at = (before : List Event) × (es ≡ before ++ Frame at ∷ [])

-- What the scanner keeps stands for this past: these bytes were pushed and these events were taken. However the bytes go on, the
-- events that were taken and those from bit `free` on are all the events, and no frame begins from bit `free` up to bit `from`.
-- The frame whose words may be read is the last event that was taken.
pub record RepresentsScanner (k : ScannerKept) (past : ScannerPast) : Type 0 where
  pub words : k.words ≡ past.words
  pub ended : k.ended ≡ past.finished
  pub pushed : bytes_pushed k ≡ length past.bytes
  pub window : k.window ≡ drop k.before past.bytes
  pub decided : (more : List ℕ) → past.finished ≡ false
      → past.taken ++ decided_from (past.bytes ++ more) past.words k.free ≡ decided_events (past.bytes ++ more) past.words
  pub events : (more : List ℕ) → (past.finished ≡ true → more ≡ [])
      → past.taken ++ events_from (past.bytes ++ more) past.words k.free ≡ events_of (past.bytes ++ more) past.words
  pub clear : (more : List ℕ) (q : ℕ) → k.free ≤ q → q < k.from → ¬ IsFramePosition (past.bytes ++ more) past.words q
  pub frame : ForSome k.frame (λ at. EndsWithFrameAt past.taken at)
