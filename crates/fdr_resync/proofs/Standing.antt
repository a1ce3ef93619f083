-- How a scanner that stands for a past stands for the next one.
use Rattle.std.proofs.Common.{◌≡◌, ℕ, ◌+◌, ◌*◌, ◌<◌, ◌≤◌, Bool, true, false, cond, List, [], ◌∷◌, ◌++◌, Option, Some, None, length, drop, refl, sym, ap}
use Rattle.std.proofs.Common.{◌∙◌, subst, ⊎_elim, arith}
use Rattle.std.proofs.Common.{append_assoc, append-nil, length-append, length-drop}
use Rattle.std.specs.List.{slice_get}
use Rattle.std.specs.List.{filter_map}
use Rattle.std.specs.Prelude.{Contains}
use Rattle.std.specs.Option.{ForSome}
use Rattle.std.proofs.lemmas.Bool.{cases_lt, cases_Bool}
use Rattle.std.proofs.lemmas.List.Elements.{Contains-append_right, filter_map-append}
use Rattle.std.proofs.lemmas.List.{drop-drop, drop-append-le}
use Rattle.std.proofs.lemmas.Option.{slice_get-get_or, slice_get_past}
use Rattle.std.proofs.Math.Seq.{get_or-append_seam}
use Rattle.fdr_sync.specs.Frames.{IsFramePosition, HasNoFrameFrom}
use Rattle.fdr_lists.proofs.Pairs.{Contains-here}
use Rattle.fdr_sync.specs.Accepted.{accepted_frames}
use Rattle.fdr_sync.specs.Events.{Event, Frame, decided_from, events_from, decided_events, events_of, frame_of_event}
use Rattle.fdr_sync.proofs.EventLemmas.{frames_of_events}
use Rattle.fdr_sync.proofs.FrameLemmas.{frame_within}
use Rattle.fdr_resync.specs.Past.{ScannerPast, ScannerKept, RepresentsScanner, scanner_made, scanner_with_bytes, scanner_with_events, scanner_finished}
use Rattle.fdr_resync.specs.Past.{EndsWithFrameAt, known_events, bytes_pushed}
use Rattle.fdr_resync.proofs.Following.{rest_from, rest_from-decided, rest_from-all}

-- the value whose fields are seen is the one that the caller sees
pub stands_seen : (k seen : ScannerKept) (past : ScannerPast) → k ≡ seen → RepresentsScanner seen past → RepresentsScanner k past
stands_seen k seen past is st = subst (λ (k : ScannerKept). RepresentsScanner k past) (sym is) st

no_frame : (es : List Event) → ForSome None (λ at. EndsWithFrameAt es at)
no_frame es at is = absurd (cc)

pub stands_made : (w : ℕ)
    → RepresentsScanner (record { words = w; before = 0; window = []; free = 0; from = 0; ended = false; frame = None }) (scanner_made w)
stands_made w = record {
  words = refl;
  ended = refl;
  pushed = refl;
  window = refl;
  decided = λ more going. refl;
  events = λ more ends. refl;
  clear = λ more q low high. absurd (omega arith);
  frame = no_frame [];
}

-- no frame's words need to be kept
pub stands_frame : (k : ScannerKept) (past : ScannerPast) → RepresentsScanner k past → RepresentsScanner (record k { frame = None }) past
stands_frame k past st = record {
  words = st.words;
  ended = st.ended;
  pushed = st.pushed;
  window = st.window;
  decided = st.decided;
  events = st.events;
  clear = st.clear;
  frame = no_frame past.taken;
}

pub stands_finished : (k : ScannerKept) (past : ScannerPast) → RepresentsScanner k past → RepresentsScanner (record k { ended = true }) (scanner_finished past)
stands_finished k past st = record {
  words = st.words;
  ended = refl;
  pushed = st.pushed;
  window = st.window;
  decided = λ more going. absurd (cc);
  events = λ more ends. st.events more (λ was. ends refl);
  clear = st.clear;
  frame = st.frame;
}

-- further bytes came, of which all are in the window
pub stands_bytes : (k : ScannerKept) (past : ScannerPast) (piece window : List ℕ) → RepresentsScanner k past → k.ended ≡ false → window ≡ k.window ++ piece
    → RepresentsScanner (record k { window = window }) (scanner_with_bytes past piece)
stands_bytes k past piece window st going is =
    let going_on : past.finished ≡ false = sym st.ended ∙ going in
    let before : k.before ≤ length past.bytes = omega (arith, st.pushed) in
    record {
      words = st.words;
      ended = st.ended;
      pushed = omega (arith, st.pushed, ap length is, length-append k.window piece, length-append past.bytes piece);
      window = is ∙ ap (λ xs. xs ++ piece) st.window ∙ sym (drop-append-le k.before past.bytes piece before);
      decided = λ more on.
          let P : List ℕ → Type 0 = λ b. past.taken ++ decided_from b past.words k.free ≡ decided_events b past.words in
          subst P (sym (append_assoc past.bytes piece more)) (st.decided (piece ++ more) on);
      events = λ more ends.
          let P : List ℕ → Type 0 = λ b. past.taken ++ events_from b past.words k.free ≡ events_of b past.words in
          subst P (sym (append_assoc past.bytes piece more)) (st.events (piece ++ more) (λ was. absurd (cc)));
      clear = λ more q low high.
          let P : List ℕ → Type 0 = λ b. IsFramePosition b past.words q → ⊥ in
          subst P (sym (append_assoc past.bytes piece more)) (st.clear (piece ++ more) q low high);
      frame = st.frame;
    }

-- the first bytes of the window were dropped
pub stands_dropped : (k : ScannerKept) (past : ScannerPast) (n before : ℕ) (window : List ℕ) → RepresentsScanner k past → n ≤ length k.window
    → before ≡ k.before + n → window ≡ drop n k.window
    → RepresentsScanner (record k { before = before; window = window; frame = None }) past
stands_dropped k past n before window st few at is = record {
  words = st.words;
  ended = st.ended;
  pushed = omega (arith, st.pushed, at, ap length is, length-drop n k.window);
  window = is ∙ ap (drop n) st.window ∙ drop-drop n k.before past.bytes ∙ ap (λ m. drop m past.bytes) (sym at);
  decided = st.decided;
  events = st.events;
  clear = st.clear;
  frame = no_frame past.taken;
}

-- the events up to another bit were taken, or the search went on to another bit
pub stands_events : (k : ScannerKept) (past : ScannerPast) (es : List Event) (free from : ℕ) (f : Option ℕ) → RepresentsScanner k past
    → ((all : Bool) (more : List ℕ) → (past.finished ≡ true → (all ≡ true) × (more ≡ []))
    → rest_from all (past.bytes ++ more) past.words k.free ≡ es ++ rest_from all (past.bytes ++ more) past.words free)
    → ((more : List ℕ) (q : ℕ) → free ≤ q → q < from → IsFramePosition (past.bytes ++ more) past.words q → ⊥)
    → ForSome f (λ at. EndsWithFrameAt (past.taken ++ es) at)
    → RepresentsScanner (record k { free = free; from = from; frame = f }) (scanner_with_events past es)
stands_events k past es free from f st next clear frame = record {
  words = st.words;
  ended = st.ended;
  pushed = st.pushed;
  window = st.window;
  decided = λ more on.
      append_assoc past.taken es (decided_from (past.bytes ++ more) past.words free)
      ∙ ap (λ xs. past.taken ++ (es ++ xs)) (sym (rest_from-decided (past.bytes ++ more) past.words free))
      ∙ ap (λ xs. past.taken ++ xs) (sym (next false more (λ was. absurd (cc))) ∙ rest_from-decided (past.bytes ++ more) past.words k.free)
      ∙ st.decided more on;
  events = λ more ends.
      append_assoc past.taken es (events_from (past.bytes ++ more) past.words free)
      ∙ ap (λ xs. past.taken ++ (es ++ xs)) (sym (rest_from-all (past.bytes ++ more) past.words free))
      ∙ ap (λ xs. past.taken ++ xs) (sym (next true more (λ was. (refl, ends was))) ∙ rest_from-all (past.bytes ++ more) past.words k.free)
      ∙ st.events more ends;
  clear = clear;
  frame = frame;
}

pub stands_searched : (k : ScannerKept) (past : ScannerPast) (from : ℕ) → RepresentsScanner k past
    → ((more : List ℕ) (q : ℕ) → k.from ≤ q → q < from → IsFramePosition (past.bytes ++ more) past.words q → ⊥)
    → RepresentsScanner (record k { from = from }) past
stands_searched k past from st clear = record {
  words = st.words;
  ended = st.ended;
  pushed = st.pushed;
  window = st.window;
  decided = st.decided;
  events = st.events;
  clear = λ more q low high. ⊎_elim (λ old. st.clear more q low old) (λ new. clear more q new high) (cases_lt q k.from);
  frame = st.frame;
}

-- the events that are known are those that were taken, and those from bit `free` on
pub known_are : (k : ScannerKept) (past : ScannerPast) → RepresentsScanner k past
    → known_events past ≡ past.taken ++ rest_from past.finished past.bytes past.words k.free
known_are k past st =
    let P : Bool → Type 0 =
    λ all. cond all (events_of past.bytes past.words) (decided_events past.bytes past.words) ≡ past.taken ++ rest_from all past.bytes past.words k.free in
    let now = append-nil past.bytes in
    ⊎_elim
    (λ (finished : past.finished ≡ true).
    let Q : List ℕ → Type 0 = λ b. past.taken ++ events_from b past.words k.free ≡ events_of b past.words in
    subst P (sym finished)
    (sym (ap (λ xs. past.taken ++ xs) (rest_from-all past.bytes past.words k.free) ∙ subst Q now (st.events [] (λ was. refl)))))
    (λ (going : past.finished ≡ false).
    let Q : List ℕ → Type 0 = λ b. past.taken ++ decided_from b past.words k.free ≡ decided_events b past.words in
    subst P (sym going)
    (sym (ap (λ xs. past.taken ++ xs) (rest_from-decided past.bytes past.words k.free) ∙ subst Q now (st.decided [] going))))
    (cases_Bool past.finished)

pub slice_get_seam : (xs : List Event) (e : Event) (ys : List Event) → slice_get (xs ++ e ∷ ys) (length xs) ≡ Some e
slice_get_seam xs e ys =
    let within : length xs < length (xs ++ e ∷ ys) = omega (arith, length-append xs (e ∷ ys)) in
    slice_get-get_or (xs ++ e ∷ ys) (length xs) e within ∙ ap Some (get_or-append_seam xs e ys e)

-- the next event
pub known_next : (k : ScannerKept) (past : ScannerPast) (e : Event) (es : List Event) → RepresentsScanner k past
    → rest_from past.finished past.bytes past.words k.free ≡ e ∷ es → slice_get (known_events past) (length past.taken) ≡ Some e
known_next k past e es st is =
    ap (λ xs. slice_get xs (length past.taken)) (known_are k past st ∙ ap (λ xs. past.taken ++ xs) is) ∙ slice_get_seam past.taken e es

-- and then those that were taken are not all
pub known_not_all : (past : ScannerPast) (e : Event) → slice_get (known_events past) (length past.taken) ≡ Some e → past.taken ≡ known_events past → ⊥
known_not_all past e next all =
    let none : slice_get (known_events past) (length past.taken) ≡ None =
    slice_get_past (known_events past) (length past.taken) (omega (arith, ap length all)) in
    absurd (cc)

-- no event is left
pub known_all : (k : ScannerKept) (past : ScannerPast) → RepresentsScanner k past → rest_from past.finished past.bytes past.words k.free ≡ []
    → past.taken ≡ known_events past
known_all k past st none = sym (known_are k past st ∙ ap (λ xs. past.taken ++ xs) none ∙ append-nil past.taken)

pub known_none : (past : ScannerPast) → past.taken ≡ known_events past → slice_get (known_events past) (length past.taken) ≡ None
known_none past all = slice_get_past (known_events past) (length past.taken) (omega (arith, ap length all))

-- where the search has come near the end of the bytes, no frame is left
pub none_left : (k : ScannerKept) (past : ScannerPast) → RepresentsScanner k past → 8 * bytes_pushed k < k.from + 48 * k.words
    → HasNoFrameFrom past.bytes past.words k.free
none_left k past st few q low h =
    let same : k.words ≡ past.words = st.words in
    let within = frame_within past.bytes past.words q h in
    let P : List ℕ → Type 0 = λ b. IsFramePosition b past.words q in
    ⊎_elim (λ old. st.clear [] q low old (subst P (sym (append-nil past.bytes)) h)) (λ new. omega (arith, within, st.pushed, same)) (cases_lt q k.from)

-- the frame whose words may be read is an accepted frame of the bytes so far
pub frame_accepted : (k : ScannerKept) (past : ScannerPast) (at : ℕ) → RepresentsScanner k past → k.frame ≡ Some at
    → Contains (accepted_frames past.bytes past.words) at
frame_accepted k past at st is =
    let last = st.frame at is in
    let b = past.bytes ++ [] in
    let rest = events_from b past.words k.free in
    let xs = filter_map frame_of_event last.0 in
    let ys = filter_map frame_of_event rest in
    let frames : accepted_frames b past.words ≡ xs ++ at ∷ ys =
    sym (frames_of_events b past.words)
    ∙ ap (filter_map frame_of_event) (sym (st.events [] (λ was. refl)) ∙ ap (λ es. es ++ rest) last.1 ∙ append_assoc last.0 (Frame at ∷ []) rest)
    ∙ filter_map-append frame_of_event last.0 (Frame at ∷ rest) in
    subst (λ b. Contains (accepted_frames b past.words) at) (append-nil past.bytes)
    (subst (λ zs. Contains zs at) (sym frames) (Contains-append_right xs (at ∷ ys) at (Contains-here at ys)))
