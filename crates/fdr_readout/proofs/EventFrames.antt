-- The accepted frames up to one of the events, and the entries of that event, also behind frames of other bits.
use Rattle.std.proofs.Common.{◌≡◌, ℕ, ◌+◌, ◌-◌, ◌*◌, ◌<◌, ◌≤◌, List, [], ◌∷◌, ◌++◌, length, map, true, false, sym, ap, refl, ◌∙◌, arith, append-nil}
use Rattle.std.proofs.Common.{append_assoc, length-append, zero, suc}
use Rattle.std.specs.Prelude.{AllPairs, IsSome}
use Rattle.std.specs.List.{filter_map}
use Rattle.std.proofs.lemmas.Bool.{and_left}
use Rattle.std.proofs.lemmas.List.{length-map, get_or_append_left, get_or_at, get_or-append-add}
use Rattle.std.proofs.lemmas.List.Concat.{flat_map-append}
use Rattle.std.proofs.lemmas.List.Elements.{filter_map-append}
use Rattle.fdr_frame.specs.WordCount.{IsWordCount}
use Rattle.fdr_frame.proofs.WordCounts.{word_count_bounds}
use Rattle.fdr_sync.specs.Accepted.{accepted_frames}
use Rattle.fdr_sync.specs.Events.{Event, Frame, Gap, events_of, frame_of_event}
use Rattle.fdr_sync.proofs.AcceptedLemmas.{accepted_apart}
use Rattle.fdr_sync.proofs.EventLemmas.{frames_of_events}
use Rattle.fdr_table.specs.Rows.{TableRows, FrameRow}
use Rattle.fdr_recon.specs.Past.{BeginsApart, is_linked_at, read_frame}
use Rattle.fdr_recon.specs.Rows.{ReadFrame, rows_looked_at, rows_of_frame, frame_at, are_linked}
use Rattle.fdr_recon.proofs.ApartFrames.{last_rows-apart}
use Rattle.fdr_readout.specs.Listing.{accepted_to, frame_read, rows_at, is_frame_linked}
use Rattle.fdr_readout.specs.Entries.{Entry, FrameEntry, RowEntry, event_entries, last_frame_entries, entries_at, entries_of}
use Rattle.fdr_readout.specs.Reading.{entries_in}
use Rattle.fdr_readout.proofs.SoFarLemmas.{filter_to}
use Rattle.fdr_readout.proofs.EntryLemmas.{flat_map_row_entries}

frame_at-behind : (earlier frames : List ReadFrame) (i : ℕ) → frame_at (earlier ++ frames) (length earlier + i) ≡ frame_at frames i
frame_at-behind earlier frames i = get_or-append-add earlier frames i (read_frame false [])

first_apart : (frames : List ReadFrame) → BeginsApart frames → (frame_at frames 0).adjacent ≡ false
first_apart [] apart = refl
first_apart (r ∷ frames) apart = apart

-- a frame that isn't adjacent to the one before it isn't linked to it
apart_unlinked : (f : FrameRow) (frames : List ReadFrame) (i : ℕ) → (frame_at frames i).adjacent ≡ false → is_linked_at f frames i ≡ false
unfolding are_linked
apart_unlinked f frames zero apart = refl
apart_unlinked f frames (suc i) apart = and_left _ _ apart

-- each frame is linked as it is without those before
linked-apart : (f : FrameRow) (earlier frames : List ReadFrame) (i : ℕ) → BeginsApart frames
    → is_linked_at f (earlier ++ frames) (length earlier + i) ≡ is_linked_at f frames i
linked-apart f earlier frames zero apart =
    apart_unlinked f (earlier ++ frames) (length earlier + 0)
    (ap (λ (r : ReadFrame). r.adjacent) (frame_at-behind earlier frames 0) ∙ first_apart frames apart)
linked-apart f earlier frames (suc i) apart =
    let later : length earlier + suc i ≡ suc (length earlier + i) = omega arith in
    let next = rw later at (frame_at-behind earlier frames (suc i)) in
    ap (is_linked_at f (earlier ++ frames)) later ∙ rw (frame_at-behind earlier frames i, next) refl

-- the accepted frames up to one that is an event
accepted_to_event : (b : List ℕ) (w a : ℕ) (taken after : List Event) → 0 < w → events_of b w ≡ taken ++ Frame a ∷ after
    → accepted_to b w a ≡ filter_map frame_of_event taken ++ a ∷ []
accepted_to_event b w a taken after some is =
    let xs = filter_map frame_of_event taken in
    let ys = filter_map frame_of_event after in
    let all : accepted_frames b w ≡ xs ++ a ∷ ys =
    sym (frames_of_events b w) ∙ ap (filter_map frame_of_event) is ∙ filter_map-append frame_of_event taken (Frame a ∷ after) in
    let pairs : AllPairs (λ earlier later. earlier + 48 * w ≤ later) (xs ++ a ∷ ys) = rw all at (accepted_apart b w 0) in
    let at = λ (d : ℕ). get_or_at xs a ys d (length xs) refl in
    let long = length-append xs (a ∷ ys) in
    rw all (filter_to xs ys a
    (λ k d l. omega (arith, pairs k (length xs) d l (omega (arith, long)), get_or_append_left xs (a ∷ ys) d k l, at d))
    (λ k d l. omega (arith, pairs (length xs) (length xs + suc k) d (omega arith) (omega (arith, long)), at d, get_or-append-add xs (a ∷ ys) (suc k) d)))

-- a frame that was just read is one at least
pub some_read : (b : List ℕ) (w : ℕ) (taken : List Event) (e : Event) (read : List ReadFrame) → IsSome (frame_of_event e)
    → read ≡ map (frame_read b w) (filter_map frame_of_event (taken ++ e ∷ [])) → 0 < length read
some_read b w taken (Gap a n) read frame is = absurd (let wrong : false ≡ true = frame in cc)
some_read b w taken (Frame a) read frame is =
    let xs = filter_map frame_of_event taken in
    let all = ap length (is ∙ ap (map (frame_read b w)) (filter_map-append frame_of_event taken (Frame a ∷ []))) in
    omega (arith, all, length-map (xs ++ a ∷ []) (frame_read b w), length-append xs (a ∷ []))

-- the entries of frame i of these
abbrev frame_entries_of : TableRows → List ReadFrame → ℕ → List Entry
frame_entries_of t frames i = FrameEntry (is_linked_at t.frame frames i) ∷ map RowEntry (filter_map (λ r. r) (rows_looked_at t frames i))

-- the entries of an event, by the frames that were read up to it
pub entries_as_read : (t : TableRows) (b : List ℕ) (taken : List Event) (e : Event) (after : List Event) (read : List ReadFrame)
    → IsWordCount t.frame.words → events_of b t.frame.words ≡ taken ++ e ∷ after
    → read ≡ map (frame_read b t.frame.words) (filter_map frame_of_event (taken ++ e ∷ [])) → event_entries t read e ≡ entries_at t b e
unfolding entries_at rows_at is_frame_linked last_frame_entries rows_of_frame
entries_as_read t b taken (Gap a n) after read count is as_read = refl
entries_as_read t b taken (Frame a) after read count is as_read =
    let w = t.frame.words in
    let some : 0 < w = omega (arith, word_count_bounds w count) in
    let xs = filter_map frame_of_event taken ++ a ∷ [] in
    let f = frame_read b w in
    let to_here : accepted_to b w a ≡ xs = accepted_to_event b w a taken after some is in
    let frames : read ≡ map f xs = as_read ∙ ap (map f) (filter_map-append frame_of_event taken (Frame a ∷ [])) in
    ap (λ (es : List Entry). FrameEntry (is_linked_at t.frame read (length read - 1)) ∷ es) (flat_map_row_entries (rows_looked_at t read (length read - 1)))
    ∙ ap (λ (rs : List ReadFrame). frame_entries_of t rs (length rs - 1)) frames
    ∙ ap (λ n. frame_entries_of t (map f xs) (n - 1)) (length-map xs f)
    ∙ ap (λ (ys : List ℕ). frame_entries_of t (map f ys) (length ys - 1)) (sym to_here)

-- the entries of an event are the same without the frames of other bytes that were read before
pub entries_apart : (t : TableRows) (earlier read : List ReadFrame) (e : Event) → IsWordCount t.frame.words → BeginsApart read
    → (IsSome (frame_of_event e) → 0 < length read) → event_entries t (earlier ++ read) e ≡ event_entries t read e
unfolding last_frame_entries
entries_apart t earlier read (Gap a n) count apart some = refl
entries_apart t earlier read (Frame a) count apart some =
    let last : length (earlier ++ read) - 1 ≡ length earlier + (length read - 1) = omega (arith, length-append earlier read, some refl) in
    let rows = last_rows-apart t earlier read (omega (arith, word_count_bounds t.frame.words count)) apart (some refl) in
    rw (rows, last, linked-apart t.frame earlier read (length read - 1) apart) refl

module _ (t : TableRows) (b : List ℕ) (taken es : List Event) (e : Event) (after : List Event) (entries : List Entry) (read : List ReadFrame)
    (count : IsWordCount t.frame.words) (ahead : events_of b t.frame.words ≡ (taken ++ es) ++ e ∷ after)
    (as_read : read ≡ map (frame_read b t.frame.words) (filter_map frame_of_event ((taken ++ es) ++ e ∷ [])))
    (added : entries_in t b (taken ++ es) ≡ entries_in t b taken ++ entries) where
  -- the entries of one event more
  pub entries_step : entries_in t b (taken ++ (es ++ e ∷ [])) ≡ entries_in t b taken ++ (entries ++ event_entries t read e)
  entries_step =
      rw (← append_assoc taken es (e ∷ [])) (flat_map-append (entries_at t b) (taken ++ es) (e ∷ [])
      ∙ rw (added, append-nil (entries_at t b e), entries_as_read t b (taken ++ es) e after read count ahead as_read)
      (append_assoc (entries_in t b taken) entries (entries_at t b e)))

  -- and those after it
  pub entries_rest : entries_of t b ≡ (entries_in t b taken ++ (entries ++ event_entries t read e)) ++ entries_in t b after
  unfolding entries_of
  entries_rest =
      ap (entries_in t b) (ahead ∙ sym (append_assoc (taken ++ es) (e ∷ []) after))
      ∙ flat_map-append (entries_at t b) ((taken ++ es) ++ e ∷ []) after
      ∙ ap (λ (front : List Entry). front ++ entries_in t b after) (ap (entries_in t b) (append_assoc taken es (e ∷ [])) ∙ entries_step)
