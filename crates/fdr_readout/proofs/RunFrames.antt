-- The frames of a surviving run: they are accepted one after another, and listed with their rows.
use Rattle.std.proofs.Common.{◌≡◌, ℕ, zero, suc, ◌+◌, ◌-◌, ◌*◌, ◌<◌, ◌≤◌, true, false, ltb, eqb, List, [], ◌∷◌, ◌++◌, sym, ap, refl, ◌∙◌, subst, ⊎_elim}
use Rattle.std.proofs.Common.{add-one, arith, ◌%◌, map, length, length-append, append_assoc}
use Rattle.std.specs.Prelude.{slice_index}
use Rattle.std.specs.List.{range_with_len, flat_map}
use Rattle.std.proofs.lemmas.Nat.{mul-le}
use Rattle.std.proofs.lemmas.Bool.{cases_lt, cases_Bool, and_from, lt-ltb, eq-eqb, false≢true}
use Rattle.std.proofs.lemmas.List.{append_assoc, append-nil, get_or-map, get_or_append_left, get_or-append-add}
use Rattle.std.proofs.lemmas.List.FromFn.{map-range_with_len_more, length-map-range_with_len, get_or-map-range_with_len}
use Rattle.fdr_bits.specs.Bits.{bits_in, bit_at, word_at}
use Rattle.fdr_bus.specs.declared.BusRecord.{BusRecord}
use Rattle.fdr_table.specs.Rows.{TableRows}
use Rattle.fdr_sampler.specs.Stream.{stream_of}
use Rattle.fdr_sync.specs.Frames.{is_frame_position, IsFramePosition, IsFirstFrameFrom}
use Rattle.fdr_sync.specs.Accepted.{accepted_from, accepted_frames}
use Rattle.fdr_sync.specs.Events.{Event, Frame, gap_between, events_from, events_of}
use Rattle.fdr_sync.proofs.FrameLemmas.{frame_within}
use Rattle.fdr_sync.proofs.SameLemmas.{frame_same}
use Rattle.fdr_sync.proofs.EventSteps.{events_from_first}
use Rattle.fdr_readout.specs.Listing.{accepted_to, frame_words, frame_read, rows_at, gap_lines, lines_of, listing_of}
use Rattle.fdr_readout.specs.Survival.{IsClearBefore, Survives, frames_from, AreAcceptedInARow, AreAmong, sampled_since, lines_at}
use Rattle.fdr_readout.proofs.Recordable.{IsRecordable}
use Rattle.fdr_readout.proofs.SoFarLemmas.{SoFar, SoFar-none, all_split, accepted_to_next, adjacent_next, so_far_next}
use Rattle.fdr_readout.proofs.StreamFrames.{word_at-stream, frame_place, some_words, next_frame, slot_within_frames}
use Rattle.fdr_bits.proofs.WordLemmas.{word_at_same}
use Rattle.fdr_sampler.specs.SlotWord.{slot_word}
use Rattle.fdr_recon.specs.Rows.{ReadFrame, frame_at, rows_of_frame}
use Rattle.fdr_readout.specs.SampledRows.{sampled_rows, whole_frames}
use Rattle.fdr_readout.proofs.RecordedRows.{AddsToRun, recorded_joined, recorded_rows, recorded_since}
use Rattle.std.proofs.lemmas.List.Concat.{flat_map-append}
use Rattle.fdr_readout.proofs.Lines.{lines_from_first, lines_from_here}

-- ---- a search comes to a frame that no other one reaches into

-- a frame position is the first one from its own bit on
pub first_here : (b : List ℕ) (w p : ℕ) → IsFramePosition b w p → IsFirstFrameFrom b w p p
first_here b w p position = record { behind = omega arith; position = position; first = λ q from before there. absurd (omega arith) }

-- the first frame position from a bit on, where there is one
first_from : (b : List ℕ) (w free d : ℕ) → IsFramePosition b w (free + d) → (p : ℕ) × IsFirstFrameFrom b w free p × (p ≤ free + d)
first_from b w free zero here =
    (free, first_here b w free (subst (IsFramePosition b w) (omega arith) here), omega arith)
first_from b w free (suc d) here =
    let at : free + suc d ≡ free + 1 + d = omega arith in
    ⊎_elim
    (λ (yes : is_frame_position b w free ≡ true). (free, first_here b w free yes, omega arith))
    (λ (no : is_frame_position b w free ≡ false).
    let later = first_from b w (free + 1) d (subst (IsFramePosition b w) at here) in (
      later.0,
      record {
        behind = omega (arith, later.1.behind);
        position = later.1.position;
        first = λ q from before position. ⊎_elim
            (λ (above : free < q). later.1.first q (omega arith) before position)
            (λ (low : q ≤ free). let is : q ≡ free = omega arith in false≢true (sym no ∙ ap (is_frame_position b w) (sym is) ∙ position))
            (cases_lt free q);
      },
      omega (arith, later.2),
    ))
    (cases_Bool (is_frame_position b w free))

-- A search for the next frame comes to bit q: these frames were accepted before it, and these events decided.
pub record Reaches (b : List ℕ) (w q : ℕ) : Type 0 where
  pub free : ℕ
  pub frames : List ℕ
  pub events : List Event
  pub so_far : SoFar b w free frames
  pub decided : events_of b w ≡ events ++ events_from b w free
  pub next : IsFirstFrameFrom b w free q

reaches_from : (b : List ℕ) (w q : ℕ) → 0 < w → IsFramePosition b w q → IsClearBefore b w q →
    (fuel free : ℕ) (frames : List ℕ) (events : List Event) → free ≤ q → q < free + fuel →
    SoFar b w free frames → events_of b w ≡ events ++ events_from b w free → Reaches b w q
reaches_from b w q some position clear zero free frames events low high so_far decided = absurd (omega arith)
reaches_from b w q some position clear (suc fuel) free frames events low high so_far decided =
    let found = first_from b w free (q - free) (subst (IsFramePosition b w) (omega arith) position) in
    let p = found.0 in
    let next : IsFirstFrameFrom b w free p = found.1 in
    let rest = events_from b w (p + 48 * w) in
    ⊎_elim
    (λ (before : p < q). ⊎_elim
    (λ (reaches : q < p + 48 * w). absurd (clear p before reaches next.position))
    (λ (apart : p + 48 * w ≤ q).
    reaches_from b w q some position clear fuel (p + 48 * w) (frames ++ p ∷ []) (events ++ (gap_between free p ++ Frame p ∷ []))
    apart (omega (arith, next.behind)) (so_far_next b w free p frames some so_far next)
    (decided
    ∙ ap (λ es. events ++ es) (events_from_first b w free p some next ∙ sym (append_assoc (gap_between free p) (Frame p ∷ []) rest))
    ∙ sym (append_assoc events (gap_between free p ++ Frame p ∷ []) rest)))
    (cases_lt q (p + 48 * w)))
    (λ (late : q ≤ p).
    let is : p ≡ q = omega (arith, found.2) in
    record { free = free; frames = frames; events = events; so_far = so_far; decided = decided; next = subst (IsFirstFrameFrom b w free) is next })
    (cases_lt p q)

pub reaches : (b : List ℕ) (w q : ℕ) → 0 < w → IsFramePosition b w q → IsClearBefore b w q → Reaches b w q
reaches b w q some position clear = reaches_from b w q some position clear (q + 1) 0 [] [] (omega arith) (omega arith) (SoFar-none b w) refl

-- ---- the frames of a run

module _ (t : TableRows) (records : List BusRecord) (b : List ℕ) (q j m : ℕ) (h : IsRecordable t) (survives : Survives t records b q j m) where
  -- the bits of frame i of the run lie within b
  frame_fits : (i : ℕ) → i < m → 48 * t.frame.words * i + 48 * t.frame.words ≤ 48 * t.frame.words * m
  frame_fits i early =
      let w = t.frame.words in
      let all : 48 * w * (i + 1) ≤ 48 * w * m = mul-le (48 * w) (i + 1) (48 * w) m (omega arith) (omega arith) in
      omega arith

  -- and are those of frame j + i of the recording
  pub run_bit : (i x : ℕ) → i < m → x < 48 * t.frame.words →
      bit_at b (q + 48 * t.frame.words * i + x) ≡ bit_at (stream_of t records) (frame_place t.frame.words (j + i) + x)
  run_bit i x early low =
      let w = t.frame.words in
      let here : q + 48 * w * i + x ≡ q + (48 * w * i + x) = omega arith in
      let there : 48 * w * j + (48 * w * i + x) ≡ 48 * w * (j + i) + x = omega arith in
      ap (bit_at b) here ∙ survives.stand.same (48 * w * i + x) (omega (arith, frame_fits i early)) ∙ ap (bit_at (stream_of t records)) there

  -- so a frame is there
  pub run_position : (i : ℕ) → i < m → IsFramePosition b t.frame.words (q + 48 * t.frame.words * i)
  run_position i early =
      let w = t.frame.words in
      let s = stream_of t records in
      let p = q + 48 * w * i in
      let o = frame_place w (j + i) in
      let there : IsFramePosition s w o = (next_frame t records h (j + i) (omega (arith, survives.whole))).position in
      let fits : p + 48 * w ≤ bits_in b = omega (arith, frame_fits i early, survives.stand.within) in
      frame_same b s w p o (some_words t records h) fits (frame_within s w o there) (λ x low. run_bit i x early low)
      ∙ there

  -- the search comes to its first frame
  pub run_reached : Reaches b t.frame.words q
  run_reached =
      let w = t.frame.words in
      reaches b w q (some_words t records h) (subst (IsFramePosition b w) (omega arith) (run_position 0 (omega (arith, survives.not_empty)))) survives.clear

  -- one more frame of the run
  frames_to : (i : ℕ) →
      (run_reached.frames ++ frames_from t.frame.words q i) ++ (q + 48 * t.frame.words * i) ∷ [] ≡ run_reached.frames ++ frames_from t.frame.words q (i + 1)
  frames_to i =
      append_assoc run_reached.frames (frames_from t.frame.words q i) _
      ∙ ap (λ (xs : List ℕ). run_reached.frames ++ xs) (sym (map-range_with_len_more (λ k. q + 48 * t.frame.words * k) 0 i i (omega arith)))

  -- The search comes to frame i of the run: it goes on at bit `free`, which is where this frame begins if it isn't the first.
  pub record ComesTo (i : ℕ) : Type 0 where
    pub free : ℕ
    pub so_far : SoFar b t.frame.words free (run_reached.frames ++ frames_from t.frame.words q i)
    pub next : IsFirstFrameFrom b t.frame.words free (q + 48 * t.frame.words * i)
    pub here : 0 < i → free ≡ q + 48 * t.frame.words * i

  pub comes_to : (i : ℕ) → i < m → ComesTo i
  comes_to zero early =
      let first : q ≡ q + 48 * t.frame.words * 0 = omega arith in
      record {
        free = run_reached.free;
        so_far = subst (SoFar b t.frame.words run_reached.free) (sym (append-nil run_reached.frames)) run_reached.so_far;
        next = subst (IsFirstFrameFrom b t.frame.words run_reached.free) first run_reached.next;
        here = λ later. absurd (omega arith);
      }
  comes_to (suc i) early =
      let w = t.frame.words in
      let before = comes_to i (omega arith) in
      let p = q + 48 * w * i in
      let at : p + 48 * w ≡ q + 48 * w * suc i = omega arith in
      record {
        free = q + 48 * w * suc i;
        so_far = subst (λ free. SoFar b w free (run_reached.frames ++ frames_from w q (suc i))) at (subst (SoFar b w (p + 48 * w)) (rw add-one at (frames_to i))
            (so_far_next b w before.free p (run_reached.frames ++ frames_from w q i) (some_words t records h) before.so_far before.next));
        next = first_here b w (q + 48 * w * suc i) (run_position (suc i) early);
        here = λ later. refl;
      }

  -- the accepted frames: those before the run, its frames one after the other, and those after it
  pub run_accepted :
      accepted_frames b t.frame.words
      ≡ run_reached.frames ++ frames_from t.frame.words q m ++ accepted_from b t.frame.words (q + 48 * t.frame.words * (m - 1) + 48 * t.frame.words)
  run_accepted =
      let w = t.frame.words in
      let some = survives.not_empty in
      let last = comes_to (m - 1) (omega arith) in
      let p = q + 48 * w * (m - 1) in
      let all : m - 1 + 1 ≡ m = omega arith in
      let rest = accepted_from b w (p + 48 * w) in
      all_split b w last.free p (run_reached.frames ++ frames_from w q (m - 1)) (some_words t records h) last.so_far last.next
      ∙ ap (λ (xs : List ℕ). xs ++ rest) (frames_to (m - 1)) ∙ ap (λ k. run_reached.frames ++ frames_from w q k ++ rest) all

  -- those up to frame i of the run
  pub accepted_to_run : (i : ℕ) → i < m →
      accepted_to b t.frame.words (q + 48 * t.frame.words * i) ≡ run_reached.frames ++ frames_from t.frame.words q (i + 1)
  accepted_to_run i early =
      let w = t.frame.words in
      let at = comes_to i early in
      accepted_to_next b w at.free (q + 48 * w * i) (run_reached.frames ++ frames_from w q i) (some_words t records h) at.so_far at.next ∙ frames_to i

  -- each frame but the first begins where the one before it ends
  run_adjacent : (i : ℕ) → 0 < i → i < m → (frame_read b t.frame.words (q + 48 * t.frame.words * i)).adjacent ≡ true
  unfolding frame_read
  run_adjacent i later early =
      let w = t.frame.words in
      let p = q + 48 * w * i in
      let at = comes_to i early in
      let some = some_words t records h in
      let far : 48 * w * 1 ≤ 48 * w * i = mul-le (48 * w) 1 (48 * w) i (omega arith) (omega arith) in
      adjacent_next b w at.free p (run_reached.frames ++ frames_from w q i) some at.so_far at.next
      ∙ and_from (ltb 0 at.free) (eqb p at.free) (lt-ltb 0 at.free (omega (arith, far, at.here later))) (eq-eqb p at.free (sym (at.here later)))

  -- ---- their rows

  -- frame i of the run as it is read, with frames before and after
  frame_at-run : (i k : ℕ) (rest : List ℕ) → i < k →
      frame_at (map (frame_read b t.frame.words) (run_reached.frames ++ frames_from t.frame.words q k ++ rest)) (length run_reached.frames + i)
      ≡ frame_read b t.frame.words (q + 48 * t.frame.words * i)
  frame_at-run i k rest early =
      let w = t.frame.words in
      let before = run_reached.frames in
      let run = frames_from w q k in
      let n = length before + i in
      let count : length run ≡ k = length-map-range_with_len (λ i. q + 48 * w * i) 0 k in
      let front : n < length (before ++ run) = omega (arith, length-append before run, count) in
      get_or-map (frame_read b w) (before ++ run ++ rest) n 0 _ (omega (arith, front, length-append (before ++ run) rest))
      ∙ ap (frame_read b w) (get_or_append_left (before ++ run) rest 0 n front
      ∙ get_or-append-add before run i 0 ∙ get_or-map-range_with_len (λ i. q + 48 * w * i) 0 k i i 0 early (omega arith))

  -- it has the words of frame j + i of the recording
  words_of_run : (i place : ℕ) → i < m → place < 4 * t.frame.words →
      slice_index (frame_read b t.frame.words (q + 48 * t.frame.words * i)).words place ≡ slot_word t records (4 * t.frame.words * (j + i) + place)
  unfolding frame_read frame_words
  words_of_run i place early low =
      let w = t.frame.words in
      let s = stream_of t records in
      let p = q + 48 * w * i in
      let o = frame_place w (j + i) in
      let there : o + 12 * place ≡ 12 * (4 * w * (j + i) + place) = omega arith in
      get_or-map-range_with_len (λ k. word_at b (p + 12 * k)) 0 (4 * w) place place 0 low (omega arith)
      ∙ word_at_same b s (p + 12 * place) (o + 12 * place) (λ x few.
      let bit : p + 12 * place + x ≡ p + (12 * place + x) = omega arith in
      let recorded : o + (12 * place + x) ≡ o + 12 * place + x = omega arith in
      ap (bit_at b) bit ∙ run_bit i (12 * place + x) early (omega arith) ∙ ap (bit_at s) recorded)
      ∙ ap (word_at s) there
      ∙ word_at-stream t records (4 * w * (j + i) + place) (slot_within_frames t records h (j + i) place (omega (arith, survives.whole)) low)

  -- so it is read as it was recorded, and so are those of the run before it
  run_recorded : (i k : ℕ) (rest : List ℕ) → i < k → k ≤ m →
      AddsToRun t records (map (frame_read b t.frame.words) (run_reached.frames ++ frames_from t.frame.words q k ++ rest))
      (length run_reached.frames + i) (j + i) i
  run_recorded i k rest early within =
      let w = t.frame.words in
      let frames = map (frame_read b w) (run_reached.frames ++ frames_from w q k ++ rest) in
      let at : (e : ℕ) → e ≤ i → frame_at frames (length run_reached.frames + i - e) ≡ frame_read b w (q + 48 * w * (i - e)) = λ e near.
      let index : length run_reached.frames + i - e ≡ length run_reached.frames + (i - e) = omega arith in
      ap (frame_at frames) index ∙ frame_at-run (i - e) k rest (omega arith) in
      record {
        read = omega arith;
        recorded = omega arith;
        words = λ e place near low.
            let slot : j + (i - e) ≡ j + i - e = omega arith in
            ap (λ (r : ReadFrame). slice_index r.words place) (at e near)
            ∙ words_of_run (i - e) place (omega arith) low ∙ ap (λ k. slot_word t records (4 * w * k + place)) slot;
        adjacent = λ e near. ap (λ (r : ReadFrame). r.adjacent) (at e (omega arith)) ∙ run_adjacent (i - e) (omega arith) (omega arith);
      }

  -- the frames of the run are accepted, one next to the other, and joined
  pub run_in_a_row : AreAcceptedInARow t b q m
  run_in_a_row =
      let w = t.frame.words in
      let some = survives.not_empty in
      let behind = accepted_from b w (q + 48 * w * (m - 1) + 48 * w) in
      let recorded = run_recorded (m - 1) m behind (omega arith) (omega arith) in
      record {
        before = run_reached.frames;
        behind = behind;
        accepted = run_accepted;
        joined = rw run_accepted (recorded_joined t records _ (length run_reached.frames + (m - 1)) (j + (m - 1)) (m - 1) h recorded (m - 1) (omega arith));
      }

  -- the rows of frame i of the run, by the frames up to it
  rows_of_run : (i : ℕ) → i < m →
      rows_at t b (q + 48 * t.frame.words * i)
      ≡ rows_of_frame t (map (frame_read b t.frame.words) (run_reached.frames ++ frames_from t.frame.words q (i + 1) ++ [])) (length run_reached.frames + i)
  unfolding rows_at
  rows_of_run i early =
      let w = t.frame.words in
      let to = run_reached.frames ++ frames_from w q (i + 1) in
      let count : length (frames_from w q (i + 1)) ≡ i + 1 = length-map-range_with_len (λ i. q + 48 * w * i) 0 (i + 1) in
      let last : length to - 1 ≡ length run_reached.frames + i = omega (arith, length-append run_reached.frames (frames_from w q (i + 1)), count) in
      ap (λ (xs : List ℕ). rows_of_frame t (map (frame_read b w) xs) (length xs - 1)) (accepted_to_run i early)
      ∙ ap (rows_of_frame t (map (frame_read b w) to)) last
      ∙ ap (λ (xs : List ℕ). rows_of_frame t (map (frame_read b w) xs) (length run_reached.frames + i)) (sym (append-nil to))

  -- those that were sampled from frame j on are among them
  pub run_rows : (i : ℕ) → i < m → AreAmong (sampled_since t records j (j + i)) (rows_at t b (q + 48 * t.frame.words * i))
  run_rows i early =
      rw (rows_of_run i early)
      (recorded_since t records _ (length run_reached.frames + i) (j + i) i h (run_recorded i (i + 1) [] (omega arith) (omega arith)) j (omega arith))

  -- and where the superframe up to this frame lies within the run, there are no others
  pub run_all_rows : (i : ℕ) → i < m → (j + i) % 16 ≤ i → rows_at t b (q + 48 * t.frame.words * i) ≡ sampled_rows t records (j + i)
  run_all_rows i early whole =
      rows_of_run i early ∙ recorded_rows t records _ (length run_reached.frames + i) (j + i) i h (run_recorded i (i + 1) [] (omega arith) (omega arith)) whole

  -- ---- their lines

  -- the lines from bit a on
  abbrev lines_from : ℕ → List ℕ
  lines_from a = flat_map (lines_of t b) (events_from b t.frame.words a)

  -- the lines from frame i of the run on, where d of its frames are left
  lines_from_run : (i d : ℕ) → i + d ≡ m →
      lines_from (q + 48 * t.frame.words * i)
      ≡ flat_map (lines_at t b) (map (λ k. q + 48 * t.frame.words * k) (range_with_len i d)) ++ lines_from (q + 48 * t.frame.words * m)
  lines_from_run i zero left =
      let here : i ≡ m = omega arith in
      ap (λ k. lines_from (q + 48 * t.frame.words * k)) here
  lines_from_run i (suc d) left =
      let w = t.frame.words in
      let p = q + 48 * w * i in
      let next : p + 48 * w ≡ q + 48 * w * (i + 1) = omega arith in
      lines_from_here t b p (some_words t records h) (first_here b w p (run_position i (omega arith)))
      ∙ ap (λ a. lines_at t b p ++ lines_from a) next
      ∙ ap (λ (lines : List ℕ). lines_at t b p ++ lines) (lines_from_run (i + 1) d (omega arith))
      ∙ sym (append_assoc (lines_at t b p) (flat_map (lines_at t b) (map (λ k. q + 48 * w * k) (range_with_len (i + 1) d))) _)

  -- the lines of the run are together in the listing
  pub run_lines : (front : List ℕ) × (back : List ℕ) × (listing_of t b ≡ front ++ flat_map (lines_at t b) (frames_from t.frame.words q m) ++ back)
  unfolding listing_of lines_of lines_at
  run_lines =
      let w = t.frame.words in
      let r = run_reached in
      let some = some_words t records h in
      let before = flat_map (lines_of t b) r.events in
      let gap = gap_lines r.free q in
      let run = flat_map (lines_at t b) (frames_from w q m) in
      let first : q ≡ q + 48 * w * 0 = omega arith in
      let here = lines_from_here t b q some (first_here b w q r.next.position) in
      let come : lines_from r.free ≡ gap ++ lines_from q = rw (lines_from_first t b r.free q some r.next, here, append_assoc) refl in
      let all : lines_from q ≡ run ++ lines_from (q + 48 * w * m) = ap lines_from first ∙ lines_from_run 0 m (omega arith) in (
        before ++ gap,
        lines_from (q + 48 * w * m),
        rw r.decided (flat_map-append (lines_of t b) r.events (events_from b w r.free) ∙ rw (come, all, append_assoc, append_assoc) refl),
      )

-- the first whole frames of a recording survive in its own bytes
pub whole_survives : (t : TableRows) (records : List BusRecord) (m : ℕ) → IsRecordable t → 1 ≤ m → m ≤ whole_frames t records
    → Survives t records (stream_of t records) 0 0 m
whole_survives t records m h some few =
    let w = t.frame.words in
    let s = stream_of t records in
    let last = frame_within s w (frame_place w (m - 1)) (next_frame t records h (m - 1) (omega arith)).position in
    let before : m ≡ m - 1 + 1 = omega arith in
    let end : 48 * w * m ≡ 48 * w * (m - 1) + 48 * w = ap (λ k. 48 * w * k) before ∙ omega arith in
    record {
      not_empty = some;
      whole = omega arith;
      stand = record { within = omega (arith, last, end); same = λ x low. let here : 0 + x ≡ 48 * w * 0 + x = omega arith in ap (bit_at s) here };
      clear = λ p before. absurd (omega arith);
    }
