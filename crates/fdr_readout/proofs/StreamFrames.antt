-- The words of a recording's bytes, and its frames: one after another from the first bit on, and none after the last whole one.
use Rattle.std.proofs.Common.{◌≡◌, ℕ, zero, suc, ◌+◌, ◌-◌, ◌*◌, ◌%◌, ◌<◌, ◌≤◌, List, [], map, length, sym, ap, ◌∙◌, subst, add-one, arith, ◌/◌, ◌^◌}
use Rattle.std.proofs.Common.{slice_index}
use Rattle.std.specs.List.{range_with_len}
use Rattle.std.proofs.lemmas.Nat.{mod_below, mul-le, div-add-mod'}
use Rattle.std.proofs.lemmas.Bool.{and_from, eq-eqb}
use Rattle.std.proofs.lemmas.List.FromFn.{map-range_with_len_more, get_or-map-range_with_len}
use Rattle.fdr_bits.specs.Bits.{bits_in, word_at, bit_at}
use Rattle.fdr_bus.specs.declared.BusRecord.{BusRecord}
use Rattle.fdr_frame.specs.Slots.{sync_word}
use Rattle.fdr_table.specs.Rows.{TableRows}
use Rattle.fdr_sampler.specs.Stream.{stream_words, stream_of, slot_count, packed}
use Rattle.fdr_sync.specs.Frames.{IsFramePosition, IsFirstFrameFrom, HasNoFrameFrom}
use Rattle.fdr_sync.proofs.FrameLemmas.{frame_within, frame_by_syncs}
use Rattle.fdr_sync.proofs.FrameSteps.{word_count_some}
use Rattle.fdr_readout.proofs.Recordable.{IsRecordable}
use Rattle.fdr_readout.specs.SampledRows.{whole_frames}
use Rattle.fdr_readout.proofs.SoFarLemmas.{SoFar, SoFar-none, so_far_next}
use Rattle.fdr_readout.proofs.SlotKinds.{slot_word-sync}
use Rattle.fdr_bus.specs.Records.{time_of}
use Rattle.fdr_sampler.specs.SlotWord.{slot_word}
use Rattle.fdr_sampler.proofs.Packing.{length-packed, bit_at-packed}
use Rattle.fdr_sampler.proofs.Streaming.{slot_words-below}
use Rattle.fdr_sampler.proofs.StreamWords.{length-stream_words}
use Rattle.std.specs.Int.{bit_at as nat_bit}
use Rattle.std.proofs.Math.Nat.{mod-eq_of_lt}
use Rattle.fdr_bits.proofs.WordLemmas.{number_of-same, number_of-bits}

-- a word's bits are in the bytes from bit 12 k on
word_bits : (words : List ℕ) (k j : ℕ) → k < length words → j < 12 → bit_at (packed words) (12 * k + j) ≡ nat_bit (slice_index words k) j
word_bits words k j within few =
    let at : (12 * k + j) / 12 ≡ k = omega arith in
    let bit : (12 * k + j) % 12 ≡ j = omega arith in
    bit_at-packed words (12 * k + j) (omega (arith, length-packed words))
    ∙ ap (λ x. slice_index words x / 2 ^ ((12 * k + j) % 12) % 2) at ∙ ap (λ x. slice_index words k / 2 ^ x % 2) bit

-- ---- the words in the bytes

-- word k of a recording begins at bit 12 k
pub word_at-stream : (t : TableRows) (records : List BusRecord) (k : ℕ) → k < length (stream_words t records) →
    word_at (stream_of t records) (12 * k) ≡ slot_word t records k
unfolding word_at
word_at-stream t records k within =
    let n = slot_count t.frame.words (time_of records) in
    let words = stream_words t records in
    let low : k < n = omega (arith, length-stream_words t records) in
    number_of-same (λ j. bit_at (packed words) (12 * k + j)) (nat_bit (slice_index words k)) 12 (λ j few. word_bits words k j within few)
    ∙ number_of-bits (slice_index words k) 12 ∙ mod-eq_of_lt (slot_words-below t records n k 0 within)
    ∙ get_or-map-range_with_len (slot_word t records) 0 n k k 0 low (omega arith)

-- at most four bits follow the words
pub stream-bits : (t : TableRows) (records : List BusRecord) →
    (12 * length (stream_words t records) ≤ bits_in (stream_of t records)) × (bits_in (stream_of t records) ≤ 12 * length (stream_words t records) + 4)
stream-bits t records =
    let bytes = length-packed (stream_words t records) in
    (omega (arith, bytes), omega (arith, bytes))

-- ---- the frames

-- where frame j begins
abbrev pub frame_place : ℕ → ℕ → ℕ
frame_place w j = 48 * w * j

-- where the first j frames begin
abbrev pub frame_places : ℕ → ℕ → List ℕ
frame_places w j = map (frame_place w) (range_with_len 0 j)

module _ (t : TableRows) (records : List BusRecord) (h : IsRecordable t) where
  pub some_words : 0 < t.frame.words
  some_words = word_count_some t.frame.words h.words

  -- less than a frame remains after the whole ones
  whole_frames-bounds :
      (4 * t.frame.words * whole_frames t records ≤ length (stream_words t records))
      × (length (stream_words t records) < 4 * t.frame.words * whole_frames t records + 4 * t.frame.words)
  unfolding whole_frames
  whole_frames-bounds =
      let n = length (stream_words t records) in
      let w = t.frame.words in
      let split = div-add-mod' n (4 * w) in
      let low : n % (4 * w) < 4 * w = mod_below n (4 * w) (omega (arith, some_words)) in
      (omega (arith, split), omega (arith, split, low))

  -- the words of whole frames are among those of the recording
  pub slot_within_frames : (i place : ℕ) → i < whole_frames t records → place < 4 * t.frame.words
      → 4 * t.frame.words * i + place < length (stream_words t records)
  slot_within_frames i place early low =
      let w = t.frame.words in
      let m = whole_frames t records in
      let rows : 4 * w * (i + 1) ≤ 4 * w * m = mul-le (4 * w) (i + 1) (4 * w) m (omega arith) (omega arith) in
      omega (arith, rows, whole_frames-bounds)

  -- each subframe of a whole frame begins with its sync word
  sync_stands : (j i : ℕ) → j < whole_frames t records → i < 4
      → word_at (stream_of t records) (frame_place t.frame.words j + i * (12 * t.frame.words)) ≡ sync_word (i + 1)
  sync_stands j i early few =
      let w = t.frame.words in
      let some = some_words in
      let place : 48 * w * j + i * (12 * w) ≡ 12 * (w * (4 * j + i)) = omega arith in
      let low : w * i ≤ w * 3 = mul-le w i w 3 (omega arith) (omega arith) in
      let slot : w * (4 * j + i) < length (stream_words t records) = omega (arith, slot_within_frames j (w * i) early (omega arith)) in
      let number : (4 * j + i) % 4 + 1 ≡ i + 1 = omega arith in
      ap (word_at (stream_of t records)) place ∙ word_at-stream t records (w * (4 * j + i)) slot ∙ slot_word-sync t records (4 * j + i) h ∙ ap sync_word number

  -- a whole frame stands where it is recorded
  frame_stands : (j : ℕ) → j < whole_frames t records → IsFramePosition (stream_of t records) t.frame.words (frame_place t.frame.words j)
  frame_stands j early =
      let w = t.frame.words in
      let b = stream_of t records in
      let p = frame_place w j in
      let some = some_words in
      let last = slot_within_frames j (4 * w - 1) early (omega arith) in
      let within : p + 48 * w ≤ bits_in b = omega (arith, last, stream-bits t records) in
      let at_first : p ≡ p + 0 * (12 * w) = omega arith in
      let at_second : p + 12 * w ≡ p + 1 * (12 * w) = omega arith in
      let first : word_at b p ≡ sync_word 1 = ap (word_at b) at_first ∙ sync_stands j 0 early (omega arith) in
      let second : word_at b (p + 12 * w) ≡ sync_word 2 = ap (word_at b) at_second ∙ sync_stands j 1 early (omega arith) in
      frame_by_syncs b w p within
      ∙ and_from _ _ (and_from _ _ (and_from _ _ (eq-eqb _ _ first) (eq-eqb _ _ second)) (eq-eqb _ _ (sync_stands j 2 early (omega arith))))
      (eq-eqb _ _ (sync_stands j 3 early (omega arith)))

  -- too few bits remain after the last whole frame for another one
  pub none_behind : HasNoFrameFrom (stream_of t records) t.frame.words (frame_place t.frame.words (whole_frames t records))
  none_behind q behind position = omega (arith, behind, frame_within (stream_of t records) t.frame.words q position, stream-bits t records, whole_frames-bounds)

  -- frame j is the next one where it begins
  pub next_frame : (j : ℕ) → j < whole_frames t records
      → IsFirstFrameFrom (stream_of t records) t.frame.words (frame_place t.frame.words j) (frame_place t.frame.words j)
  next_frame j early = record { behind = omega arith; position = frame_stands j early; first = λ q from before position. omega arith }

  -- a search that came to frame j has accepted the frames before it
  pub frames_so_far : (j : ℕ) → j ≤ whole_frames t records
      → SoFar (stream_of t records) t.frame.words (frame_place t.frame.words j) (frame_places t.frame.words j)
  frames_so_far zero early =
      let start : 0 ≡ 48 * t.frame.words * 0 = omega arith in
      subst (λ free. SoFar (stream_of t records) t.frame.words free []) start (SoFar-none (stream_of t records) t.frame.words)
  frames_so_far (suc j) early =
      let w = t.frame.words in
      let next : 48 * w * j + 48 * w ≡ 48 * w * suc j = omega arith in
      subst (λ free. SoFar (stream_of t records) w free (frame_places w (suc j))) next
      (subst (SoFar (stream_of t records) w (48 * w * j + 48 * w)) (sym (rw add-one at (map-range_with_len_more (frame_place w) 0 j j (omega arith))))
      (so_far_next (stream_of t records) w (frame_place w j) (frame_place w j) (frame_places w j) some_words (frames_so_far j (omega arith))
      (next_frame j (omega arith))))
