-- Frames that were read as a recording has them: how they are joined, and that their rows are the sampled rows.
use Rattle.std.proofs.Common.{◌≡◌, ℕ, ◌+◌, ◌-◌, ◌*◌, ◌/◌, ◌%◌, ◌^◌, ◌≤◌, Bool, List, [], ◌∷◌, map, Some, Option, refl, sym, ap, ◌∙◌, subst, arith, ◌<◌, true}
use Rattle.std.specs.Prelude.{All, Contains, filter, nat_le, slice_index, slice_get}
use Rattle.std.specs.List.{filter_map}
use Rattle.std.proofs.lemmas.Nat.{mod_below}
use Rattle.std.proofs.lemmas.Bool.{cond-true, leb-true, and_from, le-leb, eq-eqb}
use Rattle.std.proofs.lemmas.List.Elements.{All-contains_itself}
use Rattle.std.proofs.Math.Nat.{div-div-eq-div-mul, div-add-mod}
use Rattle.fdr_bus.specs.declared.BusRecord.{BusRecord}
use Rattle.fdr_sync.proofs.FrameSteps.{word_count_some}
use Rattle.fdr_table.specs.Rows.{TableRows}
use Rattle.fdr_check.specs.Occurrences.{cycle_of}
use Rattle.fdr_layout.specs.Samples.{Part, Sample, samples, ending_in}
use Rattle.fdr_layout.proofs.Ending.{EndsIn}
use Rattle.fdr_layout.proofs.Endings.{ending_in_ends}
use Rattle.fdr_sampler.specs.Held.{raw_value}
use Rattle.fdr_sampler.specs.SlotWord.{piece_of, data_word, slot_word}
use Rattle.fdr_recon.specs.declared.Row.{Row}
use Rattle.fdr_recon.specs.Rows.{ReadFrame, frame_at, cycle_of_frame, reach, bits_of, raw_of_parts, row_with, row_of, rows_looked_at, rows_of_frame}
use Rattle.fdr_recon.specs.Rows.{counter_place, counter_in, are_linked, are_joined}
use Rattle.fdr_readout.proofs.Recordable.{IsRecordable}
use Rattle.fdr_readout.specs.SampledRows.{superframe_start, sampled_row, sampled_rows}
use Rattle.fdr_readout.specs.Survival.{AreAmong, sampled_since}
use Rattle.fdr_readout.proofs.SlotKinds.{slot_word-plain, counter_place-within, slot_word-counter}
use Rattle.fdr_readout.proofs.Among.{among_filtered}
use Rattle.fdr_readout.proofs.PiecesBack.{data_word-piece, part_placed, pieces_make_up, ending_in-samples}
use Rattle.fdr_readout.proofs.PairLists.{contained_get}
use Rattle.fdr_lists.proofs.Filters.{map-agree}
use Rattle.fdr_lists.proofs.Ranges.{list_all-range}

-- Frame n of those that were read is frame j of the recording, and so are the d frames before it: they have the words of the
-- recording's slots, and each but the first of them begins where the one before it ends.
pub record AddsToRun (t : TableRows) (records : List BusRecord) (frames : List ReadFrame) (n j d : ℕ) : Type 0 where
  pub read : d ≤ n
  pub recorded : d ≤ j
  pub words : (e place : ℕ) → e ≤ d → place < 4 * t.frame.words →
      slice_index (frame_at frames (n - e)).words place ≡ slot_word t records (4 * t.frame.words * (j - e) + place)
  pub adjacent : (e : ℕ) → e < d → (frame_at frames (n - e)).adjacent ≡ true

-- a slot of the superframe by its cycle and its place in the frame
slot_by_cycle : (w at : ℕ) → 4 * w * cycle_of w at + at / 12 % (4 * w) ≡ at / 12
slot_by_cycle w at =
    let by : 12 * (4 * w) ≡ 48 * w = omega arith in
    rw (← (div-div-eq-div-mul at 12 (4 * w) ∙ ap (λ n. at / n) by)) (div-add-mod (at / 12) (4 * w))

-- a filter that drops nothing
filter_map-some : {X Y : Type 0} (g : X → Y) (xs : List X) → filter_map (λ (r : Option Y). r) (map (λ x. Some (g x)) xs) ≡ map g xs
filter_map-some g [] = refl
filter_map-some g (x ∷ xs) = ap (λ ys. g x ∷ ys) (filter_map-some g xs)

module _ (t : TableRows) (records : List BusRecord) (frames : List ReadFrame) (n j d : ℕ) (h : IsRecordable t) (are : AddsToRun t records frames n j d) where
  -- the counter of the frame that stands e before frame n
  pub recorded_counter : (e : ℕ) → e ≤ d → counter_in t.frame (frame_at frames (n - e)).words ≡ (j - e) % 4096
  recorded_counter e near = are.words e (counter_place t.frame) near (counter_place-within t h) ∙ slot_word-counter t records (j - e) h

  -- frame n is frame j of the recording, so this is its place in the superframe
  pub recorded_cycle : cycle_of_frame t.frame (frame_at frames n).words ≡ j % 16
  recorded_cycle =
      let here : n ≡ n - 0 = omega arith in
      ap (λ i. cycle_of_frame t.frame (frame_at frames i).words) here ∙ ap (λ k. k % 16) (recorded_counter 0 (omega arith)) ∙ omega arith

  -- each frame is linked to the one before it
  linked_back : (e : ℕ) → e < d → are_linked t.frame (frame_at frames (n - (e + 1))) (frame_at frames (n - e)) ≡ true
  unfolding are_linked
  linked_back e near =
      let within = are.recorded in
      let next : (j - e) % 4096 ≡ ((j - (e + 1)) % 4096 + 1) % 4096 = omega arith in
      let counters = recorded_counter e (omega arith) ∙ next ∙ ap (λ k. (k + 1) % 4096) (sym (recorded_counter (e + 1) (omega arith))) in
      and_from _ _ (are.adjacent e near) (eq-eqb _ _ counters)

  -- the frames back to any of these are joined
  pub recorded_joined : (k : ℕ) → k ≤ d → are_joined t.frame frames n k ≡ true
  unfolding are_joined
  recorded_joined k few = and_from (nat_le k n) _ (le-leb k n (omega (arith, are.read))) (list_all-range _ 0 k (λ e low high. linked_back e (omega arith)))

  -- the word of a part is that of its slot in the superframe of frame j
  part_word : (k : ℕ) (s : Sample) (p : Part) → slice_get (samples t) k ≡ Some s → Contains s.parts p →
      cycle_of t.frame.words p.at ≤ j % 16 → j % 16 - cycle_of t.frame.words p.at ≤ d →
      slice_index (frame_at frames (n - (j % 16 - cycle_of t.frame.words p.at))).words (p.at / 12 % (4 * t.frame.words))
      ≡ data_word t records (superframe_start t.frame.words j) (p.at / 12)
  part_word k s p got here low near =
      let w = t.frame.words in
      let c = cycle_of w p.at in
      let q = p.at / 12 % (4 * w) in
      let placed = part_placed t k s p h got here in
      let back : j - (j % 16 - c) ≡ 16 * (j / 16) + c = omega arith in
      let slot : 4 * w * (16 * (j / 16) + c) + q ≡ 64 * w * (j / 16) + (4 * w * c + q) = omega arith in
      are.words (j % 16 - c) q near (mod_below (p.at / 12) (4 * w) (omega (arith, word_count_some w h.words)))
      ∙ ap (slot_word t records) (ap (λ i. 4 * w * i + q) back ∙ slot ∙ ap (λ x. 64 * w * (j / 16) + x) (slot_by_cycle w p.at))
      ∙ slot_word-plain t records (j / 16) (p.at / 12) h placed.slot placed.plain

  -- so its bits are the piece that the sample put there
  part_bits : (k : ℕ) (s : Sample) (p : Part) → slice_get (samples t) k ≡ Some s → Contains s.parts p →
      cycle_of t.frame.words p.at ≤ j % 16 → j % 16 - cycle_of t.frame.words p.at ≤ d →
      bits_of t.frame.words frames n (j % 16) p ≡ piece_of (raw_value t records (superframe_start t.frame.words j) s) p
  part_bits k s p got here low near =
      ap (λ word. word / 2 ^ (p.at % 12) % 2 ^ p.width) (part_word k s p got here low near)
      ∙ data_word-piece t records (superframe_start t.frame.words j) k s p h got here

  -- and together they are the value that was held, where none of them lies before the frames that were recorded
  recorded_raw : (k : ℕ) (s : Sample) → slice_get (samples t) k ≡ Some s → EndsIn t.frame.words (j % 16) s → reach t.frame.words s.parts ≤ d →
      raw_of_parts t.frame.words frames n (j % 16) s.parts ≡ raw_value t records (superframe_start t.frame.words j) s
  unfolding raw_of_parts
  recorded_raw k s got ends near =
      let last = ends.last in
      pieces_make_up t records (superframe_start t.frame.words j) k s (bits_of t.frame.words frames n (j % 16)) h got
      (λ i d' l. part_bits k s _ got (All-contains_itself s.parts i d' l) (ends.high i d' l) (omega (arith, ends.low i d' l)))

  -- such a sample is listed, with the row that was sampled
  recorded_row : (k : ℕ) (s : Sample) → slice_get (samples t) k ≡ Some s → EndsIn t.frame.words (j % 16) s → reach t.frame.words s.parts ≤ d →
      row_of t frames n s ≡ Some (sampled_row t records j s)
  unfolding row_of sampled_row
  recorded_row k s got ends near =
      let e = reach t.frame.words s.parts in
      cond-true _ _ _ (recorded_joined e near)
      ∙ ap (λ counter. Some (row_with t s counter (raw_of_parts t.frame.words frames n (cycle_of_frame t.frame (frame_at frames n).words) s.parts)))
      (recorded_counter e near)
      ∙ rw (recorded_cycle, recorded_raw k s got ends near) refl

  -- the row of each sample that ends in this frame's cycle and lies within the recorded frames
  row_of_each :
      All (λ (s : Sample). reach t.frame.words s.parts ≤ d → row_of t frames n s ≡ Some (sampled_row t records j s)) (ending_in t (j % 16))
  row_of_each k d' l =
      let at = ending_in-samples t (j % 16) k d' l in
      λ near. recorded_row at.0 _ (contained_get (samples t) _ at) (ending_in_ends t (j % 16) (word_count_some t.frame.words h.words) k d' l) near

  -- no sample reaches further back than its superframe
  reach_within : All (λ (s : Sample). reach t.frame.words s.parts ≤ j % 16) (ending_in t (j % 16))
  reach_within k d' l = let ends = ending_in_ends t (j % 16) (word_count_some t.frame.words h.words) k d' l in omega (arith, ends.last)

  rows_by_cycle : rows_of_frame t frames n ≡ filter_map (λ (r : Option Row). r) (map (row_of t frames n) (ending_in t (j % 16)))
  unfolding rows_of_frame rows_looked_at
  rows_by_cycle = ap (λ cycle. filter_map (λ (r : Option Row). r) (map (row_of t frames n) (ending_in t cycle))) (recorded_cycle)

  -- where the whole superframe up to frame j is recorded, the rows of frame n are the sampled ones
  pub recorded_rows : j % 16 ≤ d → rows_of_frame t frames n ≡ sampled_rows t records j
  unfolding sampled_rows
  recorded_rows whole =
      let ending = ending_in t (j % 16) in
      rows_by_cycle
      ∙ ap (filter_map (λ (r : Option Row). r)) (map-agree (row_of t frames n) (λ s. Some (sampled_row t records j s)) ending
      (λ k d' l. row_of_each k d' l (omega (arith, reach_within k d' l))))
      ∙ filter_map-some (sampled_row t records j) ending

  -- and wherever the recorded frames begin, those that were sampled from there on are among them
  pub recorded_since : (first : ℕ) → first + d ≡ j → AreAmong (sampled_since t records first j) (rows_of_frame t frames n)
  unfolding sampled_since
  recorded_since first begins =
      let ending = ending_in t (j % 16) in
      let inside : Sample → Bool = λ s. nat_le (first + reach t.frame.words s.parts) j in
      subst (AreAmong (map (sampled_row t records j) (filter inside ending))) (sym rows_by_cycle)
      (among_filtered inside (row_of t frames n) (sampled_row t records j) ending
      (λ k d' l. λ test. row_of_each k d' l (omega (arith, leb-true _ _ test))))
