-- For which past a value stands.
use Rattle.std.proofs.Common.{◌≡◌, ℕ, zero, suc, ◌+◌, ◌-◌, ◌*◌, ◌%◌, ◌<◌, Bool, true, false, List, [], ◌∷◌, ◌++◌, length, drop, map, min, refl, ap, sym, ◌∙◌}
use Rattle.std.proofs.Common.{subst, ⊎_elim, ◌≤◌, zero-add, arith, length-append, length-drop}
use Rattle.std.specs.Prelude.{◌&&◌, ◌==◌, not, if◌then◌else◌, slice_index}
use Rattle.std.specs.List.{All, range_with_len, slice_index_or}
use Rattle.std.proofs.lemmas.Bool.{ne_eqb, eq-eqb, and_left, and_right, cases_lt, cond-false}
use Rattle.std.proofs.lemmas.List.{append-nil, get_or_past}
use Rattle.std.proofs.lemmas.List.Concat.{flat_map-append}
use Rattle.std.proofs.lemmas.List.Elements.{All-nil, All-push, All-map, All-weaker}
use Rattle.std.proofs.lemmas.List.FromFn.{get_or-map-range_with_len, length-map-range_with_len}
use Rattle.fdr_layout.proofs.Ending.{EndsIn}
use Rattle.fdr_layout.proofs.Endings.{ending_in_ends}
use Rattle.circular_buffer.specs.Buffer.{keep_last}
use Rattle.fdr_table.specs.Ranges.{IsInRange}
use Rattle.fdr_table.specs.Rows.{FrameRow, ParamRow, TableRows}
use Rattle.fdr_check.specs.Soundness.{IsSound}
use Rattle.fdr_layout.specs.Samples.{Sample, ending_in}
use Rattle.fdr_layout.specs.SlotParts.{Laid, laid_of}
use Rattle.fdr_recon.specs.Rows.{ReadFrame, frame_at, are_linked, counter_place, counter_in}
use Rattle.fdr_recon.specs.Kept.{RebuildKept, kept_counter, is_next, EndsInCycle, IsSampleOf}
use Rattle.fdr_recon.specs.Past.{IsWholeFrame, RepresentsRebuild, joined_count, read_frame}
use Rattle.fdr_recon.proofs.JoinedFrames.{joined_count-push}
use Rattle.fdr_recon.proofs.FrameWords.{words_of, length-words_of, keep_last-append}
use Rattle.fdr_recon.proofs.Standing.{kept_counter-stands}
use Rattle.fdr_recon.proofs.SoundSamples.{ending_in_sound}
use Rattle.std.proofs.Math.Bool.{and-true}

drop-nil : {X : Type 0} (n : ℕ) → drop {A = X} n [] ≡ []
drop-nil zero = refl
drop-nil (suc n) = refl

-- the samples of all cycles of a sound table have all bits of their values
pub layout-samples : (t : TableRows) → IsInRange t → IsSound t
    → All (λ (samples : List Sample). All (IsSampleOf t.params) samples) (map (ending_in t) (range_with_len 0 16))
layout-samples t range sound =
    All-map (λ (samples : List Sample). All (IsSampleOf t.params) samples) (ending_in t) (range_with_len 0 16)
    (λ j d within. ending_in_sound t (slice_index_or (range_with_len 0 16) j d) range sound)

-- and they end in their cycles
pub layout-ends : (t : TableRows) (cycle : ℕ) → 0 < t.frame.words
    → All (EndsInCycle t.frame.words cycle) (slice_index_or (map (ending_in t) (range_with_len 0 16)) cycle [])
layout-ends t cycle some =
    let w = t.frame.words in
    let samples = map (ending_in t) (range_with_len 0 16) in
    ⊎_elim
    (λ (low : cycle < 16).
    subst (All (EndsInCycle w cycle)) (sym (get_or-map-range_with_len (ending_in t) 0 16 cycle cycle [] low (zero-add cycle)))
    (All-weaker (EndsIn w cycle) (EndsInCycle w cycle) (λ s ends. record { last = ends.last; parts = ends.high }) (ending_in t cycle)
    (ending_in_ends t cycle some)))
    (λ (high : 16 ≤ cycle).
    let long : length samples ≡ 16 = length-map-range_with_len (ending_in t) 0 16 in
    subst (All (EndsInCycle w cycle)) (sym (get_or_past samples cycle [] (omega (arith, long, high)))) (All-nil (EndsInCycle w cycle)))
    (cases_lt cycle 16)

-- before the first frame
pub Stands-none : (t : TableRows) (frame : FrameRow) (params : List ParamRow) (laid : Laid) → frame ≡ t.frame → params ≡ t.params → laid ≡ laid_of t →
    RepresentsRebuild (record { frame = frame; params = params; laid = laid; words = []; joined = 0 }) t []
unfolding joined_count
Stands-none t frame params laid frame_is params_is is = record {
  frame = frame_is;
  params = params_is;
  laid = is;
  frames = All-nil (IsWholeFrame t.frame.words);
  words = sym (drop-nil (length (words_of []) - 64 * t.frame.words));
  joined = refl;
}

capped_if : (b : Bool) (n : ℕ) → (if b then min 15 n else 0) ≡ min 15 (if b then n else 0)
capped_if true n = refl
capped_if false n = refl

-- how many frames are joined with the next frame
abbrev joined_after : RebuildKept → Bool → List ℕ → ℕ
joined_after k adjacent words = if is_next k adjacent words then min (k.joined + 1) 15 else 0

-- how many frames are joined with a further one
joined_after-stands : (k : RebuildKept) (t : TableRows) (past : List ReadFrame) (adjacent : Bool) (words : List ℕ) → RepresentsRebuild k t past
    → 0 < t.frame.words →
    joined_after k adjacent words ≡ min 15 (joined_count t.frame (past ++ read_frame adjacent words ∷ []) (length past))
unfolding is_next joined_count are_linked
joined_after-stands k t [] adjacent words s some =
    let none : length k.words ≡ 0 = ap length s.words ∙ omega (arith, length-drop (length (words_of []) - 64 * t.frame.words) (words_of [])) in
    let empty : not (length k.words == 0) ≡ false = ap not (eq-eqb (length k.words) 0 none) in
    cond-false _ _ _ (and_left _ _ (and_right adjacent _ empty))
joined_after-stands k t (first ∷ past) adjacent words s some =
    let w = t.frame.words in
    let frames = first ∷ past in
    let m = length past in
    let last = frame_at frames m in
    let xs = words_of frames in
    let all_words : length xs ≡ 4 * w * suc m = length-words_of w frames s.frames in
    let count : length k.words ≡ length xs - (length xs - 64 * w) = ap length s.words ∙ length-drop (length xs - 64 * w) xs in
    let more : 0 < length k.words = omega arith in
    let some_words : not (length k.words == 0) ≡ true = ap not (ne_eqb (length k.words) 0 (λ e. omega arith)) in
    let next : slice_index words (counter_place k.frame) ≡ counter_in t.frame words = ap (λ f. slice_index words (counter_place f)) s.frame in
    let before : kept_counter k 0 ≡ counter_in t.frame last.words = kept_counter-stands k t frames m 0 s (omega arith) (omega arith) in
    let test : (adjacent && not (length k.words == 0) && (slice_index words (counter_place k.frame) == (kept_counter k 0 + 1) % 4096)) ≡ are_linked t.frame last
    (read_frame adjacent words) =
    ap (λ b. (adjacent && b) && (slice_index words (counter_place k.frame) == (kept_counter k 0 + 1) % 4096)) some_words
    ∙ ap (λ b. b && (slice_index words (counter_place k.frame) == (kept_counter k 0 + 1) % 4096)) (and-true adjacent)
    ∙ ap (λ n. adjacent && (n == (kept_counter k 0 + 1) % 4096)) next
    ∙ ap (λ n. adjacent && (counter_in t.frame words == (n + 1) % 4096)) before in
    let before_last : length frames - 1 ≡ m = omega arith in
    let joined : k.joined ≡ min 15 (joined_count t.frame frames m) = s.joined ∙ ap (λ n. min 15 (joined_count t.frame frames n)) before_last in
    let capped : min (k.joined + 1) 15 ≡ min 15 (suc (joined_count t.frame frames m)) = omega arith in
    ap (λ b. if b then min (k.joined + 1) 15 else 0) test
    ∙ ap (λ n. if are_linked t.frame last (read_frame adjacent words) then n else 0) capped
    ∙ capped_if (are_linked t.frame last (read_frame adjacent words)) (suc (joined_count t.frame frames m))
    ∙ sym (ap (λ n. min 15 n) (joined_count-push t.frame frames (read_frame adjacent words) m refl))

-- after a further frame
pub Stands-push : (k k' : RebuildKept) (t : TableRows) (past : List ReadFrame) (adjacent : Bool) (words : List ℕ) → RepresentsRebuild k t past
    → 0 < k.frame.words →
    length words ≡ 4 * k.frame.words → All (λ word. word < 4096) words →
    k'.frame ≡ k.frame → k'.params ≡ k.params → k'.laid ≡ k.laid →
    k'.words ≡ keep_last (64 * k.frame.words) (k.words ++ words) → k'.joined ≡ joined_after k adjacent words →
    RepresentsRebuild k' t (past ++ read_frame adjacent words ∷ [])
Stands-push k k' t past adjacent words s some whole small frame params laid kept joined =
    let w = t.frame.words in
    let r = read_frame adjacent words in
    let w_is : k.frame.words ≡ w = ap (λ (f : FrameRow). f.words) s.frame in
    let xs = words_of past in
    let all_words : words_of (past ++ r ∷ []) ≡ xs ++ words =
    flat_map-append (λ (r : ReadFrame). r.words) past (r ∷ []) ∙ ap (λ ys. xs ++ ys) (append-nil words) in
    let n : length (past ++ r ∷ []) - 1 ≡ length past = omega (arith, length-append past (r ∷ [])) in
    record {
      frame = frame ∙ s.frame;
      params = params ∙ s.params;
      laid = laid ∙ s.laid;
      frames = All-push (IsWholeFrame w) past r s.frames (record { whole = whole ∙ ap (λ n. 4 * n) w_is; small = small });
      words = kept ∙ ap (λ n. keep_last (64 * n) (k.words ++ words)) w_is ∙ ap (λ ys. keep_last (64 * w) (ys ++ words)) s.words
          ∙ keep_last-append (64 * w) xs words ∙ sym (ap (keep_last (64 * w)) all_words);
      joined = joined ∙ joined_after-stands k t past adjacent words s (subst (λ n. 0 < n) w_is some)
          ∙ sym (ap (λ n. min 15 (joined_count t.frame (past ++ r ∷ []) n)) n);
    }
