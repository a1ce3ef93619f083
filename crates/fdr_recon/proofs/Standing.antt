-- What a value gives that stands for a past.
use Rattle.std.proofs.Common.{◌≡◌, ℕ, suc, ◌+◌, ◌-◌, ◌*◌, ◌%◌, ◌<◌, ◌≤◌, false, List, [], ◌++◌, length, ap, sym, ◌∙◌, subst, arith, ⊎_elim}
use Rattle.std.specs.Prelude.{◌&&◌, nat_lt, if◌then◌else◌, slice_index}
use Rattle.std.proofs.lemmas.Bool.{cases_lt, lt-ltb, and_from, cond-true}
use Rattle.std.proofs.lemmas.List.{get_or_past}
use Rattle.circular_buffer.specs.Buffer.{keep_last}
use Rattle.fdr_table.specs.Rows.{FrameRow, TableRows}
use Rattle.fdr_recon.specs.Rows.{ReadFrame, frame_at, counter_place, counter_in, cycle_of_frame}
use Rattle.fdr_recon.specs.Kept.{RebuildKept, kept_word, kept_counter, kept_cycle, from_end}
use Rattle.fdr_recon.specs.Past.{RepresentsRebuild, read_frame}
use Rattle.fdr_recon.proofs.FrameWords.{words_of, length-words_of, get_or-words_of, from_end-within, keep_last-from_end, kept_last}
use Rattle.fdr_recon.proofs.KeptWords.{kept_word-past}

-- a kept word is that of the frame, where fewer than 16 frames are after it
pub kept_word-stands : (k : RebuildKept) (t : TableRows) (past : List ReadFrame) (m back place : ℕ) → RepresentsRebuild k t past → length past ≡ m + back + 1
    → back < 16 →
    kept_word k back place ≡ slice_index (frame_at past m).words place
unfolding kept_word
kept_word-stands k t past m back place s len few =
    let w = t.frame.words in
    let xs = words_of past in
    let w_is : k.frame.words ≡ w = ap (λ (f : FrameRow). f.words) s.frame in
    let all_words : length xs ≡ 4 * w * (m + back + 1) = length-words_of w past s.frames ∙ ap (λ n. 4 * w * n) len in
    let within : m < length past = omega arith in
    ⊎_elim
    (λ (low : place < 4 * w).
    let P : ℕ → List ℕ → Type 0 = λ v ks. (if nat_lt place (4 * v) && nat_lt (from_end v back place) (length ks) then slice_index ks
    (length ks - from_end v back place - 1) else 0) ≡ slice_index (frame_at past m).words place in
    let read : P w (keep_last (64 * w) xs) =
    cond-true _ _ _ (and_from _ _ (lt-ltb place (4 * w) low) (lt-ltb _ _ (from_end-within w m back place xs all_words few low)))
    ∙ keep_last-from_end w m back place xs all_words few low ∙ get_or-words_of w past m place s.frames within low in
    subst (λ v. P v k.words) (sym w_is) (subst (P w) (sym s.words) read))
    (λ (high : 4 * w ≤ place).
    let frame_len : length (frame_at past m).words ≡ 4 * w = (s.frames m (read_frame false []) within).whole in
    let past_end : 4 * k.frame.words ≤ place = omega arith in
    let over : length (frame_at past m).words ≤ place = omega arith in
    kept_word-past k back place past_end ∙ sym (get_or_past (frame_at past m).words place 0 over))
    (cases_lt place (4 * w))

pub kept_counter-stands : (k : RebuildKept) (t : TableRows) (past : List ReadFrame) (m back : ℕ) → RepresentsRebuild k t past → length past ≡ m + back + 1
    → back < 16 →
    kept_counter k back ≡ counter_in t.frame (frame_at past m).words
kept_counter-stands k t past m back s len few =
    ap (λ f. kept_word k back (counter_place f)) s.frame ∙ kept_word-stands k t past m back (counter_place t.frame) s len few

pub kept_cycle-stands : (k : RebuildKept) (t : TableRows) (past : List ReadFrame) (m : ℕ) → RepresentsRebuild k t past → length past ≡ suc m →
    kept_cycle k ≡ cycle_of_frame t.frame (frame_at past m).words
kept_cycle-stands k t past m s len = ap (λ n. n % 16) (kept_counter-stands k t past m 0 s (omega arith) (omega arith))

-- the counter of the frame that was kept last
pub kept_counter-last : (k : RebuildKept) (before words : List ℕ) → length words ≡ 4 * k.frame.words
    → k.words ≡ keep_last (64 * k.frame.words) (before ++ words) → kept_counter k 0 ≡ counter_in k.frame words
unfolding kept_word
kept_counter-last k before words whole kept =
    let w = k.frame.words in
    let place = counter_place k.frame in
    ⊎_elim
    (λ (low : place < 4 * w).
    let P : List ℕ → Type 0 = λ ks. (if nat_lt place (4 * w) && nat_lt (from_end w 0 place) (length ks) then slice_index ks
    (length ks - from_end w 0 place - 1) else 0) ≡ slice_index words place in
    let last = kept_last w place before words whole low in
    let none : from_end w 0 place ≡ 4 * w - 1 - place = omega arith in
    let read : P (keep_last (64 * w) (before ++ words)) =
    cond-true _ _ _ (and_from _ _ (lt-ltb place (4 * w) low) (lt-ltb _ _ (subst (λ n. n < length (keep_last (64 * w) (before ++ words))) (sym none) last.0)))
    ∙ ap (λ n. slice_index (keep_last (64 * w) (before ++ words)) (length (keep_last (64 * w) (before ++ words)) - n - 1)) none ∙ last.1 in
    subst P (sym kept) read)
    (λ (high : 4 * w ≤ place). kept_word-past k 0 place high ∙ sym (get_or_past words place 0 (omega (arith, whole, high))))
    (cases_lt place (4 * w))
