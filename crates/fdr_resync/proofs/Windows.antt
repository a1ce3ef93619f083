-- What a scanner finds in its window is in all the bytes that came.
use Rattle.std.proofs.Common.{◌≡◌, ℕ, ◌+◌, ◌-◌, ◌*◌, ◌<◌, ◌≤◌, List, ◌++◌, take, map, sym, ap, ◌∙◌, subst, arith}
use Rattle.std.proofs.Common.{append_assoc, length-append}
use Rattle.std.specs.List.{range_with_len}
use Rattle.std.proofs.lemmas.List.{length-take, take-append-drop}
use Rattle.fdr_bits.specs.Bits.{bits_in, word_at}
use Rattle.fdr_bits.proofs.AppendLemmas.{word_at_append_right}
use Rattle.fdr_frame.specs.WordCount.{IsWordCount}
use Rattle.fdr_lists.proofs.Ranges.{map-range-agree}
use Rattle.fdr_sync.specs.Frames.{IsFramePosition, IsFirstFrameFrom}
use Rattle.fdr_sync.proofs.FrameLemmas.{frame_within}
use Rattle.fdr_sync.proofs.FrameSteps.{word_count_some}
use Rattle.fdr_sync.proofs.SameLemmas.{frame_append_left, frame_append_right}
use Rattle.fdr_resync.specs.Past.{ScannerPast, ScannerKept, RepresentsScanner}

-- the bytes that were dropped
gone_of : ScannerKept → ScannerPast → List ℕ
gone_of k past = take k.before past.bytes

gone_bits : (k : ScannerKept) (past : ScannerPast) → RepresentsScanner k past → bits_in (gone_of k past) ≡ 8 * k.before
unfolding gone_of
gone_bits k past st = omega (arith, st.pushed, length-take k.before past.bytes)

gone_and_window : (k : ScannerKept) (past : ScannerPast) → RepresentsScanner k past → past.bytes ≡ gone_of k past ++ k.window
unfolding gone_of
gone_and_window k past st = sym (take-append-drop k.before past.bytes) ∙ ap (λ xs. take k.before past.bytes ++ xs) (sym st.window)

-- the bytes that came and more of them
bytes_go_on : (k : ScannerKept) (past : ScannerPast) (more : List ℕ) → RepresentsScanner k past → past.bytes ++ more ≡ gone_of k past ++ (k.window ++ more)
bytes_go_on k past more st = ap (λ xs. xs ++ more) (gone_and_window k past st) ∙ append_assoc (gone_of k past) k.window more

-- a frame of all the bytes that begins in the window
frame_down : (gone b : List ℕ) (w q p : ℕ) → 0 < w → q ≡ bits_in gone + p → IsFramePosition (gone ++ b) w q → IsFramePosition b w p
frame_down gone b w q p some at h =
    let there : IsFramePosition (gone ++ b) w (bits_in gone + p) = subst (IsFramePosition (gone ++ b) w) at h in
    let within = frame_within (gone ++ b) w (bits_in gone + p) there in
    sym (frame_append_right gone b w p some (omega (arith, within, length-append gone b))) ∙ there

-- a frame of the window is one of all the bytes
frame_up : (gone b : List ℕ) (w q p : ℕ) → 0 < w → q ≡ bits_in gone + p → IsFramePosition b w p → IsFramePosition (gone ++ b) w q
frame_up gone b w q p some at h =
    subst (IsFramePosition (gone ++ b) w) (sym at) (frame_append_right gone b w p some (frame_within b w p h) ∙ h)

-- where no frame begins in the window, none begins there in all the bytes
pub clear_in_all : (k : ScannerKept) (past : ScannerPast) (at : ℕ) → RepresentsScanner k past → IsWordCount k.words → 8 * k.before ≤ k.from
    → ((more : List ℕ) (q : ℕ) → k.from - 8 * k.before ≤ q → q < at → IsFramePosition (k.window ++ more) k.words q → ⊥)
    → (more : List ℕ) (q : ℕ) → k.from ≤ q → q < 8 * k.before + at → IsFramePosition (past.bytes ++ more) past.words q → ⊥
clear_in_all k past at st count behind clear more q low high h =
    let same : k.words ≡ past.words = st.words in
    let moved : IsFramePosition (gone_of k past ++ (k.window ++ more)) k.words q =
    subst (λ w. IsFramePosition (gone_of k past ++ (k.window ++ more)) w q) (sym same)
    (subst (λ b. IsFramePosition b past.words q) (bytes_go_on k past more st) h) in
    clear more (q - 8 * k.before) (omega arith) (omega arith)
    (frame_down (gone_of k past) (k.window ++ more) k.words q (q - 8 * k.before) (word_count_some k.words count) (omega (arith, gone_bits k past st)) moved)

-- a frame that the search has come to is the next one, however the bytes go on
pub first_ahead : (k : ScannerKept) (past : ScannerPast) (more : List ℕ) → RepresentsScanner k past → IsWordCount k.words → 8 * k.before ≤ k.from
    → k.free ≤ k.from → IsFramePosition k.window k.words (k.from - 8 * k.before) → IsFirstFrameFrom (past.bytes ++ more) past.words k.free k.from
first_ahead k past more st count behind order h =
    let some = word_count_some k.words count in
    let all = bytes_go_on k past more st in
    let longer : IsFramePosition (k.window ++ more) k.words (k.from - 8 * k.before) =
    frame_append_left k.window more k.words (k.from - 8 * k.before) some (frame_within k.window k.words (k.from - 8 * k.before) h) ∙ h in
    let up = frame_up (gone_of k past) (k.window ++ more) k.words k.from (k.from - 8 * k.before) some (omega (arith, gone_bits k past st)) longer in
    record {
      behind = order;
      position = subst (λ w. IsFramePosition (past.bytes ++ more) w k.from) st.words (subst (λ b. IsFramePosition b k.words k.from) (sym all) up);
      first = λ q low high. st.clear more q low high;
    }

-- words of the window are those of all the bytes
pub words_in_all : (k : ScannerKept) (past : ScannerPast) (at : ℕ) → RepresentsScanner k past → 8 * k.before ≤ at
    → map (λ i. word_at k.window (at - 8 * k.before + 12 * i)) (range_with_len 0 (4 * k.words))
    ≡ map (λ i. word_at past.bytes (at + 12 * i)) (range_with_len 0 (4 * past.words))
words_in_all k past at st behind =
    map-range-agree (λ i. word_at k.window (at - 8 * k.before + 12 * i)) (λ i. word_at past.bytes (at + 12 * i)) 0 (4 * k.words) (λ i low high.
    let place : bits_in (gone_of k past) + (at - 8 * k.before + 12 * i) ≡ at + 12 * i = omega (arith, gone_bits k past st) in
    sym (word_at_append_right (gone_of k past) k.window (at - 8 * k.before + 12 * i))
    ∙ ap (word_at (gone_of k past ++ k.window)) place
    ∙ ap (λ b. word_at b (at + 12 * i)) (sym (gone_and_window k past st)))
    ∙ ap (λ w. map (λ i. word_at past.bytes (at + 12 * i)) (range_with_len 0 (4 * w))) st.words
