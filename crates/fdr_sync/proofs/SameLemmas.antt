-- Frame positions of bits that are elsewhere too.
use Rattle.std.proofs.Common.{◌≡◌, ℕ, ◌+◌, ◌*◌, ◌<◌, ◌≤◌, ◌==◌, ◌&&◌, List, ◌++◌, sym, ap, ◌∙◌, arith, length-append}
use Rattle.fdr_bits.specs.Bits.{bits_in, bit_at, word_at}
use Rattle.fdr_bits.proofs.WordLemmas.{word_at_same}
use Rattle.fdr_bits.proofs.AppendLemmas.{bit_at_append_left, bit_at_append_right}
use Rattle.fdr_frame.specs.Slots.{sync_word}
use Rattle.fdr_sync.specs.Frames.{is_frame_position}
use Rattle.fdr_sync.proofs.FrameLemmas.{frame_by_syncs}

-- the same 48 w bits in two lists are a frame in both or in none
pub frame_same : (b c : List ℕ) (w p q : ℕ) → 0 < w → p + 48 * w ≤ bits_in b → q + 48 * w ≤ bits_in c
    → ((x : ℕ) → x < 48 * w → bit_at b (p + x) ≡ bit_at c (q + x)) → is_frame_position b w p ≡ is_frame_position c w q
frame_same b c w p q some b_within c_within same =
    let word : (k : ℕ) → k + 12 ≤ 48 * w → word_at b (p + k) ≡ word_at c (q + k) =
    λ k few. word_at_same b c (p + k) (q + k) (λ j low.
    let b_place : p + k + j ≡ p + (k + j) = omega arith in
    let c_place : q + k + j ≡ q + (k + j) = omega arith in
    ap (bit_at b) b_place ∙ same (k + j) (omega arith) ∙ ap (bit_at c) (sym c_place)) in
    let first : word_at b p ≡ word_at c q = word_at_same b c p q (λ j low. same j (omega arith)) in
    frame_by_syncs b w p b_within
    ∙ ap (λ x. (x == sync_word 1) && (word_at b (p + 12 * w) == sync_word 2) && (word_at b (p + 2 * (12 * w)) == sync_word 3) &&
    (word_at b (p + 3 * (12 * w)) == sync_word 4)) first
    ∙ ap (λ x. (word_at c q == sync_word 1) && (x == sync_word 2) && (word_at b (p + 2 * (12 * w)) == sync_word 3) &&
    (word_at b (p + 3 * (12 * w)) == sync_word 4)) (word (12 * w) (omega arith))
    ∙ ap (λ x. (word_at c q == sync_word 1) && (word_at c (q + 12 * w) == sync_word 2) && (x == sync_word 3) && (word_at b (p + 3 * (12 * w)) == sync_word 4))
    (word (2 * (12 * w)) (omega arith))
    ∙ ap (λ x. (word_at c q == sync_word 1) && (word_at c (q + 12 * w) == sync_word 2) && (word_at c (q + 2 * (12 * w)) == sync_word 3) && (x == sync_word 4))
    (word (3 * (12 * w)) (omega arith))
    ∙ sym (frame_by_syncs c w q c_within)

-- bytes that follow change no frame position whose frame ends before them
pub frame_append_left : (b more : List ℕ) (w p : ℕ) → 0 < w → p + 48 * w ≤ bits_in b → is_frame_position (b ++ more) w p ≡ is_frame_position b w p
frame_append_left b more w p some within =
    frame_same (b ++ more) b w p p some (omega (arith, length-append b more)) within (λ x low. bit_at_append_left b more (p + x) (omega arith))

-- bytes that go before move each frame position
pub frame_append_right : (gone b : List ℕ) (w p : ℕ) → 0 < w → p + 48 * w ≤ bits_in b
    → is_frame_position (gone ++ b) w (bits_in gone + p) ≡ is_frame_position b w p
frame_append_right gone b w p some within =
    frame_same (gone ++ b) b w (bits_in gone + p) p some (omega (arith, length-append gone b)) within
    (λ x low. let place : bits_in gone + p + x ≡ bits_in gone + (p + x) = omega arith in
    ap (bit_at (gone ++ b)) place ∙ bit_at_append_right gone b (p + x))
