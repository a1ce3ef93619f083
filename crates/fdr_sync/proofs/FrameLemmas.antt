-- What a frame position is made of.
use Rattle.std.proofs.Common.{◌≡◌, ℕ, ◌+◌, ◌*◌, ◌<◌, ◌≤◌, ◌==◌, ◌&&◌, List, ap, ◌∙◌, sym, ⊎_elim, arith}
use Rattle.std.proofs.lemmas.Bool.{and_parts, cases_lt, eqb-true, leb-true, le-leb}
use Rattle.fdr_bits.specs.Bits.{bits_in, word_at}
use Rattle.fdr_frame.specs.Slots.{sync_word}
use Rattle.fdr_sync.specs.Frames.{is_frame_position, IsFramePosition, HasNoFrameFrom}

-- a frame lies within the bytes
pub frame_within : (b : List ℕ) (w p : ℕ) → IsFramePosition b w p → p + 48 * w ≤ bits_in b
unfolding is_frame_position
frame_within b w p h = leb-true (p + 48 * w) (bits_in b) (and_parts _ _ (and_parts _ _ (and_parts _ _ (and_parts _ _ h).0).0).0).0

-- where the frame lies within the bytes, its four sync words alone decide
pub frame_by_syncs : (b : List ℕ) (w p : ℕ) → p + 48 * w ≤ bits_in b →
    is_frame_position b w p ≡ ((word_at b p == sync_word 1) && (word_at b (p + 12 * w) == sync_word 2) && (word_at b (p + 2 * (12 * w)) == sync_word 3) &&
    (word_at b (p + 3 * (12 * w)) == sync_word 4))
unfolding is_frame_position
frame_by_syncs b w p h =
    let third : p + 2 * (12 * w) ≡ p + 24 * w = omega arith in
    let fourth : p + 3 * (12 * w) ≡ p + 36 * w = omega arith in
    rw (third, fourth, le-leb (p + 48 * w) (bits_in b) h)

-- with too few bytes for one frame there is none
pub none_in_few_bytes : (b : List ℕ) (w from : ℕ) → bits_in b < 48 * w → HasNoFrameFrom b w from
none_in_few_bytes b w from few q behind h = omega (arith, frame_within b w q h)

-- a subframe of no words has no frame: two sync words would be at one bit
pub some_words : (b : List ℕ) (w p : ℕ) → IsFramePosition b w p → 0 < w
unfolding is_frame_position
some_words b w p h =
    let two = and_parts _ _ (and_parts _ _ (and_parts _ _ h).0).0 in
    let first : word_at b p ≡ sync_word 1 = eqb-true _ _ (and_parts _ _ two.0).1 in
    let second : word_at b (p + 12 * w) ≡ sync_word 2 = eqb-true _ _ two.1 in
    ⊎_elim
    (λ some. some)
    (λ none. let here : p + 12 * w ≡ p = omega arith in
    let both : 0o1107 ≡ 0o2670 = sym first ∙ ap (word_at b) (sym here) ∙ second in
    omega (arith, both))
    (cases_lt 0 w)
