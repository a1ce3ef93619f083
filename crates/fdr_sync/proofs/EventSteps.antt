-- The events one after another, as a search for the next frame finds them.
use Rattle.std.proofs.Common.{◌≡◌, ℕ, ◌+◌, ◌*◌, ◌<◌, List, [], ◌∷◌, ◌++◌, ap, ◌∙◌, append_assoc}
use Rattle.fdr_bits.specs.Bits.{bits_in}
use Rattle.fdr_sync.specs.Frames.{IsFirstFrameFrom, HasNoFrameFrom}
use Rattle.fdr_sync.specs.Accepted.{accepted_from}
use Rattle.fdr_sync.specs.Events.{Frame, gap_between, frames_and_gaps, end_of_frames, decided_from, events_from}
use Rattle.fdr_sync.proofs.ChoiceLemmas.{accepted_none, accepted_first}

-- where the next frame begins at p, no more bytes change what is decided up to its end
pub decided_from_first : (b : List ℕ) (w free p : ℕ) → 0 < w → IsFirstFrameFrom b w free p
    → decided_from b w free ≡ gap_between free p ++ Frame p ∷ decided_from b w (p + 48 * w)
unfolding decided_from frames_and_gaps
decided_from_first b w free p some h = ap (frames_and_gaps w free) (accepted_first b w free p some h)

-- where no frame is left, nothing more is decided
pub decided_from_none : (b : List ℕ) (w free : ℕ) → HasNoFrameFrom b w free → decided_from b w free ≡ []
unfolding decided_from frames_and_gaps
decided_from_none b w free none = ap (frames_and_gaps w free) (accepted_none b w free none)

-- the next event is the next frame, with the gap before it
pub events_from_first : (b : List ℕ) (w free p : ℕ) → 0 < w → IsFirstFrameFrom b w free p
    → events_from b w free ≡ gap_between free p ++ Frame p ∷ events_from b w (p + 48 * w)
unfolding events_from end_of_frames
events_from_first b w free p some h =
    let last = λ (xs : List ℕ). gap_between (end_of_frames w free xs) (bits_in b) in
    ap (λ es. es ++ last (accepted_from b w free)) (decided_from_first b w free p some h)
    ∙ ap (λ xs. (gap_between free p ++ Frame p ∷ decided_from b w (p + 48 * w)) ++ last xs) (accepted_first b w free p some h)
    ∙ append_assoc (gap_between free p) (Frame p ∷ decided_from b w (p + 48 * w)) _

-- where no frame is left, the rest of the bits is one gap
pub events_from_none : (b : List ℕ) (w free : ℕ) → HasNoFrameFrom b w free → events_from b w free ≡ gap_between free (bits_in b)
unfolding events_from end_of_frames
events_from_none b w free none =
    ap (λ es. es ++ gap_between (end_of_frames w free (accepted_from b w free)) (bits_in b)) (decided_from_none b w free none)
    ∙ ap (λ xs. gap_between (end_of_frames w free xs) (bits_in b)) (accepted_none b w free none)
