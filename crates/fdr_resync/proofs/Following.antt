-- The events from a bit on, one after another.
use Rattle.std.proofs.Common.{◌≡◌, ℕ, ◌+◌, ◌-◌, ◌*◌, ◌<◌, ◌≤◌, Bool, true, false, cond, List, [], ◌∷◌, ◌++◌, refl, sym, ap, ◌∙◌, arith}
use Rattle.fdr_bits.specs.Bits.{bits_in}
use Rattle.fdr_sync.specs.Frames.{IsFirstFrameFrom, HasNoFrameFrom}
use Rattle.fdr_sync.specs.Events.{Event, Frame, Gap, gap_between, decided_from, events_from}
use Rattle.fdr_sync.proofs.EventSteps.{decided_from_first, decided_from_none, events_from_first, events_from_none}
use Rattle.fdr_sync.proofs.EventLemmas.{gap_some, gap_empty}

-- the events from a bit on that are decided, or all of them
pub rest_from : Bool → List ℕ → ℕ → ℕ → List Event
rest_from all b w free = cond all (events_from b w free) (decided_from b w free)

pub rest_from-decided : (b : List ℕ) (w free : ℕ) → rest_from false b w free ≡ decided_from b w free
unfolding rest_from
rest_from-decided b w free = refl

pub rest_from-all : (b : List ℕ) (w free : ℕ) → rest_from true b w free ≡ events_from b w free
unfolding rest_from
rest_from-all b w free = refl

pub rest_first : (all : Bool) (b : List ℕ) (w free p : ℕ) → 0 < w → IsFirstFrameFrom b w free p
    → rest_from all b w free ≡ gap_between free p ++ Frame p ∷ rest_from all b w (p + 48 * w)
unfolding rest_from
rest_first true b w free p some h = events_from_first b w free p some h
rest_first false b w free p some h = decided_from_first b w free p some h

-- the frame where the search stands
pub rest_frame : (all : Bool) (b : List ℕ) (w p : ℕ) → 0 < w → IsFirstFrameFrom b w p p → rest_from all b w p ≡ Frame p ∷ rest_from all b w (p + 48 * w)
rest_frame all b w p some h =
    rest_first all b w p p some h ∙ ap (λ es. es ++ Frame p ∷ rest_from all b w (p + 48 * w)) (gap_empty p p (omega arith))

-- the gap before the next frame
pub rest_gap : (all : Bool) (b : List ℕ) (w free p : ℕ) → 0 < w → free < p → IsFirstFrameFrom b w free p
    → rest_from all b w free ≡ Gap free (p - free) ∷ rest_from all b w p
rest_gap all b w free p some later h =
    let here : IsFirstFrameFrom b w p p = record { behind = omega arith; position = h.position; first = λ q from before. absurd (omega arith) } in
    rest_first all b w free p some h
    ∙ ap (λ es. es ++ Frame p ∷ rest_from all b w (p + 48 * w)) (gap_some free p later)
    ∙ ap (λ es. Gap free (p - free) ∷ es) (sym (rest_frame all b w p some here))

-- no decided event is left where no frame is
pub rest_decided : (b : List ℕ) (w free : ℕ) → HasNoFrameFrom b w free → rest_from false b w free ≡ []
unfolding rest_from
rest_decided b w free none = decided_from_none b w free none

-- and of all events one gap, if any
pub rest_last : (b : List ℕ) (w free : ℕ) → HasNoFrameFrom b w free → free < bits_in b → rest_from true b w free ≡ Gap free (bits_in b - free) ∷ []
unfolding rest_from
rest_last b w free none some = events_from_none b w free none ∙ gap_some free (bits_in b) some

pub rest_end : (b : List ℕ) (w free : ℕ) → HasNoFrameFrom b w free → bits_in b ≤ free → rest_from true b w free ≡ []
unfolding rest_from
rest_end b w free none empty = events_from_none b w free none ∙ gap_empty free (bits_in b) empty
