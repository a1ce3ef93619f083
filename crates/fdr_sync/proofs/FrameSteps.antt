-- The steps of a loop that takes one accepted frame after another.
use Rattle.std.proofs.Common.{◌≡◌, ℕ, ◌+◌, ◌-◌, ◌*◌, ◌<◌, ◌≤◌, List, [], ◌∷◌, ◌++◌, sym, ap, ◌∙◌, arith, append_assoc, append-nil}
use Rattle.std.specs.List.{filter_map}
use Rattle.std.proofs.lemmas.List.Elements.{filter_map-append}
use Rattle.fdr_bits.specs.Bits.{bits_in}
use Rattle.fdr_frame.specs.WordCount.{IsWordCount}
use Rattle.fdr_frame.proofs.WordCounts.{word_count_bounds}
use Rattle.fdr_sync.specs.Frames.{IsFirstFrameFrom, HasNoFrameFrom}
use Rattle.fdr_sync.specs.Accepted.{accepted_from}
use Rattle.fdr_sync.specs.Events.{Event, Frame, gap_between, gap_of_event, events_from, gaps_from}
use Rattle.fdr_sync.proofs.FrameLemmas.{frame_within}
use Rattle.fdr_sync.proofs.ChoiceLemmas.{accepted_none, accepted_first}
use Rattle.fdr_sync.proofs.EventSteps.{events_from_first, events_from_none}
use Rattle.fdr_sync.proofs.EventLemmas.{gap_some, gap_empty}

pub word_count_some : (w : ℕ) → IsWordCount w → 0 < w
word_count_some w h = omega (arith, word_count_bounds w h)

-- a frame that was found ends within the bytes, and after `free`
pub found_within : (b : List ℕ) (w free p : ℕ) → IsWordCount w → IsFirstFrameFrom b w free p → (p + 48 * w ≤ bits_in b) × (free < p + 48 * w)
found_within b w free p count h = (frame_within b w p h.position, omega (arith, word_count_bounds w count, h.behind))

-- what is read up to a bit, and the rest from there on, are all that is there: one step further, and at the end
goes_on : {X : Type 0} (rest : ℕ → List X) (free after next : ℕ) (xs more ys all : List X) → next ≡ after → rest free ≡ more ++ rest after → ys ≡ xs ++ more
    → xs ++ rest free ≡ all → ys ++ rest next ≡ all
goes_on rest free after next xs more ys all behind first pushed before =
    ap (λ n. ys ++ rest n) behind
    ∙ ap (λ zs. zs ++ rest after) pushed
    ∙ append_assoc xs more (rest after)
    ∙ ap (λ zs. xs ++ zs) (sym first)
    ∙ before

ends : {X : Type 0} (rest xs more ys all : List X) → rest ≡ more → ys ≡ xs ++ more → xs ++ rest ≡ all → ys ≡ all
ends rest xs more ys all last pushed before = pushed ∙ ap (λ zs. xs ++ zs) (sym last) ∙ before

pub accepted_more : (b : List ℕ) (w free p next : ℕ) (xs ys all : List ℕ) → IsWordCount w → IsFirstFrameFrom b w free p → next ≡ p + 48 * w → ys ≡ xs ++ p ∷ []
    → xs ++ accepted_from b w free ≡ all → ys ++ accepted_from b w next ≡ all
accepted_more b w free p next xs ys all count h behind pushed before =
    goes_on (accepted_from b w) free (p + 48 * w) next xs (p ∷ []) ys all behind (accepted_first b w free p (word_count_some w count) h) pushed before

pub accepted_all : (b : List ℕ) (w free : ℕ) (xs all : List ℕ) → HasNoFrameFrom b w free → xs ++ accepted_from b w free ≡ all → xs ≡ all
accepted_all b w free xs all none before =
    ends (accepted_from b w free) xs [] xs all (accepted_none b w free none) (sym (append-nil xs)) before

gaps_first : (b : List ℕ) (w free p : ℕ) (gap : List Event) → IsWordCount w → IsFirstFrameFrom b w free p → gap_between free p ≡ gap
    → gaps_from b w free ≡ filter_map gap_of_event gap ++ gaps_from b w (p + 48 * w)
gaps_first b w free p gap count h is =
    ap (filter_map gap_of_event) (events_from_first b w free p (word_count_some w count) h)
    ∙ filter_map-append gap_of_event (gap_between free p) (Frame p ∷ events_from b w (p + 48 * w))
    ∙ ap (λ es. filter_map gap_of_event es ++ gaps_from b w (p + 48 * w)) is

gaps_last : (b : List ℕ) (w free : ℕ) (gap : List Event) → HasNoFrameFrom b w free → gap_between free (bits_in b) ≡ gap
    → gaps_from b w free ≡ filter_map gap_of_event gap
gaps_last b w free gap none is = ap (filter_map gap_of_event) (events_from_none b w free none ∙ is)

-- the gap before the next frame was taken
pub gaps_more_gap : (b : List ℕ) (w free p next : ℕ) (xs ys all : List (ℕ × ℕ)) → IsWordCount w → IsFirstFrameFrom b w free p → free < p → next ≡ p + 48 * w
    → ys ≡ xs ++ (free, p - free) ∷ [] → xs ++ gaps_from b w free ≡ all → ys ++ gaps_from b w next ≡ all
gaps_more_gap b w free p next xs ys all count h some behind pushed before =
    goes_on (gaps_from b w) free (p + 48 * w) next xs ((free, p - free) ∷ []) ys all behind (gaps_first b w free p _ count h (gap_some free p some))
    pushed before

-- there is no gap before the next frame
pub gaps_more_none : (b : List ℕ) (w free p next : ℕ) (xs all : List (ℕ × ℕ)) → IsWordCount w → IsFirstFrameFrom b w free p → p ≤ free → next ≡ p + 48 * w
    → xs ++ gaps_from b w free ≡ all → xs ++ gaps_from b w next ≡ all
gaps_more_none b w free p next xs all count h empty behind before =
    goes_on (gaps_from b w) free (p + 48 * w) next xs [] xs all behind (gaps_first b w free p [] count h (gap_empty free p empty)) (sym (append-nil xs)) before

-- the gap after the last frame was taken
pub gaps_all_gap : (b : List ℕ) (w free : ℕ) (xs ys all : List (ℕ × ℕ)) → HasNoFrameFrom b w free → free < bits_in b → ys ≡ xs ++ (free, bits_in b - free) ∷ []
    → xs ++ gaps_from b w free ≡ all → ys ≡ all
gaps_all_gap b w free xs ys all none some pushed before =
    ends (gaps_from b w free) xs ((free, bits_in b - free) ∷ []) ys all (gaps_last b w free _ none (gap_some free (bits_in b) some)) pushed before

-- there is no gap after the last frame
pub gaps_all_none : (b : List ℕ) (w free : ℕ) (xs all : List (ℕ × ℕ)) → HasNoFrameFrom b w free → bits_in b ≤ free → xs ++ gaps_from b w free ≡ all → xs ≡ all
gaps_all_none b w free xs all none empty before =
    ends (gaps_from b w free) xs [] xs all (gaps_last b w free [] none (gap_empty free (bits_in b) empty)) (sym (append-nil xs)) before
