-- The events of a bit list cover it, and no other list of events does.
use Rattle.std.proofs.Common.{◌≡◌, ℕ, ◌+◌, ◌-◌, ◌*◌, ◌<◌, ◌≤◌, ltb, List, [], ◌∷◌, ◌++◌, length, refl, sym, ap, ◌∙◌, subst, ⊎_elim, arith, append_assoc, sum_by}
use Rattle.std.specs.Prelude.{All, AllPairs}
use Rattle.std.specs.List.{filter_map}
use Rattle.std.proofs.lemmas.Bool.{cases_lt, lt-ltb, le-ltb, cond-true, cond-false}
use Rattle.std.proofs.lemmas.List.Elements.{All-nil, All-cons, All-head, All-tail, All-weaker}
use Rattle.std.proofs.lemmas.List.Sums.{sum_by-cons}
use Rattle.fdr_bits.specs.Bits.{bits_in}
use Rattle.fdr_sync.specs.Frames.{IsFramePosition}
use Rattle.fdr_sync.specs.Accepted.{AreAcceptedFrames, accepted_from, accepted_frames}
use Rattle.fdr_sync.specs.Events.{Event, Frame, Gap, gap_between, frames_and_gaps, end_of_frames, decided_from, events_from, events_of, frame_of_event}
use Rattle.fdr_sync.specs.Events.{gap_of_event, gaps, event_bits, Cover, NoGapsMeet, AreEvents, EventsAreUnique}
use Rattle.fdr_sync.proofs.FrameLemmas.{frame_within, some_words}
use Rattle.fdr_sync.proofs.AcceptedLemmas.{accepted_positions, accepted_behind, accepted_apart, are_accepted, only_accepted}
use Rattle.fdr_lists.proofs.Pairs.{AllPairs-head, AllPairs-tail}

pub gap_some : (low high : ℕ) → low < high → gap_between low high ≡ Gap low (high - low) ∷ []
gap_some low high some = cond-true (ltb low high) _ _ (lt-ltb low high some)

pub gap_empty : (low high : ℕ) → high ≤ low → gap_between low high ≡ []
gap_empty low high none = cond-false (ltb low high) _ _ (le-ltb low high none)

-- frames at these places fit one after another between two places
Fit : ℕ → ℕ → ℕ → List ℕ → Type 0
Fit w free n [] = free ≤ n
Fit w free n (a ∷ xs) = (free ≤ a) × Fit w (a + 48 * w) n xs

fit_from : (w n : ℕ) (xs : List ℕ) (free : ℕ) → free ≤ n → All (λ x. free ≤ x) xs → AllPairs (λ earlier later. earlier + 48 * w ≤ later) xs
    → All (λ x. x + 48 * w ≤ n) xs → Fit w free n xs
unfolding Fit
fit_from w n [] free low behind apart within = low
fit_from w n (a ∷ xs) free low behind apart within =
    let R : ℕ → ℕ → Type 0 = λ earlier later. earlier + 48 * w ≤ later in (
      All-head (λ x. free ≤ x) a xs behind,
      fit_from w n xs (a + 48 * w) (All-head (λ x. x + 48 * w ≤ n) a xs within) (AllPairs-head R a xs apart) (AllPairs-tail R a xs apart)
          (All-tail (λ x. x + 48 * w ≤ n) a xs within),
    )

-- all the events over frames at these places, up to bit n
over : ℕ → ℕ → ℕ → List ℕ → List Event
over w free n xs = frames_and_gaps w free xs ++ gap_between (end_of_frames w free xs) n

over-nil : (w free n : ℕ) → over w free n [] ≡ gap_between free n
unfolding over frames_and_gaps end_of_frames
over-nil w free n = refl

over-cons : (w free n a : ℕ) (xs : List ℕ) → over w free n (a ∷ xs) ≡ gap_between free a ++ Frame a ∷ over w (a + 48 * w) n xs
unfolding over frames_and_gaps end_of_frames
over-cons w free n a xs = append_assoc (gap_between free a) (Frame a ∷ frames_and_gaps w (a + 48 * w) xs) _

over-here : (w n a : ℕ) (xs : List ℕ) → over w a n (a ∷ xs) ≡ Frame a ∷ over w (a + 48 * w) n xs
over-here w n a xs = over-cons w a n a xs ∙ ap (λ es. es ++ Frame a ∷ over w (a + 48 * w) n xs) (gap_empty a a (omega arith))

over-later : (w free n a : ℕ) (xs : List ℕ) → free < a → over w free n (a ∷ xs) ≡ Gap free (a - free) ∷ Frame a ∷ over w (a + 48 * w) n xs
over-later w free n a xs later = over-cons w free n a xs ∙ ap (λ es. es ++ Frame a ∷ over w (a + 48 * w) n xs) (gap_some free a later)

-- a property of the events is shown without a gap, and with one, before each frame and at the end
over_cases : (w n : ℕ) (P : ℕ → List ℕ → List Event → Type 0) →
    (P n [] []) →
    ((free : ℕ) → free < n → P free [] (Gap free (n - free) ∷ [])) →
    ((a : ℕ) (xs : List ℕ) → P (a + 48 * w) xs (over w (a + 48 * w) n xs) → P a (a ∷ xs) (Frame a ∷ over w (a + 48 * w) n xs)) →
    ((free a : ℕ) (xs : List ℕ) → free < a → P (a + 48 * w) xs (over w (a + 48 * w) n xs)
    → P free (a ∷ xs) (Gap free (a - free) ∷ Frame a ∷ over w (a + 48 * w) n xs)) →
    (xs : List ℕ) (free : ℕ) → Fit w free n xs → P free xs (over w free n xs)
unfolding Fit
over_cases w n P at_end gap_at_end frame gap_and_frame [] free fit =
    ⊎_elim
    (λ later. subst (P free []) (sym (over-nil w free n ∙ gap_some free n later)) (gap_at_end free later))
    (λ none. let here : n ≡ free = omega arith in
    subst (P free []) (sym (over-nil w free n ∙ gap_empty free n none)) (subst (λ x. P x [] []) here at_end))
    (cases_lt free n)
over_cases w n P at_end gap_at_end frame gap_and_frame (a ∷ xs) free fit =
    let rest = over_cases w n P at_end gap_at_end frame gap_and_frame xs (a + 48 * w) fit.1 in
    ⊎_elim
    (λ later. subst (P free (a ∷ xs)) (sym (over-later w free n a xs later)) (gap_and_frame free a xs later rest))
    (λ none. let here : a ≡ free = omega (arith, fit.0) in
    subst (λ x. P x (a ∷ xs) (over w x n (a ∷ xs))) here (subst (P a (a ∷ xs)) (sym (over-here w n a xs)) (frame a xs rest)))
    (cases_lt free a)

over_covers : (w n : ℕ) (xs : List ℕ) (free : ℕ) → Fit w free n xs → Cover w free n (over w free n xs)
over_covers w n = over_cases w n (λ free xs es. Cover w free n es)
    refl
    (λ free later. (refl, omega arith))
    (λ a xs rest. (refl, rest))
    (λ free a xs later rest. let next : free + (a - free) ≡ a = omega arith in
    (refl, (sym next, subst (λ x. Cover w (x + 48 * w) n (over w (a + 48 * w) n xs)) (sym next) rest)))

-- where each of the frames has a bit, so has each event
over_some : (w n : ℕ) (xs : List ℕ) (free : ℕ) → Fit w free n xs → All (λ a. 0 < w) xs → All (λ e. 0 < event_bits w e) (over w free n xs)
over_some w n =
    let P : Event → Type 0 = λ e. 0 < event_bits w e in
    let HasBits : ℕ → Type 0 = λ a. 0 < w in
    over_cases w n (λ free xs es. All HasBits xs → All P es)
    (λ some. All-nil P)
    (λ free later some. let gap_some : 0 < n - free = omega arith in All-cons P (Gap free (n - free)) [] gap_some (All-nil P))
    (λ a xs rest some. let words : 0 < w = All-head HasBits a xs some in
    let frame_some : 0 < 48 * w = omega arith in
    All-cons P (Frame a) (over w (a + 48 * w) n xs) frame_some (rest (All-tail HasBits a xs some)))
    (λ free a xs later rest some. let words : 0 < w = All-head HasBits a xs some in
    let frame_some : 0 < 48 * w = omega arith in
    let gap_some : 0 < a - free = omega arith in
    All-cons P (Gap free (a - free)) (Frame a ∷ over w (a + 48 * w) n xs) gap_some
    (All-cons P (Frame a) (over w (a + 48 * w) n xs) frame_some (rest (All-tail HasBits a xs some))))

over_apart : (w n : ℕ) (xs : List ℕ) (free : ℕ) → Fit w free n xs → NoGapsMeet (over w free n xs)
over_apart w n = over_cases w n (λ free xs es. NoGapsMeet es)
    tt
    (λ free later. (λ h. h, tt))
    (λ a xs rest. rest)
    (λ free a xs later rest. (λ h. h, rest))

over_frames : (w n : ℕ) (xs : List ℕ) (free : ℕ) → Fit w free n xs → filter_map frame_of_event (over w free n xs) ≡ xs
over_frames w n = over_cases w n (λ free xs es. filter_map frame_of_event es ≡ xs)
    refl
    (λ free later. refl)
    (λ a xs rest. ap (λ ys. a ∷ ys) rest)
    (λ free a xs later rest. ap (λ ys. a ∷ ys) rest)

-- how many bits the gaps among events have
gap_bits : List Event → ℕ
gap_bits es = sum_by (λ g. g.1) (filter_map gap_of_event es)

gap_bits-frame : (a : ℕ) (es : List Event) → gap_bits (Frame a ∷ es) ≡ gap_bits es
unfolding gap_bits
gap_bits-frame a es = refl

gap_bits-gap : (a k : ℕ) (es : List Event) → gap_bits (Gap a k ∷ es) ≡ k + gap_bits es
unfolding gap_bits
gap_bits-gap a k es = sum_by-cons (λ g. g.1) (a, k) (filter_map gap_of_event es)

gap_bits-nil : gap_bits [] ≡ 0
unfolding gap_bits
gap_bits-nil = refl

-- frames and gaps have all the bits
over_total : (w n : ℕ) (xs : List ℕ) (free : ℕ) → Fit w free n xs → free + (48 * w * length xs + gap_bits (over w free n xs)) ≡ n
over_total w n = over_cases w n (λ free xs es. free + (48 * w * length xs + gap_bits es) ≡ n)
    (omega (arith, gap_bits-nil))
    (λ free later. omega (arith, gap_bits-gap free (n - free) [], gap_bits-nil))
    (λ a xs rest. omega (arith, gap_bits-frame a (over w (a + 48 * w) n xs), rest))
    (λ free a xs later rest. omega (
      arith,
      gap_bits-gap free (a - free) (Frame a ∷ over w (a + 48 * w) n xs),
      gap_bits-frame a (over w (a + 48 * w) n xs),
      rest,
    ))

-- events that cover the bits are those over their frames
cover_is_over : (w n : ℕ) (es : List Event) (free : ℕ) → Cover w free n es → All (λ e. 0 < event_bits w e) es → NoGapsMeet es
    → es ≡ over w free n (filter_map frame_of_event es)
cover_is_over w n [] free cover some apart = sym (over-nil w free n ∙ gap_empty free n (omega (arith, cover)))
cover_is_over w n (Frame a ∷ es) free cover some apart =
    let P : Event → Type 0 = λ e. 0 < event_bits w e in
    let here : free ≡ a = sym cover.0 in
    let xs = filter_map frame_of_event es in
    let rest = cover_is_over w n es (a + 48 * w) (subst (λ x. Cover w (x + 48 * w) n es) here cover.1) (All-tail P (Frame a) es some) apart in
    ap (λ fs. Frame a ∷ fs) rest ∙ sym (over-here w n a xs) ∙ ap (λ x. over w x n (a ∷ xs)) (sym here)
cover_is_over w n (Gap a k ∷ []) free cover some apart =
    let P : Event → Type 0 = λ e. 0 < event_bits w e in
    let bits : 0 < k = All-head P (Gap a k) [] some in
    let here : a ≡ free = cover.0 in
    let all : k ≡ n - free = omega (arith, cover.1) in
    ap (λ x. Gap x k ∷ []) here ∙ ap (λ m. Gap free m ∷ []) all ∙ sym (gap_some free n (omega (arith, cover.1))) ∙ sym (over-nil w free n)
cover_is_over w n (Gap a k ∷ Frame p ∷ es) free cover some apart =
    let P : Event → Type 0 = λ e. 0 < event_bits w e in
    let bits : 0 < k = All-head P (Gap a k) (Frame p ∷ es) some in
    let here : a ≡ free = cover.0 in
    let next : p ≡ free + k = cover.1.0 in
    let all : k ≡ p - free = omega arith in
    let xs = filter_map frame_of_event es in
    let rest = cover_is_over w n es (p + 48 * w) (subst (λ x. Cover w (x + 48 * w) n es) (sym next) cover.1.1)
    (All-tail P (Frame p) es (All-tail P (Gap a k) (Frame p ∷ es) some)) apart.1 in
    ap (λ fs. Gap a k ∷ Frame p ∷ fs) rest ∙ ap (λ x. Gap x k ∷ Frame p ∷ over w (p + 48 * w) n xs) here
    ∙ ap (λ m. Gap free m ∷ Frame p ∷ over w (p + 48 * w) n xs) all ∙ sym (over-later w free n p xs (omega arith))
cover_is_over w n (Gap a k ∷ Gap c m ∷ es) free cover some apart = absurd (apart.0 tt)

events_are_over : (b : List ℕ) (w free : ℕ) → events_from b w free ≡ over w free (bits_in b) (accepted_from b w free)
unfolding events_from decided_from over
events_are_over b w free = refl

-- the accepted frames fit into the bits
accepted_fit : (b : List ℕ) (w : ℕ) → Fit w 0 (bits_in b) (accepted_frames b w)
accepted_fit b w =
    fit_from w (bits_in b) (accepted_frames b w) 0 (omega arith) (accepted_behind b w 0) (accepted_apart b w 0)
    (All-weaker (IsFramePosition b w) (λ x. x + 48 * w ≤ bits_in b) (λ x h. frame_within b w x h) (accepted_frames b w) (accepted_positions b w 0))

-- the frames among the events are the accepted ones
pub frames_of_events : (b : List ℕ) (w : ℕ) → filter_map frame_of_event (events_of b w) ≡ accepted_frames b w
frames_of_events b w = ap (filter_map frame_of_event) (events_are_over b w 0) ∙ over_frames w (bits_in b) (accepted_frames b w) 0 (accepted_fit b w)

-- the function gives the events
pub are_events : (b : List ℕ) (w : ℕ) → AreEvents b w (events_of b w)
are_events b w =
    let n = bits_in b in
    let xs = accepted_frames b w in
    let is = events_are_over b w 0 in
    let fit = accepted_fit b w in
    record {
      cover = subst (Cover w 0 n) (sym is) (over_covers w n xs 0 fit);
      not_empty = subst (All (λ e. 0 < event_bits w e)) (sym is)
          (over_some w n xs 0 fit (All-weaker (IsFramePosition b w) (λ a. 0 < w) (λ x h. some_words b w x h) xs (accepted_positions b w 0)));
      apart = subst NoGapsMeet (sym is) (over_apart w n xs 0 fit);
      frames = subst (AreAcceptedFrames b w) (sym (frames_of_events b w)) (are_accepted b w);
    }

-- no other list is one of events
pub only_events : (b : List ℕ) (w : ℕ) (es : List Event) → AreEvents b w es → es ≡ events_of b w
only_events b w es h =
    cover_is_over w (bits_in b) es 0 h.cover h.not_empty h.apart
    ∙ ap (over w 0 (bits_in b)) (only_accepted b w (filter_map frame_of_event es) h.frames)
    ∙ sym (events_are_over b w 0)

-- each bit list has exactly one list of accepted frames, and exactly one of events
pub events_unique : (b : List ℕ) (w : ℕ) → EventsAreUnique b w
events_unique b w = record {
  accepted = are_accepted b w;
  only_accepted = only_accepted b w;
  events = are_events b w;
  only_events = only_events b w;
}

-- accepted frames and gaps have all the bits
pub total_bits : (b : List ℕ) (w : ℕ) → 48 * w * length (accepted_frames b w) + sum_by (λ g. g.1) (gaps b w) ≡ bits_in b
unfolding gap_bits
total_bits b w =
    ap (λ es. 48 * w * length (accepted_frames b w) + gap_bits es) (events_are_over b w 0)
    ∙ omega (arith, over_total w (bits_in b) (accepted_frames b w) 0 (accepted_fit b w))
