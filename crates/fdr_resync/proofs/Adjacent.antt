-- A frame begins where another ends exactly where the event before it is a frame.
use Rattle.std.proofs.Common.{◌≡◌, ℕ, ◌+◌, ◌*◌, ◌<◌, ◌≤◌, ◌==◌, ◌&&◌, Bool, true, false, List, [], ◌∷◌, ◌++◌, sym, ap, ◌∙◌, subst, arith}
use Rattle.std.specs.Prelude.{All, ◌||◌, fold, is_some}
use Rattle.std.specs.List.{filter_map, list_any}
use Rattle.std.proofs.lemmas.Bool.{eq-eqb, ne_eqb}
use Rattle.std.proofs.lemmas.List.Elements.{All-nil, All-cons, All-head, All-tail, All-weaker, filter_map-append}
use Rattle.std.proofs.lemmas.List.Folds.{list_any-append, list_any_none}
use Rattle.std.proofs.Math.Bool.{and-true, and-false, or-false}
use Rattle.fdr_bits.specs.Bits.{bits_in}
use Rattle.fdr_sync.specs.Accepted.{accepted_frames}
use Rattle.fdr_sync.specs.Events.{Event, Frame, Gap, events_of, frame_of_event, event_bits, Cover}
use Rattle.fdr_sync.proofs.EventLemmas.{frames_of_events, are_events}
use Rattle.fdr_resync.specs.Adjacency.{ends_with_frame}

-- some of the frames among events ends at bit a
ends_at : ℕ → ℕ → List Event → Bool
ends_at w a es = list_any (λ x. x + 48 * w == a) (filter_map frame_of_event es)

last_is_frame : Bool → List Event → Bool
last_is_frame was es = fold (λ was e. is_some (frame_of_event e)) was es

pub cover_forward : (w n : ℕ) (es : List Event) (from : ℕ) → Cover w from n es → from ≤ n
cover_forward w n [] from cover = omega arith
cover_forward w n (e ∷ es) from cover = let rest = cover_forward w n es (from + event_bits w e) cover.1 in omega arith

-- events that cover the bits up to bit a, where `was` says whether a frame ends at their start
ends_at_end : (w a : ℕ) → 0 < w → (es : List Event) (from : ℕ) (was : Bool) → Cover w from a es → All (λ e. 0 < event_bits w e) es
    → (((from == a) && was) || ends_at w a es) ≡ last_is_frame was es
unfolding ends_at last_is_frame
ends_at_end w a some [] from was cover bits = ap (λ b. (b && was) || false) (eq-eqb from a cover) ∙ or-false was
ends_at_end w a some (Frame x ∷ es) from was cover bits =
    let P : Event → Type 0 = λ e. 0 < event_bits w e in
    let any = list_any (λ x. x + 48 * w == a) (filter_map frame_of_event es) in
    let apart : from ≡ a → ⊥ = λ is. let on = cover_forward w a es (from + 48 * w) cover.1 in omega arith in
    ap (λ b. (b && was) || ((x + 48 * w == a) || any)) (ne_eqb from a apart)
    ∙ ap (λ y. (y + 48 * w == a) || any) cover.0
    ∙ ap (λ b. b || any) (sym (and-true (from + 48 * w == a)))
    ∙ ends_at_end w a some es (from + 48 * w) true cover.1 (All-tail P (Frame x) es bits)
ends_at_end w a some (Gap g n ∷ es) from was cover bits =
    let P : Event → Type 0 = λ e. 0 < event_bits w e in
    let any = list_any (λ x. x + 48 * w == a) (filter_map frame_of_event es) in
    let more : 0 < n = All-head P (Gap g n) es bits in
    let apart : from ≡ a → ⊥ = λ is. let on = cover_forward w a es (from + n) cover.1 in omega arith in
    ap (λ b. (b && was) || any) (ne_eqb from a apart)
    ∙ ap (λ b. b || any) (sym (and-false (from + n == a)))
    ∙ ends_at_end w a some es (from + n) false cover.1 (All-tail P (Gap g n) es bits)

-- events that cover the bits, cut before a frame
cover_before : (w n a : ℕ) (before after : List Event) (from : ℕ) → Cover w from n (before ++ Frame a ∷ after)
    → Cover w from a before × Cover w (a + 48 * w) n after
cover_before w n a [] after from cover = (sym cover.0, subst (λ x. Cover w (x + 48 * w) n after) (sym cover.0) cover.1)
cover_before w n a (e ∷ before) after from cover =
    let rest = cover_before w n a before after (from + event_bits w e) cover.1 in
    ((cover.0, rest.0), rest.1)

frames_behind : (w n : ℕ) (es : List Event) (from : ℕ) → Cover w from n es → All (λ x. from ≤ x) (filter_map frame_of_event es)
frames_behind w n [] from cover = All-nil (λ x. from ≤ x)
frames_behind w n (Frame x ∷ es) from cover =
    All-cons (λ x. from ≤ x) x _ (omega (arith, cover.0))
    (All-weaker (λ x. from + 48 * w ≤ x) (λ x. from ≤ x) (λ x h. omega arith) _ (frames_behind w n es (from + 48 * w) cover.1))
frames_behind w n (Gap g k ∷ es) from cover =
    All-weaker (λ x. from + k ≤ x) (λ x. from ≤ x) (λ x h. omega arith) _ (frames_behind w n es (from + k) cover.1)

front : (P : Event → Type 0) (xs ys : List Event) → All P (xs ++ ys) → All P xs
front P [] ys all = All-nil P
front P (x ∷ xs) ys all = All-cons P x xs (All-head P x (xs ++ ys) all) (front P xs ys (All-tail P x (xs ++ ys) all))

pub frame_is_adjacent : (b : List ℕ) (w a : ℕ) (before after : List Event) → 0 < w → events_of b w ≡ before ++ Frame a ∷ after
    → list_any (λ x. x + 48 * w == a) (accepted_frames b w) ≡ ends_with_frame before
unfolding ends_at last_is_frame
frame_is_adjacent b w a before after some is =
    let P : Event → Type 0 = λ e. 0 < event_bits w e in
    let events = are_events b w in
    let cover = cover_before w (bits_in b) a before after 0 (subst (Cover w 0 (bits_in b)) is events.cover) in
    let bits = front P before (Frame a ∷ after) (subst (All P) is events.not_empty) in
    let here : (a + 48 * w == a) ≡ false = ne_eqb (a + 48 * w) a (λ same. omega arith) in
    let none : ends_at w a after ≡ false =
    list_any_none (λ x. x + 48 * w == a) (filter_map frame_of_event after)
    (All-weaker (λ x. a + 48 * w ≤ x) (λ x. (x + 48 * w == a) ≡ false) (λ x far. ne_eqb (x + 48 * w) a (λ same. omega arith)) _
    (frames_behind w (bits_in b) after (a + 48 * w) cover.1)) in
    let no_start : ((0 == a) && false) ≡ false = and-false (0 == a) in
    sym (ap (list_any (λ x. x + 48 * w == a)) (sym (ap (filter_map frame_of_event) is) ∙ frames_of_events b w))
    ∙ ap (list_any (λ x. x + 48 * w == a)) (filter_map-append frame_of_event before (Frame a ∷ after))
    ∙ list_any-append (λ x. x + 48 * w == a) (filter_map frame_of_event before) (a ∷ filter_map frame_of_event after)
    ∙ ap (λ y. ends_at w a before || (y || ends_at w a after)) here
    ∙ ap (λ y. ends_at w a before || y) none
    ∙ or-false (ends_at w a before)
    ∙ ap (λ y. y || ends_at w a before) (sym no_start)
    ∙ ends_at_end w a some before 0 false cover.0 bits
