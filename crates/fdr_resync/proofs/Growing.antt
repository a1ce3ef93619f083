-- What is decided of bytes stays so, however they go on.
use Rattle.std.proofs.Common.{◌≡◌, ℕ, zero, suc, ◌+◌, ◌*◌, ◌<◌, ◌≤◌, ◌⊎◌, Bool, true, false, List, ◌∷◌, ◌++◌, get_or, sym, ap, ◌∙◌, subst, inl, inr, ⊎_elim}
use Rattle.std.proofs.Common.{arith}
use Rattle.std.proofs.Common.{append_assoc}
use Rattle.std.specs.Prelude.{All}
use Rattle.std.proofs.lemmas.Bool.{cases_lt, cases_Bool, both_ways}
use Rattle.fdr_bits.specs.Bits.{bits_in}
use Rattle.fdr_sync.specs.Frames.{is_frame_position, IsFramePosition, IsFirstFrameFrom, HasNoFrameFrom}
use Rattle.fdr_sync.specs.Accepted.{accepted_from, accepted_frames}
use Rattle.fdr_sync.specs.Events.{Event, Frame, gap_between, decided_from, decided_events, events_of}
use Rattle.fdr_sync.proofs.FrameLemmas.{frame_within}
use Rattle.fdr_sync.proofs.ChoiceLemmas.{accepted_none, accepted_first}
use Rattle.fdr_sync.proofs.AcceptedLemmas.{accepted_positions, accepted_behind}
use Rattle.fdr_sync.proofs.SameLemmas.{frame_append_left}
use Rattle.fdr_resync.proofs.Following.{rest_from, rest_first, rest_decided, rest_from-decided, rest_from-all}

-- whether a frame begins from bit `from` up to bit from + n, and where the first does
first_or_none : (b : List ℕ) (w from n : ℕ)
    → ((p : ℕ) × IsFirstFrameFrom b w from p) ⊎ ((q : ℕ) → from ≤ q → q < from + n → IsFramePosition b w q → ⊥)
first_or_none b w from zero = inr (λ q low high h. absurd (omega arith))
first_or_none b w from (suc n) =
    ⊎_elim
    (λ here. inl (from, record { behind = omega arith; position = here; first = λ q low high h. absurd (omega arith) }))
    (λ not_here.
    let skip : (q : ℕ) → from ≤ q → IsFramePosition b w q → from + 1 ≤ q = λ q low h. ⊎_elim
    (λ later. omega arith)
    (λ same. let at : q ≡ from = omega arith in absurd (both_ways (is_frame_position b w from) not_here (subst (IsFramePosition b w) at h)))
    (cases_lt from q) in
    ⊎_elim
    (λ found. inl (
      found.0,
      record {
        behind = omega (arith, found.1.behind);
        position = found.1.position;
        first = λ q low high h. found.1.first q (skip q low h) high h;
      },
    ))
    (λ none. inr (λ q low high h. none q (skip q low h) (omega arith) h))
    (first_or_none b w (from + 1) n))
    (cases_Bool (is_frame_position b w from))

next_or_none : (b : List ℕ) (w from : ℕ) → 0 < w → ((p : ℕ) × IsFirstFrameFrom b w from p) ⊎ HasNoFrameFrom b w from
next_or_none b w from some =
    ⊎_elim (λ found. inl found) (λ none. inr (λ q low h. none q low (omega (arith, frame_within b w q h)) h)) (first_or_none b w from (bits_in b))

-- the next frame stays the next one
first_stays : (b more : List ℕ) (w from p : ℕ) → 0 < w → IsFirstFrameFrom b w from p → IsFirstFrameFrom (b ++ more) w from p
first_stays b more w from p some h =
    let within = frame_within b w p h.position in
    record {
      behind = h.behind;
      position = frame_append_left b more w p some within ∙ h.position;
      first = λ q low high there. h.first q low high (sym (frame_append_left b more w q some (omega (arith, within))) ∙ there);
    }

-- a property that each next frame hands on, and that holds where there is none
each_frame : (b : List ℕ) (w : ℕ) (P : ℕ → Type 0) → 0 < w → ((from p : ℕ) → IsFirstFrameFrom b w from p → P (p + 48 * w) → P from)
    → ((from : ℕ) → HasNoFrameFrom b w from → P from) → (n from : ℕ) → bits_in b ≤ from + n → P from
each_frame b w P some step last zero from end =
    last from (λ q low h. omega (arith, frame_within b w q h))
each_frame b w P some step last (suc n) from end =
    ⊎_elim
    (λ found. step from found.0 found.1 (each_frame b w P some step last n (found.0 + 48 * w) (omega (arith, found.1.behind))))
    (λ none. last from none)
    (next_or_none b w from some)

-- the rest from the next frame on
rest_goes_on : (all : Bool) (b : List ℕ) (w from p : ℕ) (later : List Event) → 0 < w → IsFirstFrameFrom b w from p → rest_from all b w (p + 48 * w) ≡ later
    → rest_from all b w from ≡ gap_between from p ++ Frame p ∷ later
rest_goes_on all b w from p later some h is = rest_first all b w from p some h ∙ ap (λ es. gap_between from p ++ Frame p ∷ es) is

-- the rest of longer bytes begins with what is decided of these
Extends : Bool → List ℕ → List ℕ → ℕ → ℕ → Type 0
Extends all b more w from = (next : List Event) × (rest_from all (b ++ more) w from ≡ decided_from b w from ++ next)

extends : (all : Bool) (b more : List ℕ) (w : ℕ) → 0 < w → Extends all b more w 0
unfolding Extends
extends all b more w some =
    each_frame b w (λ from. (next : List Event) × (rest_from all (b ++ more) w from ≡ decided_from b w from ++ next)) some
    (λ from p h rest. (
      rest.0,
      rest_goes_on all (b ++ more) w from p _ some (first_stays b more w from p some h) rest.1
          ∙ sym (append_assoc (gap_between from p) (Frame p ∷ decided_from b w (p + 48 * w)) rest.0)
          ∙ ap (λ es. es ++ rest.0) (sym (sym (rest_from-decided b w from)
          ∙ rest_goes_on false b w from p _ some h (rest_from-decided b w (p + 48 * w)))),
    ))
    (λ from none. (
      rest_from all (b ++ more) w from,
      ap (λ es. es ++ rest_from all (b ++ more) w from) (sym (sym (rest_from-decided b w from) ∙ rest_decided b w from none)),
    ))
    (bits_in b) 0 (omega arith)

pub decided_extends : (b more : List ℕ) (w : ℕ) → 0 < w → (next : List Event) × (decided_events (b ++ more) w ≡ decided_events b w ++ next)
unfolding Extends
decided_extends b more w some = let e = extends false b more w some in (e.0, sym (rest_from-decided (b ++ more) w 0) ∙ e.1)

pub events_extend : (b more : List ℕ) (w : ℕ) → 0 < w → (next : List Event) × (events_of (b ++ more) w ≡ decided_events b w ++ next)
unfolding Extends
events_extend b more w some = let e = extends true b more w some in (e.0, sym (rest_from-all (b ++ more) w 0) ∙ e.1)

-- frames of longer bytes that begin where these have none end after these
all_behind : (b more : List ℕ) (w from : ℕ) → 0 < w → HasNoFrameFrom b w from → All (λ x. bits_in b < x + 48 * w) (accepted_from (b ++ more) w from)
all_behind b more w from some none = λ k d within.
    let x = get_or (accepted_from (b ++ more) w from) k d in
    let position : IsFramePosition (b ++ more) w x = accepted_positions (b ++ more) w from k d within in
    let behind : from ≤ x = accepted_behind (b ++ more) w from k d within in
    ⊎_elim (λ outside. outside)
    (λ inside. absurd (none x behind (sym (frame_append_left b more w x some inside) ∙ position)))
    (cases_lt (bits_in b) (x + 48 * w))

pub frames_extend : (b more : List ℕ) (w : ℕ) → 0 < w
    → (next : List ℕ) × (accepted_frames (b ++ more) w ≡ accepted_frames b w ++ next) × All (λ x. bits_in b < x + 48 * w) next
frames_extend b more w some =
    each_frame b w
    (λ from. (next : List ℕ) × (accepted_from (b ++ more) w from ≡ accepted_from b w from ++ next) × All (λ x. bits_in b < x + 48 * w) next) some
    (λ from p h rest. (
      rest.0,
      accepted_first (b ++ more) w from p some (first_stays b more w from p some h)
          ∙ ap (λ xs. p ∷ xs) rest.1
          ∙ ap (λ xs. xs ++ rest.0) (sym (accepted_first b w from p some h)),
      rest.2,
    ))
    (λ from none. (
      accepted_from (b ++ more) w from,
      ap (λ xs. xs ++ accepted_from (b ++ more) w from) (sym (accepted_none b w from none)),
      all_behind b more w from some none,
    ))
    (bits_in b) 0 (omega arith)
