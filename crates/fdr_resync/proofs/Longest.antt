-- The decided events are all that no further bytes change: no event is kept back.
use Rattle.std.proofs.Common.{◌≡◌, ℕ, ◌+◌, ◌-◌, ◌*◌, ◌<◌, ◌≤◌, ◌⊎◌, List, [], ◌∷◌, ◌++◌, refl, sym, ap, ◌∙◌, subst, inl, inr, ⊎_elim, arith}
use Rattle.std.proofs.Common.{append_assoc, append-nil, length-append}
use Rattle.std.specs.Prelude.{All}
use Rattle.std.proofs.lemmas.Bool.{cases_lt}
use Rattle.std.proofs.lemmas.List.Elements.{All-head, All-tail}
use Rattle.fdr_bits.specs.Bits.{bits_in}
use Rattle.fdr_sync.specs.Accepted.{accepted_frames}
use Rattle.fdr_sync.specs.Events.{Event, Frame, Gap, events_from, events_of, decided_events, gap_between, end_of_frames, event_bits}
use Rattle.fdr_sync.specs.Events.{Cover, BeginsWithGap, NoGapsMeet}
use Rattle.fdr_sync.proofs.EventLemmas.{are_events, gap_some, gap_empty}
use Rattle.fdr_resync.proofs.Adjacent.{cover_forward}

HasBits : ℕ → Event → Type 0
HasBits w e = 0 < event_bits w e

-- what follows a gap covers the bits from the gap's end on, begins with no gap, and has a bit in each event
behind_gap : (w n : ℕ) (xs : List Event) (a k : ℕ) (ys : List Event) (from : ℕ) → Cover w from n (xs ++ Gap a k ∷ ys) → NoGapsMeet (xs ++ Gap a k ∷ ys)
    → All (HasBits w) (xs ++ Gap a k ∷ ys) → Cover w (a + k) n ys × (BeginsWithGap ys → ⊥) × All (HasBits w) ys
behind_gap w n [] a k ys from cover apart bits =
    (subst (λ x. Cover w (x + k) n ys) (sym cover.0) cover.1, apart.0, All-tail (HasBits w) (Gap a k) ys bits)
behind_gap w n (Frame x ∷ xs) a k ys from cover apart bits =
    behind_gap w n xs a k ys (from + 48 * w) cover.1 apart (All-tail (HasBits w) (Frame x) (xs ++ Gap a k ∷ ys) bits)
behind_gap w n (Gap x l ∷ xs) a k ys from cover apart bits =
    behind_gap w n xs a k ys (from + l) cover.1 apart.1 (All-tail (HasBits w) (Gap x l) (xs ++ Gap a k ∷ ys) bits)

-- eight bits are no frame and no events without a gap
not_in_a_byte : (w m n : ℕ) (ys : List Event) → n ≡ m + 8 → Cover w m n ys → (BeginsWithGap ys → ⊥) → All (HasBits w) ys → ⊥
unfolding HasBits
not_in_a_byte w m n [] is cover apart bits = omega (arith, cover)
not_in_a_byte w m n (Gap a k ∷ ys) is cover apart bits = apart tt
not_in_a_byte w m n (Frame a ∷ ys) is cover apart bits =
    let some : 0 < 48 * w = All-head (HasBits w) (Frame a) ys bits in
    let on = cover_forward w n ys (m + 48 * w) cover.1 in
    omega (arith, some, on)

-- of two fronts of a list one is a front of the other
fronts : (xs ys zs ws : List Event) → xs ++ ys ≡ zs ++ ws
    → ((r : List Event) × (zs ≡ xs ++ r)) ⊎ ((e : Event) × (r : List Event) × (xs ≡ zs ++ e ∷ r) × (ws ≡ e ∷ (r ++ ys)))
fronts [] ys zs ws is = inl (zs, refl)
fronts (x ∷ xs) ys [] ws is = inr (x, xs, refl, sym is)
fronts (x ∷ xs) ys (z ∷ zs) ws is =
    let head : x ≡ z = cc in
    let tails : xs ++ ys ≡ zs ++ ws = cc in
    ⊎_elim
    (λ short. inl (short.0, ap (λ es. z ∷ es) short.1 ∙ ap (λ y. y ∷ (xs ++ short.0)) (sym head)))
    (λ long. inr (long.0, long.1, ap (λ es. x ∷ es) long.2 ∙ ap (λ y. y ∷ (zs ++ long.0 ∷ long.1)) head, long.3))
    (fronts xs ys zs ws tails)

-- a gap that ends where the bytes end goes on with a byte that follows
not_a_front : (b : List ℕ) (w : ℕ) (front : List Event) (a k : ℕ) (ys : List Event) → a + k ≡ bits_in b
    → events_of (b ++ 0 ∷ []) w ≡ front ++ Gap a k ∷ ys → ⊥
unfolding HasBits
not_a_front b w front a k ys ends is =
    let n = bits_in (b ++ 0 ∷ []) in
    let events = are_events (b ++ 0 ∷ []) w in
    let behind = behind_gap w n front a k ys 0 (subst (Cover w 0 n) is events.cover) (subst NoGapsMeet is events.apart)
    (subst (All (HasBits w)) is events.not_empty) in
    not_in_a_byte w (a + k) n ys (omega (arith, ends, length-append b (0 ∷ []))) behind.0 behind.1 behind.2

events_end : (b : List ℕ) (w : ℕ) → events_of b w ≡ decided_events b w ++ gap_between (end_of_frames w 0 (accepted_frames b w)) (bits_in b)
unfolding events_from
events_end b w = refl

-- what begins the events of all longer bytes begins the decided ones
pub none_kept_back : (b : List ℕ) (w : ℕ) (es : List Event) → ((more : List ℕ) → (next : List Event) × (events_of (b ++ more) w ≡ es ++ next))
    → (rest : List Event) × (decided_events b w ≡ es ++ rest)
none_kept_back b w es begins =
    let low = end_of_frames w 0 (accepted_frames b w) in
    let now = begins [] in
    let longer = begins (0 ∷ []) in
    let both : es ++ now.0 ≡ decided_events b w ++ gap_between low (bits_in b) = sym now.1 ∙ ap (λ b. events_of b w) (append-nil b) ∙ events_end b w in
    ⊎_elim
    (λ short. short)
    (λ long. ⊎_elim
    (λ some. let gap : Gap low (bits_in b - low) ∷ [] ≡ long.0 ∷ (long.1 ++ now.0) = sym (gap_some low (bits_in b) some) ∙ long.3 in
    let is : long.0 ≡ Gap low (bits_in b - low) = cc in
    let all : events_of (b ++ 0 ∷ []) w ≡ decided_events b w ++ Gap low (bits_in b - low) ∷ (long.1 ++ longer.0) =
    longer.1 ∙ ap (λ xs. xs ++ longer.0) long.2 ∙ append_assoc (decided_events b w) (long.0 ∷ long.1) longer.0
    ∙ ap (λ e. decided_events b w ++ e ∷ (long.1 ++ longer.0)) is in
    absurd (not_a_front b w (decided_events b w) low (bits_in b - low) (long.1 ++ longer.0) (omega (arith, some)) all))
    (λ none. let gone : [] ≡ long.0 ∷ (long.1 ++ now.0) = sym (gap_empty low (bits_in b) none) ∙ long.3 in absurd (cc))
    (cases_lt low (bits_in b)))
    (fronts es now.0 (decided_events b w) (gap_between low (bits_in b)) both)
