-- Each bit list has exactly one list of accepted frames.
use Rattle.std.proofs.Common.{◌≡◌, ℕ, suc, zero, ◌+◌, ◌*◌, ◌<◌, ◌≤◌, ◌⊎◌, Bool, true, List, [], ◌∷◌, sym, ap, ◌∙◌, subst, inl, inr, ⊎_elim, arith}
use Rattle.std.specs.Prelude.{All, AllPairs, Contains}
use Rattle.std.specs.List.{range_with_len}
use Rattle.std.proofs.lemmas.Bool.{cases_lt, cases_Bool}
use Rattle.std.proofs.lemmas.List.Elements.{All-nil, All-cons, All-head, All-tail, All-contains, All-weaker, filter_passes, Contains-append_right}
use Rattle.fdr_bits.specs.Bits.{bits_in}
use Rattle.fdr_sync.specs.Frames.{is_frame_position, IsFramePosition, IsFirstFrameFrom}
use Rattle.fdr_sync.specs.Accepted.{AreAcceptedFrames, frame_positions, chosen_from, accepted_from, accepted_frames}
use Rattle.fdr_sync.proofs.FrameLemmas.{frame_within, some_words}
use Rattle.fdr_sync.proofs.ChoiceLemmas.{passing, passing_more, passing_same, chosen_nil, chosen_late, chosen_early, chosen_over, accepted_is_chosen}
use Rattle.fdr_sync.proofs.ChoiceLemmas.{accepted_none, accepted_first}
use Rattle.fdr_lists.proofs.Pairs.{AllPairs-nil, AllPairs-head, AllPairs-tail, Contains-here}
use Rattle.std.proofs.lemmas.List.Kept.{AllPairs-cons}

Contains-nil : (x : ℕ) → Contains [] x → ⊥
Contains-nil x h = let below : h.0 < 0 = h.1 in omega arith

-- an element of a list is its head or in its tail
Contains-cons_cases : (x : ℕ) (xs : List ℕ) (y : ℕ) → Contains (x ∷ xs) y → (x ≡ y) ⊎ Contains xs y
Contains-cons_cases x xs y (zero, within, is) = inl is
Contains-cons_cases x xs y (suc k, within, is) = inr (k, omega arith, is)

chosen_all : (P : ℕ → Type 0) (len free : ℕ) (ps : List ℕ) → All P ps → All P (chosen_from len free ps)
chosen_all P len free [] all = subst (All P) (sym (chosen_nil len free)) (All-nil P)
chosen_all P len free (p ∷ ps) all =
    ⊎_elim
    (λ early. subst (All P) (sym (chosen_early len free p ps early)) (chosen_all P len free ps (All-tail P p ps all)))
    (λ late. subst (All P) (sym (chosen_late len free p ps late)) (All-cons P p _ (All-head P p ps all) (chosen_all P len (p + len) ps (All-tail P p ps all))))
    (cases_lt p free)

-- what is chosen isn't before `free`
chosen_behind : (len free : ℕ) (ps : List ℕ) → All (λ x. free ≤ x) (chosen_from len free ps)
chosen_behind len free [] = subst (All (λ x. free ≤ x)) (sym (chosen_nil len free)) (All-nil (λ x. free ≤ x))
chosen_behind len free (p ∷ ps) =
    ⊎_elim
    (λ early. subst (All (λ x. free ≤ x)) (sym (chosen_early len free p ps early)) (chosen_behind len free ps))
    (λ late. subst (All (λ x. free ≤ x)) (sym (chosen_late len free p ps late))
    (All-cons (λ x. free ≤ x) p _ late (All-weaker (λ x. p + len ≤ x) (λ x. free ≤ x) (λ x h. omega arith) _ (chosen_behind len (p + len) ps))))
    (cases_lt p free)

chosen_apart : (len free : ℕ) (ps : List ℕ) → AllPairs (λ earlier later. earlier + len ≤ later) (chosen_from len free ps)
chosen_apart len free [] =
    let R : ℕ → ℕ → Type 0 = λ earlier later. earlier + len ≤ later in
    subst (AllPairs R) (sym (chosen_nil len free)) (AllPairs-nil R)
chosen_apart len free (p ∷ ps) =
    let R : ℕ → ℕ → Type 0 = λ earlier later. earlier + len ≤ later in
    ⊎_elim
    (λ early. subst (AllPairs R) (sym (chosen_early len free p ps early)) (chosen_apart len free ps))
    (λ late. subst (AllPairs R) (sym (chosen_late len free p ps late)) (AllPairs-cons R p _ (chosen_behind len (p + len) ps) (chosen_apart len (p + len) ps)))
    (cases_lt p free)

-- p is listed, or less than len after one that is
Listed : ℕ → List ℕ → ℕ → Type 0
Listed len xs p = Contains xs p ⊎ ((a : ℕ) × Contains xs a × (a < p) × (p < a + len))

Listed-tail : (len x : ℕ) (xs : List ℕ) (p : ℕ) → Listed len xs p → Listed len (x ∷ xs) p
unfolding Listed
Listed-tail len x xs p (inl here) = inl (Contains-append_right (x ∷ []) xs p here)
Listed-tail len x xs p (inr h) = inr (h.0, Contains-append_right (x ∷ []) xs h.0 h.1, h.2, h.3)

chosen_others : (test : ℕ → Bool) (len free a n p : ℕ) → free ≤ p → a ≤ p → p < a + n → test p ≡ true → Listed len (chosen_from len free (passing test a n)) p
unfolding Listed
chosen_others test len free a zero p behind from below passes = absurd (omega arith)
chosen_others test len free a (suc n) p behind from below passes =
    ⊎_elim
    (λ before. ⊎_elim
    (λ early. subst (λ xs. Listed len xs p) (sym (chosen_over test len free a n early))
    (chosen_others test len free (a + 1) n p behind (omega arith) (omega arith) passes))
    (λ late. ⊎_elim
    (λ passes_here. let first = ap (chosen_from len free) (passing_more test a n passes_here) ∙ chosen_late len free a _ late in
    subst (λ xs. Listed len xs p) (sym first) (⊎_elim
    (λ inside. inr (a, Contains-here a _, before, inside))
    (λ outside. Listed-tail len a _ p (chosen_others test len (a + len) (a + 1) n p outside (omega arith) (omega arith) passes))
    (cases_lt p (a + len))))
    (λ fails. subst (λ xs. Listed len xs p) (sym (ap (chosen_from len free) (passing_same test a n fails)))
    (chosen_others test len free (a + 1) n p behind (omega arith) (omega arith) passes))
    (cases_Bool (test a)))
    (cases_lt a free))
    (λ at. let here : a ≡ p = omega arith in
    let passes_here : test a ≡ true = ap test here ∙ passes in
    let rest = chosen_from len (a + len) (passing test (a + 1) n) in
    let head : Contains (a ∷ rest) p = (0, omega arith, here) in
    let first = ap (chosen_from len free) (passing_more test a n passes_here) ∙ chosen_late len free a _ (omega arith) in
    inl (subst (λ xs. Contains xs p) (sym first) head))
    (cases_lt a p)

-- every frame position from bit `free` on is accepted, or begins inside an accepted frame
pub accepted_others : (b : List ℕ) (w free p : ℕ) → free ≤ p → IsFramePosition b w p
    → Contains (accepted_from b w free) p ⊎ ((a : ℕ) × Contains (accepted_from b w free) a × (a < p) × (p < a + 48 * w))
unfolding Listed
accepted_others b w free p behind h =
    let within = frame_within b w p h in
    let some = some_words b w p h in
    subst (λ xs. Listed (48 * w) xs p) (sym (accepted_is_chosen b w free))
    (chosen_others (is_frame_position b w) (48 * w) free 0 (bits_in b) p behind (omega arith) (omega (arith, within)) h)

pub accepted_positions : (b : List ℕ) (w free : ℕ) → All (IsFramePosition b w) (accepted_from b w free)
unfolding accepted_from
accepted_positions b w free = chosen_all (IsFramePosition b w) (48 * w) free (frame_positions b w)
    (filter_passes (is_frame_position b w) (range_with_len 0 (bits_in b)))

pub accepted_behind : (b : List ℕ) (w free : ℕ) → All (λ x. free ≤ x) (accepted_from b w free)
unfolding accepted_from
accepted_behind b w free = chosen_behind (48 * w) free (frame_positions b w)

pub accepted_apart : (b : List ℕ) (w free : ℕ) → AllPairs (λ earlier later. earlier + 48 * w ≤ later) (accepted_from b w free)
unfolding accepted_from
accepted_apart b w free = chosen_apart (48 * w) free (frame_positions b w)

-- the function gives the accepted frames
pub are_accepted : (b : List ℕ) (w : ℕ) → AreAcceptedFrames b w (accepted_frames b w)
are_accepted b w = record {
  positions = accepted_positions b w 0;
  apart = accepted_apart b w 0;
  others =
      λ p h. accepted_others b w 0 p (omega arith) h;
}

-- a list that has each frame position from `free` on, or one that it begins inside of, is the accepted one from there
only_accepted_from : (b : List ℕ) (w : ℕ) (xs : List ℕ) (free : ℕ) → All (IsFramePosition b w) xs → All (λ x. free ≤ x) xs
    → AllPairs (λ earlier later. earlier + 48 * w ≤ later) xs → ((p : ℕ) → free ≤ p → IsFramePosition b w p → Listed (48 * w) xs p)
    → xs ≡ accepted_from b w free
unfolding Listed
only_accepted_from b w [] free positions behind apart others =
    sym (accepted_none b w free (λ q from h. ⊎_elim (λ here. Contains-nil q here) (λ inside. Contains-nil inside.0 inside.1) (others q from h)))
only_accepted_from b w (a ∷ xs) free positions behind apart others =
    let some = some_words b w a (All-head (IsFramePosition b w) a xs positions) in
    let R : ℕ → ℕ → Type 0 = λ earlier later. earlier + 48 * w ≤ later in
    let after : All (λ c. a + 48 * w ≤ c) xs = AllPairs-head R a xs apart in
    let least : All (λ c. a ≤ c) (a ∷ xs) = All-cons (λ c. a ≤ c) a xs (omega arith)
    (All-weaker (λ c. a + 48 * w ≤ c) (λ c. a ≤ c) (λ c h. omega arith) xs after) in
    let first : IsFirstFrameFrom b w free a = record {
      behind = All-head (λ x. free ≤ x) a xs behind;
      position = All-head (IsFramePosition b w) a xs positions;
      first = λ q from before h. ⊎_elim
          (λ here. let low : a ≤ q = All-contains (λ c. a ≤ c) (a ∷ xs) q least here in omega arith)
          (λ inside. let low : a ≤ inside.0 = All-contains (λ c. a ≤ c) (a ∷ xs) inside.0 least inside.1 in
          let high : inside.0 < q = inside.2 in omega arith)
          (others q from h);
    } in
    let rest : (p : ℕ) → a + 48 * w ≤ p → IsFramePosition b w p → Listed (48 * w) xs p = λ p from h. ⊎_elim
    (λ here. ⊎_elim (λ is. absurd (omega arith)) (λ there. inl there) (Contains-cons_cases a xs p here))
    (λ inside. ⊎_elim
    (λ is. let high : p < inside.0 + 48 * w = inside.3 in absurd (omega arith))
    (λ there. inr (inside.0, there, inside.2, inside.3))
    (Contains-cons_cases a xs inside.0 inside.1))
    (others p (omega (arith, first.behind)) h) in
    ap (λ ys. a ∷ ys) (only_accepted_from b w xs (a + 48 * w) (All-tail (IsFramePosition b w) a xs positions) after (AllPairs-tail R a xs apart) rest)
    ∙ sym (accepted_first b w free a some first)

-- no other list is one of accepted frames
pub only_accepted : (b : List ℕ) (w : ℕ) (xs : List ℕ) → AreAcceptedFrames b w xs → xs ≡ accepted_frames b w
unfolding Listed
only_accepted b w xs h = only_accepted_from b w xs 0 h.positions (λ k d within. omega arith) h.apart (λ p from at. h.others p at)
