-- Lists of accepted frames, from any bit on.
use Rattle.std.proofs.Common.{◌≡◌, ℕ, suc, zero, ◌+◌, ◌*◌, ◌<◌, ◌≤◌, Bool, true, false, leb, List, [], ◌∷◌, refl, sym, ap, ◌∙◌, ⊎_elim, arith}
use Rattle.std.specs.Prelude.{filter}
use Rattle.std.specs.List.{range_with_len}
use Rattle.std.proofs.lemmas.Bool.{cases_lt, cases_Bool, le-leb, lt-leb, cond-true, cond-false, false_from_ne_true}
use Rattle.fdr_bits.specs.Bits.{bits_in}
use Rattle.fdr_sync.specs.Frames.{is_frame_position, IsFirstFrameFrom, HasNoFrameFrom}
use Rattle.fdr_sync.specs.Accepted.{chosen_from, accepted_from}
use Rattle.fdr_sync.proofs.FrameLemmas.{frame_within}

-- the places from a on, n of them, that pass
pub passing : (ℕ → Bool) → ℕ → ℕ → List ℕ
passing test a n = filter test (range_with_len a n)

pub passing_none : (test : ℕ → Bool) (a : ℕ) → passing test a zero ≡ []
unfolding passing
passing_none test a = refl

pub passing_more : (test : ℕ → Bool) (a n : ℕ) → test a ≡ true → passing test a (suc n) ≡ a ∷ passing test (a + 1) n
unfolding passing
passing_more test a n passes = cond-true (test a) _ _ passes

pub passing_same : (test : ℕ → Bool) (a n : ℕ) → test a ≡ false → passing test a (suc n) ≡ passing test (a + 1) n
unfolding passing
passing_same test a n fails = cond-false (test a) _ _ fails

pub chosen_nil : (len free : ℕ) → chosen_from len free [] ≡ []
unfolding chosen_from
chosen_nil len free = refl

pub chosen_late : (len free p : ℕ) (ps : List ℕ) → free ≤ p → chosen_from len free (p ∷ ps) ≡ p ∷ chosen_from len (p + len) ps
unfolding chosen_from
chosen_late len free p ps late = cond-true (leb free p) _ _ (le-leb free p late)

pub chosen_early : (len free p : ℕ) (ps : List ℕ) → p < free → chosen_from len free (p ∷ ps) ≡ chosen_from len free ps
unfolding chosen_from
chosen_early len free p ps early = cond-false (leb free p) _ _ (lt-leb free p early)

-- a place before `free` is passed over
pub chosen_over : (test : ℕ → Bool) (len free a n : ℕ) → a < free
    → chosen_from len free (passing test a (suc n)) ≡ chosen_from len free (passing test (a + 1) n)
chosen_over test len free a n early =
    ⊎_elim (λ passes. ap (chosen_from len free) (passing_more test a n passes) ∙ chosen_early len free a _ early)
    (λ fails. ap (chosen_from len free) (passing_same test a n fails))
    (cases_Bool (test a))

-- so is one that passes only if it is before `free`
pub chosen_over_failing : (test : ℕ → Bool) (len free a n : ℕ) → (free ≤ a → test a ≡ true → ⊥)
    → chosen_from len free (passing test a (suc n)) ≡ chosen_from len free (passing test (a + 1) n)
chosen_over_failing test len free a n fails =
    ⊎_elim (λ early. chosen_over test len free a n early)
    (λ late. ap (chosen_from len free) (passing_same test a n (false_from_ne_true (test a) (fails late))))
    (cases_lt a free)

-- nothing is chosen where no place from free on passes
pub chosen_none : (test : ℕ → Bool) (len free a n : ℕ) → ((q : ℕ) → free ≤ q → test q ≡ true → ⊥) → chosen_from len free (passing test a n) ≡ []
chosen_none test len free a zero none = ap (chosen_from len free) (passing_none test a) ∙ chosen_nil len free
chosen_none test len free a (suc n) none = chosen_over_failing test len free a n (none a) ∙ chosen_none test len free (a + 1) n none

-- the first place from free on that passes is chosen, and then the search goes on len after it
pub chosen_first : (test : ℕ → Bool) (len free p a n : ℕ) → 0 < len → free ≤ p → a ≤ p → p < a + n → test p ≡ true
    → ((q : ℕ) → free ≤ q → q < p → test q ≡ true → ⊥) → chosen_from len free (passing test a n) ≡ p ∷ chosen_from len (p + len) (passing test a n)
chosen_first test len free p a zero some behind from below passes first = absurd (omega arith)
chosen_first test len free p a (suc n) some behind from below passes first =
    let after : chosen_from len (p + len) (passing test a (suc n)) ≡ chosen_from len (p + len) (passing test (a + 1) n) =
    chosen_over test len (p + len) a n (omega arith) in
    ⊎_elim
    (λ before. chosen_over_failing test len free a n (λ late. first a late before)
    ∙ chosen_first test len free p (a + 1) n some behind (omega arith) (omega arith) passes first ∙ ap (λ xs. p ∷ xs) (sym after))
    (λ at. let here : a ≡ p = omega arith in
    let passes_here : test a ≡ true = ap test here ∙ passes in
    ap (chosen_from len free) (passing_more test a n passes_here) ∙ chosen_late len free a _ (omega arith)
    ∙ ap (λ x. x ∷ chosen_from len (x + len) (passing test (a + 1) n)) here ∙ ap (λ xs. p ∷ xs) (sym after))
    (cases_lt a p)

pub accepted_is_chosen : (b : List ℕ) (w free : ℕ) → accepted_from b w free ≡ chosen_from (48 * w) free (passing (is_frame_position b w) 0 (bits_in b))
unfolding accepted_from passing
accepted_is_chosen b w free = refl

-- no frame is accepted where none is left
pub accepted_none : (b : List ℕ) (w free : ℕ) → HasNoFrameFrom b w free → accepted_from b w free ≡ []
accepted_none b w free none = accepted_is_chosen b w free ∙ chosen_none (is_frame_position b w) (48 * w) free 0 (bits_in b) none

-- the first frame position is accepted, and the search goes on after that frame
pub accepted_first : (b : List ℕ) (w free p : ℕ) → 0 < w → IsFirstFrameFrom b w free p → accepted_from b w free ≡ p ∷ accepted_from b w (p + 48 * w)
accepted_first b w free p some h =
    let within = frame_within b w p h.position in
    accepted_is_chosen b w free ∙ chosen_first (is_frame_position b w) (48 * w) free p 0 (bits_in b) (omega arith) h.behind (omega arith)
    (omega (arith, within)) h.position h.first ∙ ap (λ xs. p ∷ xs) (sym (accepted_is_chosen b w (p + 48 * w)))
