-- Searches through numbers in a row, and what is made of each.
use Rattle.std.proofs.Common.{◌≡◌, ◌⊎◌, ⊎_elim, inl, inr, ℕ, zero, suc, ◌+◌, ◌<◌, ◌≤◌, Bool, true, false, cond, [], ◌∷◌, Option, Some, None, refl, ap}
use Rattle.std.proofs.Common.{◌∙◌, subst, arith}
use Rattle.std.specs.List.{range_with_len, find}
use Rattle.std.specs.Option.{option_or}
use Rattle.std.proofs.lemmas.Bool.{cases_Bool, cases_lt, cond-false}
use Rattle.std.proofs.lemmas.List.Folds.{find-append}
use Rattle.fdr_lists.proofs.Ranges.{range_more}

pub find_nothing : (p : ℕ → Bool) (a n : ℕ) → ((i : ℕ) → a ≤ i → i < a + n → p i ≡ false) → find p (range_with_len a n) ≡ None
find_nothing p a zero none = refl
find_nothing p a (suc n) none =
    cond-false (p a) _ _ (none a (omega arith) (omega arith)) ∙ find_nothing p (a + 1) n (λ i low high. none i (omega arith) (omega arith))

first_or : (b : Bool) (x : ℕ) (o : Option ℕ) → cond b (Some x) o ≡ None → (b ≡ false) × (o ≡ None)
first_or true x o h = absurd (cc)
first_or false x o h = (refl, h)

here_or_later : (a i : ℕ) → a ≤ i → (a ≡ i) ⊎ (a + 1 ≤ i)
here_or_later a i low = ⊎_elim (λ later. inr (omega arith)) (λ none. inl (omega arith)) (cases_lt a i)

found_first : (b : Bool) (x : ℕ) (o : Option ℕ) (m : ℕ) → b ≡ true → cond b (Some x) o ≡ Some m → x ≡ m
found_first true x o m holds is = cc
found_first false x o m holds is = absurd (cc)

found_later : (b : Bool) (x : ℕ) (o : Option ℕ) (m : ℕ) → b ≡ false → cond b (Some x) o ≡ Some m → o ≡ Some m
found_later true x o m misses is = absurd (cc)
found_later false x o m misses is = is

pub nothing_found : (p : ℕ → Bool) (a n : ℕ) → find p (range_with_len a n) ≡ None → (i : ℕ) → a ≤ i → i < a + n → p i ≡ false
nothing_found p a zero none i low high = absurd (omega arith)
nothing_found p a (suc n) none i low high =
    let h = first_or (p a) a (find p (range_with_len (a + 1) n)) none in
    ⊎_elim
    (λ here. let e : a ≡ i = omega arith in subst (λ k. p k ≡ false) e h.0)
    (λ later. nothing_found p (a + 1) n h.1 i later (omega arith))
    (here_or_later a i low)

-- a found number is among them, and passes
pub found_within : (p : ℕ → Bool) (a n m : ℕ) → find p (range_with_len a n) ≡ Some m → (a ≤ m) × (m < a + n) × (p m ≡ true)
found_within p a zero m is = absurd (cc)
found_within p a (suc n) m is =
    ⊎_elim
    (λ holds. let e : a ≡ m = found_first (p a) a (find p (range_with_len (a + 1) n)) m holds is in
    (omega arith, omega arith, subst (λ k. p k ≡ true) e holds))
    (λ misses. let h = found_within p (a + 1) n m (found_later (p a) a (find p (range_with_len (a + 1) n)) m misses is) in
    (omega (arith, h.0), omega (arith, h.1), h.2))
    (cases_Bool (p a))

pub find-agree : (p q : ℕ → Bool) (a n : ℕ) → ((i : ℕ) → a ≤ i → i < a + n → p i ≡ q i) → find p (range_with_len a n) ≡ find q (range_with_len a n)
find-agree p q a zero same = refl
find-agree p q a (suc n) same =
    ap (λ b. cond b (Some a) (find p (range_with_len (a + 1) n))) (same a (omega arith) (omega arith))
    ∙ ap (λ o. cond (q a) (Some a) o) (find-agree p q (a + 1) n (λ i low high. same i (omega arith) (omega arith)))

pub find_more : (p : ℕ → Bool) (a n : ℕ) → find p (range_with_len a (n + 1)) ≡ option_or (find p (range_with_len a n)) (cond (p (a + n)) (Some (a + n)) None)
find_more p a n = ap (find p) (range_more a n) ∙ find-append p (range_with_len a n) ((a + n) ∷ [])
