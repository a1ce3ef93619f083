-- Numbers in a row: one more of them, and what holds of each.
use Rattle.std.proofs.Common.{◌≡◌, ℕ, zero, suc, ◌+◌, ◌<◌, ◌≤◌, Bool, true, [], ◌∷◌, ◌++◌, map, refl, ap, ◌∙◌, add-one, arith}
use Rattle.std.specs.List.{range_with_len, list_all, All}
use Rattle.std.proofs.lemmas.Bool.{and_from}
use Rattle.std.proofs.lemmas.List.Elements.{All-nil, All-cons}

pub range_suc : (a n : ℕ) → range_with_len a (suc n) ≡ range_with_len a n ++ (a + n) ∷ []
range_suc a zero = let e : a ≡ a + zero = omega arith in ap (λ x. x ∷ []) e
range_suc a (suc n) =
    let e : a + 1 + n ≡ a + suc n = omega arith in
    ap (λ xs. a ∷ xs) (range_suc (a + 1) n ∙ ap (λ x. range_with_len (a + 1) n ++ x ∷ []) e)

pub range_more : (a n : ℕ) → range_with_len a (n + 1) ≡ range_with_len a n ++ (a + n) ∷ []
range_more a n = rw add-one (range_suc a n)

pub map-range-agree : {X : Type 0} (f g : ℕ → X) (a n : ℕ) → ((i : ℕ) → a ≤ i → i < a + n → f i ≡ g i)
    → map f (range_with_len a n) ≡ map g (range_with_len a n)
map-range-agree f g a zero same = refl
map-range-agree {X = X} f g a (suc n) same =
    ap (λ x. x ∷ map f (range_with_len (a + 1) n)) (same a (omega arith) (omega arith))
    ∙ ap (λ xs. g a ∷ xs) (map-range-agree f g (a + 1) n (λ i low high. same i (omega arith) (omega arith)))

pub list_all-range : (p : ℕ → Bool) (a n : ℕ) → ((e : ℕ) → a ≤ e → e < a + n → p e ≡ true) → list_all p (range_with_len a n) ≡ true
list_all-range p a zero each = refl
list_all-range p a (suc n) each =
    and_from (p a) (list_all p (range_with_len (a + 1) n)) (each a (omega arith) (omega arith))
    (list_all-range p (a + 1) n (λ e low high. each e (omega arith) (omega arith)))

pub All-range : (P : ℕ → Type 0) (a n : ℕ) → ((x : ℕ) → a ≤ x → x < a + n → P x) → All P (range_with_len a n)
All-range P a zero each = All-nil P
All-range P a (suc n) each =
    All-cons P a (range_with_len (a + 1) n) (each a (omega arith) (omega arith)) (All-range P (a + 1) n (λ x low high. each x (omega arith) (omega arith)))
