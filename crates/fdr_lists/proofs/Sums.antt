-- Equal sums over a list.
use Rattle.std.proofs.Common.{◌≡◌, ℕ, ◌+◌, Bool, true, false, cond, List, [], ◌∷◌, get_or, refl, sym, zero-add, arith}
use Rattle.std.specs.List.{sum_by, filter, All}
use Rattle.std.proofs.lemmas.List.Elements.{All-head, All-tail}
use Rattle.std.proofs.lemmas.List.Sums.{sum_by-cons}

pub sum_by-agree : {X : Type 0} (f g : X → ℕ) (xs : List X) → All (λ x. f x ≡ g x) xs → sum_by f xs ≡ sum_by g xs
sum_by-agree f g [] same = refl
sum_by-agree f g (x ∷ xs) same =
    let here : f x ≡ g x = All-head (λ y. f y ≡ g y) x xs same in
    let rest = sum_by-agree f g xs (All-tail (λ y. f y ≡ g y) x xs same) in
    omega (arith, sum_by-cons f x xs, sum_by-cons g x xs, here, rest)

pub sum_by_same : {X : Type 0} (f g : X → ℕ) (xs : List X) → ((x : X) → f x ≡ g x) → sum_by f xs ≡ sum_by g xs
sum_by_same f g xs same = sum_by-agree f g xs (λ k d within. same (get_or xs k d))

sum_one : {X : Type 0} (f : X → ℕ) (b : Bool) (x : X) (kept : List X) → sum_by f (cond b (x ∷ kept) kept) ≡ cond b (f x) 0 + sum_by f kept
sum_one f true x kept = sum_by-cons f x kept
sum_one f false x kept = sym (zero-add (sum_by f kept))

pub sum_by-filter : {X : Type 0} (f : X → ℕ) (t : X → Bool) (xs : List X) → sum_by f (filter t xs) ≡ sum_by (λ x. cond (t x) (f x) 0) xs
sum_by-filter f t [] = refl
sum_by-filter f t (x ∷ xs) = let rest = sum_by-filter f t xs in omega (arith, sum_one f (t x) x (filter t xs), sum_by-cons (λ x. cond (t x) (f x) 0) x xs)
