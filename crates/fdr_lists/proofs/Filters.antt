-- What is kept of a list, and equal lists of what is made of its elements.
use Rattle.std.proofs.Common.{◌≡◌, ℕ, ◌+◌, ◌≤◌, Bool, true, false, List, [], ◌∷◌, Option, Some, None, length, map, refl, ap, ◌∙◌, ⊎_elim, arith}
use Rattle.std.specs.List.{filter, filter_map, cons_option, list_all, All}
use Rattle.std.specs.Prelude.{◌&&◌}
use Rattle.std.proofs.lemmas.Bool.{cases_Bool, both_ways, false_from_ne_true}
use Rattle.std.proofs.lemmas.List.Elements.{All-head, All-tail}

-- a filter that keeps less needs no filter before it
pub filter_of_filter : {X : Type 0} (p q : X → Bool) → ((x : X) → p x ≡ true → q x ≡ true) → (xs : List X) → filter p (filter q xs) ≡ filter p xs
filter_of_filter p q less [] = refl
filter_of_filter p q less (x ∷ xs) =
    let rest = filter_of_filter p q less xs in
    let kept : q x ≡ true → filter p (filter q (x ∷ xs)) ≡ filter p (x ∷ xs) = λ yes. rw yes (rw rest refl) in
    let dropped : q x ≡ false → filter p (filter q (x ∷ xs)) ≡ filter p (x ∷ xs) = λ no.
    let out : p x ≡ false = false_from_ne_true (p x) (λ yes. both_ways (q x) no (less x yes)) in
    rw (no, out) rest in
    ⊎_elim kept dropped (cases_Bool (q x))

pub filter_none : {X : Type 0} (f : X → Bool) (xs : List X) → All (λ x. f x ≡ false) xs → filter f xs ≡ []
filter_none f [] none = refl
filter_none f (x ∷ xs) none = rw (All-head (λ y. f y ≡ false) x xs none) (filter_none f xs (All-tail (λ y. f y ≡ false) x xs none))

pub map-agree : {X Y : Type 0} (f g : X → Y) (xs : List X) → All (λ x. f x ≡ g x) xs → map f xs ≡ map g xs
map-agree f g [] same = refl
map-agree f g (x ∷ xs) same =
    ap (λ y. y ∷ map f xs) (All-head (λ z. f z ≡ g z) x xs same) ∙ ap (λ ys. g x ∷ ys) (map-agree f g xs (All-tail (λ z. f z ≡ g z) x xs same))

pub list_all_same : {X : Type 0} (t u : X → Bool) (xs : List X) → ((x : X) → t x ≡ u x) → list_all t xs ≡ list_all u xs
list_all_same t u [] same = refl
list_all_same t u (x ∷ xs) same = ap (λ b. b && list_all t xs) (same x) ∙ ap (λ b. u x && b) (list_all_same t u xs same)

added_fewer : {Y : Type 0} (o : Option Y) (ys : List Y) (n : ℕ) → length ys ≤ n → length (cons_option o ys) ≤ n + 1
added_fewer None ys n few = omega arith
added_fewer (Some y) ys n few = omega arith

-- no more are made of a list than it has
pub filter_map_fewer : {X Y : Type 0} (h : X → Option Y) (xs : List X) → length (filter_map h xs) ≤ length xs
filter_map_fewer h [] = omega arith
filter_map_fewer h (x ∷ xs) = let one = added_fewer (h x) (filter_map h xs) (length xs) (filter_map_fewer h xs) in omega (arith, one)
