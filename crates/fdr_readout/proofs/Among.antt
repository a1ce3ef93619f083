-- Lists that are left of others where some elements are taken out.
use Rattle.std.proofs.Common.{◌≡◌, Bool, true, false, List, [], ◌∷◌, map, Option, Some, None, refl, ap, inl, inr, ⊎_elim}
use Rattle.std.specs.Prelude.{All, filter}
use Rattle.std.specs.List.{filter_map}
use Rattle.std.proofs.lemmas.Bool.{cases_Bool}
use Rattle.std.proofs.lemmas.List.Elements.{All-head, All-tail}
use Rattle.fdr_readout.specs.Survival.{AreAmong}

-- one more element to be taken out, if there is one
among_more : {X : Type 0} (o : Option X) (xs : List X) (os : List (Option X)) → AreAmong xs (filter_map (λ (r : Option X). r) os)
    → AreAmong xs (filter_map (λ (r : Option X). r) (o ∷ os))
among_more None xs os among = among
among_more (Some y) [] os among = tt
among_more (Some y) (x ∷ xs) os among = inr among

-- Of the elements that pass a test each has its value: these values are among all that there are.
pub among_filtered : {X Y : Type 0} (p : X → Bool) (f : X → Option Y) (g : X → Y) (xs : List X) → All (λ x. p x ≡ true → f x ≡ Some (g x)) xs →
    AreAmong (map g (filter p xs)) (filter_map (λ (r : Option Y). r) (map f xs))
among_filtered p f g [] each = tt
among_filtered p f g (x ∷ xs) each =
    let rest = among_filtered p f g xs (All-tail (λ x. p x ≡ true → f x ≡ Some (g x)) x xs each) in
    ⊎_elim
    (λ (passes : p x ≡ true). rw (passes, All-head (λ x. p x ≡ true → f x ≡ Some (g x)) x xs each passes) (inl (refl, rest)))
    (λ (fails : p x ≡ false). rw fails (among_more (f x) (map g (filter p xs)) (map f xs) rest))
    (cases_Bool (p x))

-- the same of what a function makes of them
pub among_map : {X Y : Type 0} (f : X → Y) (xs ys : List X) → AreAmong xs ys → AreAmong (map f xs) (map f ys)
among_map f [] ys among = tt
among_map f (x ∷ xs) [] among = among
among_map f (x ∷ xs) (y ∷ ys) among =
    elim among [
      | inl here ↦ inl (ap f here.0, among_map f xs ys here.1)
      | inr rest ↦ inr (among_map f (x ∷ xs) ys rest)
    ]
