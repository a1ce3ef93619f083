-- The greatest and the least of values.
use Rattle.std.proofs.Common.{◌≡◌, ◌∙◌, ap, sym, refl, subst, ◌≤◌, Bool, true, false, cond, ◌&&◌, List, [], ◌∷◌, map, Option, Some, arith}
use Rattle.std.specs.Prelude.{ℤ, pos, neg_ℤ, ◌+ℤ◌, ◌-ℤ◌, All, slice_get, unwrap_or, length}
use Rattle.std.specs.Int.{int_max, int_min}
use Rattle.std.specs.List.{list_all, fold}
use Rattle.std.proofs.lemmas.Int.{ints}
use Rattle.std.proofs.lemmas.List.Elements.{All-head, All-tail}
use Rattle.fdr_exceed.specs.Exceedances.{highest, lowest, spread}
use mir.Syntax.{w64}
use mir.Val.{SFits}
use Rattle.fdr_exceed.specs.Windows.{IsWatched, is_at_most, unsurpassed}

max_assoc : (x y z : ℤ) → int_max (int_max x y) z ≡ int_max x (int_max y z)
max_assoc x y z = grind (arith, ints)

min_assoc : (x y z : ℤ) → int_min (int_min x y) z ≡ int_min x (int_min y z)
min_assoc x y z = grind (arith, ints)

max_fold : (x y : ℤ) (ys : List ℤ) → fold int_max (int_max x y) ys ≡ int_max x (fold int_max y ys)
max_fold x y [] = refl
max_fold x y (z ∷ zs) = ap (λ m. fold int_max m zs) (max_assoc x y z) ∙ max_fold x (int_max y z) zs

min_fold : (x y : ℤ) (ys : List ℤ) → fold int_min (int_min x y) ys ≡ int_min x (fold int_min y ys)
min_fold x y [] = refl
min_fold x y (z ∷ zs) = ap (λ m. fold int_min m zs) (min_assoc x y z) ∙ min_fold x (int_min y z) zs

-- one value more in front
pub greatest-cons : (x y : ℤ) (ys : List ℤ) → highest (x ∷ y ∷ ys) ≡ int_max x (highest (y ∷ ys))
greatest-cons x y ys = max_fold x y ys

pub least-cons : (x y : ℤ) (ys : List ℤ) → lowest (x ∷ y ∷ ys) ≡ int_min x (lowest (y ∷ ys))
least-cons x y ys = min_fold x y ys

max_comm : (x y : ℤ) → int_max x y ≡ int_max y x
max_comm x y = grind (arith, ints)

min_comm : (x y : ℤ) → int_min x y ≡ int_min y x
min_comm x y = grind (arith, ints)

both_at_most : (x a b : ℤ) → (is_at_most x a && is_at_most x b) ≡ is_at_most x (int_max a b)
both_at_most x a b = grind (arith, ints)

and_true : (b : Bool) → (b && true) ≡ b
and_true true = refl
and_true false = refl

-- no value is over x exactly where the greatest isn't
pub all-at_most : (x y : ℤ) (ys : List ℤ) → list_all (is_at_most x) (y ∷ ys) ≡ is_at_most x (highest (y ∷ ys))
all-at_most x y [] = and_true (is_at_most x y)
all-at_most x y (z ∷ zs) =
    ap (λ b. is_at_most x y && b) (all-at_most x z zs) ∙ both_at_most x y (highest (z ∷ zs)) ∙ ap (is_at_most x) (sym (greatest-cons y z zs))

max_first : (y g : ℤ) → is_at_most y g ≡ true → y ≡ int_max y g
max_first y g low = grind (arith, ints)

max_second : (y g : ℤ) → is_at_most y g ≡ false → g ≡ int_max y g
max_second y g over = grind (arith, ints)

front_by : (a : Bool) (y g : ℤ) (u : List ℤ) → is_at_most y g ≡ a → slice_get u 0 ≡ Some g → slice_get (cond a (y ∷ u) u) 0 ≡ Some (int_max y g)
front_by true y g u over here = ap Some (max_first y g over)
front_by false y g u over here = here ∙ ap Some (max_second y g over)

-- the first of the values that no later one is over is the greatest
pub front-greatest : (y : ℤ) (ys : List ℤ) → slice_get (unsurpassed (y ∷ ys)) 0 ≡ Some (highest (y ∷ ys))
front-greatest y [] = refl
front-greatest y (z ∷ zs) =
    front_by (list_all (is_at_most y) (z ∷ zs)) y (highest (z ∷ zs)) (unsurpassed (z ∷ zs)) (sym (all-at_most y z zs)) (front-greatest z zs)
    ∙ ap Some (sym (greatest-cons y z zs))

-- the other sign
max_neg : (x y : ℤ) → int_max (neg_ℤ x) (neg_ℤ y) ≡ neg_ℤ (int_min x y)
max_neg x y = grind (arith, ints)

greatest_neg : (x : ℤ) (xs : List ℤ) → fold int_max (neg_ℤ x) (map neg_ℤ xs) ≡ neg_ℤ (fold int_min x xs)
greatest_neg x [] = refl
greatest_neg x (y ∷ ys) = ap (λ m. fold int_max m (map neg_ℤ ys)) (max_neg x y) ∙ greatest_neg (int_min x y) ys

less_is : (a b : ℤ) → a +ℤ neg_ℤ b ≡ a -ℤ b
less_is a b = omega (arith, ints)

pub spread-signs : (xs : List ℤ) → highest xs +ℤ highest (map neg_ℤ xs) ≡ spread xs
unfolding spread
spread-signs [] = refl
spread-signs (x ∷ xs) = ap (λ n. highest (x ∷ xs) +ℤ n) (greatest_neg x xs) ∙ less_is (highest (x ∷ xs)) (lowest (x ∷ xs))

watched_max : (x y : ℤ) → IsWatched x → IsWatched y → IsWatched (int_max x y)
watched_max x y first second = record { low = grind (arith, ints, first.low, second.low); high = grind (arith, ints, first.high, second.high) }

pub watched-greatest : (x : ℤ) (xs : List ℤ) → All IsWatched (x ∷ xs) → IsWatched (highest (x ∷ xs))
watched-greatest x [] watched = All-head IsWatched x [] watched
watched-greatest x (y ∷ ys) watched =
    subst IsWatched (sym (greatest-cons x y ys))
    (watched_max x (highest (y ∷ ys)) (All-head IsWatched x (y ∷ ys) watched) (watched-greatest y ys (All-tail IsWatched x (y ∷ ys) watched)))

pub watched-neg : (x : ℤ) → IsWatched x → IsWatched (neg_ℤ x)
watched-neg x watched = record { low = omega (arith, ints, watched.high); high = omega (arith, ints, watched.low) }

-- the front of the values that no later one is over, or 0
pub front-read : (xs : List ℤ) → 1 ≤ length xs → unwrap_or (slice_get (unsurpassed xs) 0) (pos 0) ≡ highest xs
front-read [] some = absurd (omega arith)
front-read (x ∷ xs) some = ap (λ (o : Option ℤ). unwrap_or o (pos 0)) (front-greatest x xs)

nothing_watched : IsWatched (pos 0)
nothing_watched = record { low = omega (arith, ints); high = omega (arith, ints) }

pub front-watched : (xs : List ℤ) → All IsWatched xs → IsWatched (unwrap_or (slice_get (unsurpassed xs) 0) (pos 0))
front-watched [] watched = nothing_watched
front-watched (x ∷ xs) watched =
    subst IsWatched (sym (ap (λ (o : Option ℤ). unwrap_or o (pos 0)) (front-greatest x xs))) (watched-greatest x xs watched)

pub watched-fits : (x : ℤ) → IsWatched x → SFits w64 x
watched-fits x watched = omega (arith, ints, watched.low, watched.high)
