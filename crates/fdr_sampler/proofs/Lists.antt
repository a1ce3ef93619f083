-- What lists contain, and what a search finds in them.
use Rattle.std.proofs.Common.{◌≡◌, ℕ, zero, suc, ◌+◌, ◌-◌, ◌<◌, ◌≤◌, Bool, true, List, [], ◌∷◌, Some, map, length, get_or, reverse, sym, ap, ◌∙◌, subst}
use Rattle.std.proofs.Common.{⊎_elim, arith, zero-add}
use Rattle.std.specs.List.{All, Contains, filter, flat_map, range_with_len, enumerate_from, slice_get}
use Rattle.std.proofs.lemmas.Bool.{cases_Bool, cond-true, cond-false}
use Rattle.std.proofs.lemmas.List.{length-map, length-reverse, get_or-map, get_or-reverse}
use Rattle.std.proofs.lemmas.List.Elements.{Contains-append_left, Contains-append_right}
use Rattle.std.proofs.lemmas.List.FromFn.{length-range_with_len, get_or-range_with_len, length-enumerate_from, get_or-enumerate_from}
use Rattle.std.proofs.lemmas.Option.{slice_get_within, get_or_from_slice_get}
use Rattle.fdr_lists.proofs.Pairs.{Contains-here}

pub Contains-there : {X : Type 0} (x y : X) (xs : List X) → Contains xs x → Contains (y ∷ xs) x
Contains-there x y xs h = (suc h.0, omega (arith, h.1), h.2)

pub Contains-map : {X Y : Type 0} (f : X → Y) (xs : List X) (x : X) → Contains xs x → Contains (map f xs) (f x)
Contains-map f xs x h = (h.0, omega (arith, h.1, length-map xs f), get_or-map f xs h.0 x (f x) h.1 ∙ ap f h.2)

contains_filter_at : {X : Type 0} (p : X → Bool) (xs : List X) (x : X) (k : ℕ) → p x ≡ true → k < length xs → get_or xs k x ≡ x → Contains (filter p xs) x
contains_filter_at p [] x k holds l is = absurd (omega arith)
contains_filter_at p (y ∷ xs) x zero holds l is =
    let P : List _ → Type 0 = λ ys. Contains ys x in
    let Q : _ → Type 0 = λ z. Contains (z ∷ filter p xs) x in
    subst P (sym (cond-true _ _ _ (ap p is ∙ holds))) (subst Q (sym is) (Contains-here x (filter p xs)))
contains_filter_at p (y ∷ xs) x (suc k) holds l is =
    let P : List _ → Type 0 = λ ys. Contains ys x in
    let rest = contains_filter_at p xs x k holds (omega arith) is in
    ⊎_elim
    (λ kept. subst P (sym (cond-true _ _ _ kept)) (Contains-there x y (filter p xs) rest))
    (λ dropped. subst P (sym (cond-false _ _ _ dropped)) rest)
    (cases_Bool (p y))

pub Contains-filter : {X : Type 0} (p : X → Bool) (xs : List X) (x : X) → p x ≡ true → Contains xs x → Contains (filter p xs) x
Contains-filter p xs x holds h = contains_filter_at p xs x h.0 holds h.1 h.2

contains_flat_map_at : {X A : Type 0} (f : X → List A) (xs : List X) (x : X) (a : A) (k : ℕ) → k < length xs → get_or xs k x ≡ x → Contains (f x) a
    → Contains (flat_map f xs) a
contains_flat_map_at f [] x a k l is h = absurd (omega arith)
contains_flat_map_at f (y ∷ xs) x a zero l is h =
    let P : _ → Type 0 = λ z. Contains (f z) a in
    Contains-append_left (f y) (flat_map f xs) a (subst P (sym is) h)
contains_flat_map_at f (y ∷ xs) x a (suc k) l is h = Contains-append_right (f y) (flat_map f xs) a (contains_flat_map_at f xs x a k (omega arith) is h)

pub Contains-flat_map : {X A : Type 0} (f : X → List A) (xs : List X) (x : X) (a : A) → Contains xs x → Contains (f x) a → Contains (flat_map f xs) a
Contains-flat_map f xs x a at h = contains_flat_map_at f xs x a at.0 at.1 at.2 h

pub Contains-range : (a n x : ℕ) → a ≤ x → x < a + n → Contains (range_with_len a n) x
Contains-range a n x low high =
    let i : x - a < n = omega arith in
    let is : a + (x - a) ≡ x = omega arith in
    (x - a, omega (arith, length-range_with_len a n), get_or-range_with_len a n (x - a) x i ∙ is)

pub Contains-enumerate : {X : Type 0} (xs : List X) (n : ℕ) (x : X) → slice_get xs n ≡ Some x → Contains (enumerate_from 0 xs) (n, x)
Contains-enumerate xs n x got =
    let l = slice_get_within xs n x got in (
      n,
      omega (arith, length-enumerate_from 0 xs),
      get_or-enumerate_from 0 xs n (n, x) l ∙ ap (λ m. (m, get_or xs n x)) (zero-add n)
          ∙ ap (λ y. (n, y)) (get_or_from_slice_get xs n x x got),
    )

pub All-reverse : {X : Type 0} (P : X → Type 0) (xs : List X) → All P xs → All P (reverse xs)
All-reverse P xs all = λ k d l.
    let within : k < length xs = omega (arith, length-reverse xs) in
    subst P (sym (get_or-reverse xs k d within)) (all (length xs - 1 - k) d (omega arith))
