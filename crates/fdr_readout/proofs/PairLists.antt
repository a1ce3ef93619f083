-- What holds of each two elements of a list that was made in pieces.
use Rattle.std.proofs.Common.{◌≡◌, ℕ, ◌+◌, ◌<◌, ◌≤◌, ◌⊎◌, inl, inr, ⊎_elim, List, [], ◌∷◌, ◌++◌, Option, Some, None, get_or, map, sym, ap, ◌∙◌}
use Rattle.std.proofs.Common.{subst, arith}
use Rattle.std.specs.Prelude.{All, AllPairs, Contains, slice_get, length}
use Rattle.std.specs.List.{flat_map, filter_map, range_with_len, enumerate_from}
use Rattle.std.proofs.lemmas.Bool.{cases_order}
use Rattle.std.proofs.lemmas.Option.{slice_get-get_or, slice_get_within, get_or_from_slice_get, same_Some}
use Rattle.std.proofs.lemmas.List.FromFn.{length-range_with_len, get_or-range_with_len, length-enumerate_from, get_or-enumerate_from}
use Rattle.std.proofs.lemmas.List.Elements.{All-nil, All-cons, All-head, All-tail, All-append, All-map, All-weaker}
use Rattle.std.proofs.lemmas.List.Kept.{AllPairs-cons}
use Rattle.fdr_lists.proofs.Options.{some_or_none}
use Rattle.fdr_lists.proofs.Pairs.{AllPairs-nil, AllPairs-head, AllPairs-tail}
use Rattle.fdr_lists.proofs.Pieces.{All-flat_map}

pub AllPairs-weaker : {X : Type 0} (R S : X → X → Type 0) (xs : List X) → ((x y : X) → R x y → S x y) → AllPairs R xs → AllPairs S xs
AllPairs-weaker R S xs weaker pairs i j d before within = weaker (get_or xs i d) (get_or xs j d) (pairs i j d before within)

AllPairs-append : {X : Type 0} (R : X → X → Type 0) (xs ys : List X) → AllPairs R xs → AllPairs R ys → All (λ x. All (R x) ys) xs → AllPairs R (xs ++ ys)
AllPairs-append R [] ys first second cross = second
AllPairs-append R (x ∷ xs) ys first second cross =
    AllPairs-cons R x (xs ++ ys)
    (All-append (R x) xs ys (AllPairs-head R x xs first) (All-head (λ u. All (R u) ys) x xs cross))
    (AllPairs-append R xs ys (AllPairs-tail R x xs first) second (All-tail (λ u. All (R u) ys) x xs cross))

pub AllPairs-map : {X Y : Type 0} (R : Y → Y → Type 0) (f : X → Y) (xs : List X) → AllPairs (λ x y. R (f x) (f y)) xs → AllPairs R (map f xs)
AllPairs-map R f [] pairs = AllPairs-nil R
AllPairs-map R f (x ∷ xs) pairs =
    AllPairs-cons R (f x) (map f xs)
    (All-map (R (f x)) f xs (AllPairs-head (λ x y. R (f x) (f y)) x xs pairs))
    (AllPairs-map R f xs (AllPairs-tail (λ x y. R (f x) (f y)) x xs pairs))

-- the elements of each piece, and those of each two pieces
pub AllPairs-flat_map : {X Y : Type 0} (R : Y → Y → Type 0) (f : X → List Y) (xs : List X) → All (λ x. AllPairs R (f x)) xs →
    AllPairs (λ x y. All (λ u. All (R u) (f y)) (f x)) xs → AllPairs R (flat_map f xs)
AllPairs-flat_map R f [] each cross = AllPairs-nil R
AllPairs-flat_map R f (x ∷ xs) each cross =
    AllPairs-append R (f x) (flat_map f xs) (All-head (λ x. AllPairs R (f x)) x xs each)
    (AllPairs-flat_map R f xs (All-tail (λ x. AllPairs R (f x)) x xs each) (AllPairs-tail (λ x y. All (λ u. All (R u) (f y)) (f x)) x xs cross))
    (λ k d within. All-flat_map (R (get_or (f x) k d)) f xs
    (All-weaker (λ y. All (λ u. All (R u) (f y)) (f x)) (λ y. All (R (get_or (f x) k d)) (f y)) (λ y here. here k d within) xs
    (AllPairs-head (λ x y. All (λ u. All (R u) (f y)) (f x)) x xs cross)))

pub AllPairs_range : (R : ℕ → ℕ → Type 0) (a n : ℕ) → ((x y : ℕ) → a ≤ x → x < y → y < a + n → R x y) → AllPairs R (range_with_len a n)
AllPairs_range R a n each i j d before within =
    let long : j < n = omega (arith, length-range_with_len a n) in
    rw (get_or-range_with_len a n i d (omega arith), get_or-range_with_len a n j d long) (each (a + i) (a + j) (omega arith) (omega arith) (omega arith))

-- numbers go up
pub AllPairs_enumerate : {X : Type 0} (n : ℕ) (xs : List X) → AllPairs (λ (e e' : ℕ × X). e.0 < e'.0) (enumerate_from n xs)
AllPairs_enumerate {X} n xs i j d before within =
    let long : j < length xs = omega (arith, length-enumerate_from n xs) in
    rw (get_or-enumerate_from n xs i d (omega arith), get_or-enumerate_from n xs j d long) (omega arith)

-- ---- elements of a list

pub All-at : {X : Type 0} (P : X → Type 0) (xs : List X) (n : ℕ) (x : X) → All P xs → slice_get xs n ≡ Some x → P x
All-at P xs n x all got = subst P (get_or_from_slice_get xs n x x got) (all n x (slice_get_within xs n x got))

pub contained_get : {X : Type 0} (xs : List X) (x : X) (at : Contains xs x) → slice_get xs at.0 ≡ Some x
contained_get xs x at = slice_get-get_or xs at.0 x at.1 ∙ ap Some at.2

two_of : {X : Type 0} (R : X → X → Type 0) (xs : List X) (i j : ℕ) (x y : X) → AllPairs R xs → i < j → slice_get xs i ≡ Some x → slice_get xs j ≡ Some y → R x y
two_of R xs i j x y pairs before at_i at_j =
    subst (R x) (get_or_from_slice_get xs j y x at_j)
    (subst (λ u. R u (get_or xs j x)) (get_or_from_slice_get xs i x x at_i) (pairs i j x before (slice_get_within xs j y at_j)))

-- two elements are at the same place or related, where the order doesn't matter
pub same_place_or_related : {X : Type 0} (R : X → X → Type 0) (xs : List X) (i j : ℕ) (x y : X) → ((u v : X) → R u v → R v u) → AllPairs R xs
    → slice_get xs i ≡ Some x → slice_get xs j ≡ Some y → (i ≡ j) ⊎ R x y
same_place_or_related R xs i j x y turn pairs at_i at_j =
    ⊎_elim (λ same. inl same) (λ other. inr (⊎_elim
    (λ (before : i < j). two_of R xs i j x y pairs before at_i at_j)
    (λ (after : j < i). turn y x (two_of R xs j i y x pairs after at_j at_i))
    other)) (cases_order i j)

pub same_or_related : {X : Type 0} (R : X → X → Type 0) (xs : List X) (x y : X) → ((u v : X) → R u v → R v u) → AllPairs R xs → Contains xs x → Contains xs y
    → (y ≡ x) ⊎ R x y
same_or_related R xs x y turn pairs at_x at_y =
    let is_x = contained_get xs x at_x in
    let is_y = contained_get xs y at_y in
    ⊎_elim (λ (same : at_x.0 ≡ at_y.0). inl (same_Some y x (sym is_y ∙ ap (slice_get xs) (sym same) ∙ is_x))) (λ related. inr related)
    (same_place_or_related R xs at_x.0 at_y.0 x y turn pairs is_x is_y)

-- what holds of each value that comes of an element
pub All_filter_map : {X Y : Type 0} (P : Y → Type 0) (h : X → Option Y) (xs : List X) → All (λ x. (y : Y) → h x ≡ Some y → P y) xs → All P (filter_map h xs)
All_filter_map P h [] each = All-nil P
All_filter_map {X} {Y} P h (x ∷ xs) each =
    let rest = All_filter_map P h xs (All-tail (λ x. (y : Y) → h x ≡ Some y → P y) x xs each) in
    ⊎_elim
    (λ (none : h x ≡ None). rw none rest)
    (λ (some : (y : Y) × (h x ≡ Some y)). rw some.1 (All-cons P some.0 (filter_map h xs) (All-head (λ x. (y : Y) → h x ≡ Some y → P y) x xs each some.0 some.1)
    rest))
    (some_or_none (h x))
