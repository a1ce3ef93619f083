-- How often places occur in a superframe.
use Rattle.std.proofs.Common.{◌≡◌, ℕ, ◌+◌, ◌*◌, ◌<◌, ◌≤◌, ◌==◌, Bool, true, false, cond, List, [], ◌∷◌, length, get_or, take, max, refl, ap, sym, ◌∙◌, zero}
use Rattle.std.proofs.Common.{suc, arith}
use Rattle.std.specs.List.{range_with_len, count_by, sum_by, filter, list_all, fold}
use Rattle.std.proofs.lemmas.List.{length-map}
use Rattle.std.proofs.lemmas.List.Concat.{length-flat_map}
use Rattle.std.proofs.lemmas.List.Elements.{filter_more}
use Rattle.std.proofs.lemmas.List.Folds.{list_all_at}
use Rattle.std.proofs.lemmas.List.Sums.{sum_by-cons, sum_by-append, length-filter, fold-append, sum_by-take-le, sum_by_more}
use Rattle.fdr_table.specs.Rows.{PlaceRow}
use Rattle.fdr_check.specs.Occurrences.{frame_bits, begins_at, occurrences_at, occurrences, is_part, part_occurrences}
use Rattle.fdr_check.specs.Faults.{count_of, last_part}
use Rattle.fdr_check.specs.Walks.{starts_of}
use Rattle.fdr_lists.proofs.Sums.{sum_by_same}

sum_by_add : {X : Type 0} (f g : X → ℕ) (xs : List X) → sum_by (λ x. f x + g x) xs ≡ sum_by f xs + sum_by g xs
sum_by_add f g [] = refl
sum_by_add f g (x ∷ xs) =
    let rest = sum_by_add f g xs in
    omega (arith, sum_by-cons (λ x. f x + g x) x xs, sum_by-cons f x xs, sum_by-cons g x xs)

sum_by_none : {X : Type 0} (xs : List X) → sum_by (λ (x : X). 0) xs ≡ 0
sum_by_none [] = refl
sum_by_none {X} (x ∷ xs) = let rest = sum_by_none xs in omega (arith, sum_by-cons (λ (x : X). 0) x xs)

-- a sum over rows and columns
pub sum_turned : {X Y : Type 0} (g : X → Y → ℕ) (xs : List X) (ys : List Y) → sum_by (λ x. sum_by (g x) ys) xs ≡ sum_by (λ y. sum_by (λ x. g x y) xs) ys
sum_turned g xs [] = sum_by_none xs
sum_turned g xs (y ∷ ys) =
    sum_by_same (λ x. sum_by (g x) (y ∷ ys)) (λ x. g x y + sum_by (g x) ys) xs (λ x. sum_by-cons (g x) y ys)
    ∙ sum_by_add (λ x. g x y) (λ x. sum_by (g x) ys) xs
    ∙ ap (λ n. sum_by (λ x. g x y) xs + n) (sum_turned g xs ys)
    ∙ sym (sum_by-cons (λ y. sum_by (λ x. g x y) xs) y ys)

pub length_at : (w : ℕ) (places : List PlaceRow) (x : ℕ) → length (occurrences_at w places x) ≡ count_by (begins_at w x) places
length_at w places x = simp length-map (length-filter (begins_at w x) places)

-- all places together occur as often as each does
pub length_occurrences : (w : ℕ) (places : List PlaceRow) → length (occurrences w places) ≡ sum_by (starts_of w) places
unfolding occurrences
length_occurrences w places =
    let e : 16 * frame_bits w ≡ 768 * w = omega arith in
    length-flat_map (occurrences_at w places) (range_with_len 0 (16 * frame_bits w))
    ∙ sum_by_same (λ x. length (occurrences_at w places x)) (λ x. count_by (begins_at w x) places) (range_with_len 0 (16 * frame_bits w)) (length_at w places)
    ∙ sum_turned (λ x p. cond (begins_at w x p) 1 0) (range_with_len 0 (16 * frame_bits w)) places
    ∙ ap (λ n. sum_by (λ (p : PlaceRow). count_by (λ x. begins_at w x p) (range_with_len 0 n)) places) e

pub occurrences_more : (w : ℕ) (places : List PlaceRow) (i : ℕ) (p : PlaceRow) → i < length places → p ≡ get_or places i p
    → length (occurrences w (take (i + 1) places)) ≡ length (occurrences w (take i places)) + starts_of w p
occurrences_more w places i p l is =
    length_occurrences w (take (i + 1) places) ∙ sum_by_more (starts_of w) places i p l
    ∙ ap (λ n. n + starts_of w (get_or places i p)) (sym (length_occurrences w (take i places)))
    ∙ ap (λ q. length (occurrences w (take i places)) + starts_of w q) (sym is)

pub occurrences_take : (w : ℕ) (places : List PlaceRow) (i : ℕ) → length (occurrences w (take i places)) ≤ length (occurrences w places)
occurrences_take w places i =
    omega (arith, length_occurrences w (take i places), length_occurrences w places, sum_by-take-le (starts_of w) places i)

pub no_occurrences : (w : ℕ) → length (occurrences w []) ≡ 0
no_occurrences w = length_occurrences w []

sum_of_one : {X : Type 0} (f : X → ℕ) (b : Bool) (x : X) → sum_by f (cond b (x ∷ []) []) ≡ cond b (f x) 0
sum_of_one f true x = omega (arith, sum_by-cons f x [])
sum_of_one f false x = refl

pub count_more_place : (w : ℕ) (places : List PlaceRow) (n part i : ℕ) (d : PlaceRow) (more : ℕ) → i < length places → d ≡ get_or places i d
    → more ≡ cond (is_part n part d) (starts_of w d) 0 → count_of w (take (i + 1) places) n part ≡ count_of w (take i places) n part + more
unfolding part_occurrences
count_more_place w places n part i d more l is more_is =
    let t = is_part n part in
    let p = get_or places i d in
    let before = filter t (take i places) in
    length_occurrences w (filter t (take (i + 1) places))
    ∙ ap (sum_by (starts_of w)) (filter_more t places i d l)
    ∙ sum_by-append (starts_of w) before (cond (t p) (p ∷ []) [])
    ∙ ap (λ k. sum_by (starts_of w) before + k) (sum_of_one (starts_of w) (t p) p)
    ∙ ap (λ k. k + cond (t p) (starts_of w p) 0) (sym (length_occurrences w before))
    ∙ ap (λ k. length (occurrences w before) + k) (sym (more_is ∙ ap (λ (x : PlaceRow). cond (t x) (starts_of w x) 0) is))

pub count_of_none : (w n part : ℕ) → count_of w [] n part ≡ 0
unfolding part_occurrences
count_of_none w n part = no_occurrences w

pub last_part_none : (n : ℕ) → last_part [] n ≡ 0
unfolding last_part
last_part_none n = refl

max_of_one : (b : Bool) (m : ℕ) (p : PlaceRow) → fold (λ n (l : PlaceRow). max n l.part) m (cond b (p ∷ []) []) ≡ max m (cond b p.part 0)
max_of_one true m p = refl
max_of_one false m p = omega arith

pub last_part_more : (places : List PlaceRow) (n i : ℕ) (d : PlaceRow) → i < length places
    → last_part (take (i + 1) places) n ≡ max (last_part (take i places) n) (cond ((get_or places i d).param == n) (get_or places i d).part 0)
unfolding last_part
last_part_more places n i d l =
    let t : PlaceRow → Bool = λ p. p.param == n in
    let f : ℕ → PlaceRow → ℕ = λ m p. max m p.part in
    let p = get_or places i d in
    ap (fold f 0) (filter_more t places i d l)
    ∙ fold-append f 0 (filter t (take i places)) (cond (t p) (p ∷ []) [])
    ∙ max_of_one (t p) (fold f 0 (filter t (take i places))) p

-- v stands somewhere in a list
abbrev pub StandsIn : {X : Type 0} → List X → X → X → Type 0
StandsIn xs d v = (j : ℕ) × (j < length xs) × (get_or xs j d ≡ v)

stands_first : {X : Type 0} (b : Bool) (x d : X) (rest : List X) → b ≡ true → StandsIn (cond b (x ∷ rest) rest) d x
stands_first true x d rest kept = (0, omega arith, refl)
stands_first false x d rest kept = absurd (cc)

stands_later : {X : Type 0} (b : Bool) (x d v : X) (rest : List X) → StandsIn rest d v → StandsIn (cond b (x ∷ rest) rest) d v
stands_later true x d v rest stands = (suc stands.0, omega (arith, stands.1), stands.2)
stands_later false x d v rest stands = stands

-- an element that passes a filter is in what it keeps
pub stands_kept : {X : Type 0} (f : X → Bool) (xs : List X) (i : ℕ) (d : X) → i < length xs → f (get_or xs i d) ≡ true
    → StandsIn (filter f xs) d (get_or xs i d)
stands_kept f [] i d l kept = absurd (omega arith)
stands_kept f (x ∷ xs) zero d l kept = stands_first (f x) x d (filter f xs) kept
stands_kept f (x ∷ xs) (suc i) d l kept = stands_later (f x) x d (get_or xs i d) (filter f xs) (stands_kept f xs i d (omega arith) kept)

-- one element that passes the filter and fails the test
pub not_all_filtered : {X : Type 0} (f t : X → Bool) (xs : List X) (i : ℕ) (d : X) → i < length xs → f (get_or xs i d) ≡ true → t (get_or xs i d) ≡ false
    → list_all t (filter f xs) ≡ false
not_all_filtered f t xs i d l kept fails =
    let stands = stands_kept f xs i d l kept in
    list_all_at t (filter f xs) stands.0 d stands.1 (ap t stands.2 ∙ fails)
