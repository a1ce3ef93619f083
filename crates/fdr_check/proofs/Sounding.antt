-- A table has no fault exactly where it is sound: the facts of each fault.
use Rattle.std.proofs.Common.{◌≡◌, ℕ, ◌+◌, ◌*◌, ◌<◌, ◌≤◌, ◌==◌, ◌&&◌, max, Bool, true, false, cond, List, [], ◌∷◌, Option, Some, None, option_map, length}
use Rattle.std.proofs.Common.{get_or, take, map, refl, subst, sym, ◌∙◌, zero, suc, arith}
use Rattle.std.specs.List.{range_with_len, filter, find, list_all, enumerate_from, slice_get, All, AllPairs, fold}
use Rattle.std.proofs.lemmas.List.{get_or-take, length-take}
use Rattle.std.proofs.lemmas.Option.{slice_get-get_or, slice_get_within, get_or_from_slice_get}
use Rattle.std.proofs.lemmas.List.Elements.{All-nil, All-cons, All-head, All-tail}
use Rattle.std.proofs.lemmas.Bool.{and_parts, and_from, eq-eqb, eqb-true, both_ways, cond-false, true_from_ne_false, false_from_ne_true}
use Rattle.fdr_table.specs.Rows.{PlaceRow}
use Rattle.fdr_table.specs.Reading.{first_some}
use Rattle.fdr_table.specs.declared.fault.TableFault.{TableFault}
use Rattle.fdr_check.specs.Occurrences.{frame_bits}
use Rattle.fdr_check.specs.Soundness.{covers, ShareNoBit}
use Rattle.fdr_check.specs.Faults.{first_shared, overlap_with, overlap_among, overlap_at, last_part}
use Rattle.fdr_check.proofs.Searches.{first_some_none, first_some_parts}
use Rattle.fdr_check.proofs.Ranges.{fails_from_find, find_no, not_all}
use Rattle.fdr_check.proofs.Overlapping.{no_overlap_with, overlap_by_index}
use Rattle.fdr_lists.proofs.Searches.{cond_none}
use Rattle.fdr_lists.proofs.Options.{option_map_none}

pub all_fail : {X : Type 0} (t : X → Bool) (xs : List X) → find t xs ≡ None → All (λ x. t x ≡ false) xs
all_fail t [] none = All-nil (λ x. t x ≡ false)
all_fail t (x ∷ xs) none =
    let h = cond_none (t x) x (find t xs) none in All-cons (λ x. t x ≡ false) x xs h.0 (all_fail t xs h.1)

pub none_found : {X : Type 0} (t : X → Bool) (xs : List X) → All (λ x. t x ≡ false) xs → find t xs ≡ None
none_found t [] all = refl
none_found t (x ∷ xs) all =
    cond-false (t x) (Some x) (find t xs) (All-head (λ x. t x ≡ false) x xs all) ∙ none_found t xs (All-tail (λ x. t x ≡ false) x xs all)

pub all_none : {X A : Type 0} (f : X → Option A) (xs : List X) → first_some (map f xs) ≡ None → All (λ x. f x ≡ None) xs
all_none f [] none = All-nil (λ x. f x ≡ None)
all_none f (x ∷ xs) none =
    let h = first_some_parts (f x) (map f xs) none in All-cons (λ x. f x ≡ None) x xs h.0 (all_none f xs h.1)

pub none_of_all : {X A : Type 0} (f : X → Option A) (xs : List X) → All (λ x. f x ≡ None) xs → first_some (map f xs) ≡ None
none_of_all f [] all = refl
none_of_all f (x ∷ xs) all =
    first_some_none (f x) (map f xs) (All-head (λ x. f x ≡ None) x xs all) ∙ none_of_all f xs (All-tail (λ x. f x ≡ None) x xs all)

-- numbered elements, by index
pub at_index : {X : Type 0} (P : ℕ × X → Type 0) (a : ℕ) (xs : List X) (n : ℕ) (x : X) → All P (enumerate_from a xs) → slice_get xs n ≡ Some x → P (a + n, x)
at_index P a [] n x all h = absurd (cc)
at_index P a (y ∷ ys) zero x all h =
    let e : y ≡ x = (cc) in
    let k : a ≡ a + zero = omega arith in
    subst (λ j. P (j, x)) k (subst (λ z. P (a, z)) e (All-head P (a, y) (enumerate_from (a + 1) ys) all))
at_index P a (y ∷ ys) (suc n) x all h =
    let k : a + 1 + n ≡ a + suc n = omega arith in
    subst (λ j. P (j, x)) k (at_index P (a + 1) ys n x (All-tail P (a, y) (enumerate_from (a + 1) ys) all) h)

pub from_index : {X : Type 0} (P : ℕ × X → Type 0) (a : ℕ) (xs : List X) → ((n : ℕ) (x : X) → slice_get xs n ≡ Some x → P (a + n, x))
    → All P (enumerate_from a xs)
from_index P a [] h = All-nil P
from_index {X} P a (y ∷ ys) h =
    let k : a + zero ≡ a = omega arith in
    let later : (n : ℕ) (x : X) → slice_get ys n ≡ Some x → P (a + 1 + n, x) = λ n x e.
    let j : a + suc n ≡ a + 1 + n = omega arith in subst (λ i. P (i, x)) j (h (suc n) x e) in
    All-cons P (a, y) (enumerate_from (a + 1) ys) (subst (λ i. P (i, y)) k (h zero y refl)) (from_index P (a + 1) ys later)

-- overlaps and pairs of places
overlap_with_parts : (w : ℕ) (p : PlaceRow) (above : List PlaceRow) (q : PlaceRow) → overlap_with w (p ∷ above) q ≡ None
    → (first_shared w p q ≡ None) × (overlap_with w above q ≡ None)
unfolding overlap_with
overlap_with_parts w p above q none =
    let f : PlaceRow → Option (ℕ × TableFault) = λ p. option_map (λ b. (q.row, overlap_at w p q b)) (first_shared w p q) in
    let h = first_some_parts (f p) (map f above) none in
    (option_map_none (λ b. (q.row, overlap_at w p q b)) (first_shared w p q) h.0, h.1)

unshared : (w : ℕ) (p q : PlaceRow) → first_shared w p q ≡ None → ShareNoBit w p q
unfolding first_shared
unshared w p q none = λ b l here there.
    both_ways (covers w p b && covers w q b) (fails_from_find (λ b. covers w p b && covers w q b) 0 (16 * frame_bits w) b none (omega arith) (omega arith))
    (and_from (covers w p b) (covers w q b) here there)

shared_none : (w : ℕ) (p q : PlaceRow) → ShareNoBit w p q → first_shared w p q ≡ None
unfolding first_shared
shared_none w p q apart =
    find_no (λ b. covers w p b && covers w q b) 0 (16 * frame_bits w) (λ b low high. false_from_ne_true (covers w p b && covers w q b) (λ h.
    let parts = and_parts (covers w p b) (covers w q b) h in apart b (omega arith) parts.0 parts.1))

all_unshared : (w : ℕ) (above : List PlaceRow) (q : PlaceRow) → overlap_with w above q ≡ None → All (λ p. ShareNoBit w p q) above
all_unshared w [] q none = All-nil (λ p. ShareNoBit w p q)
all_unshared w (p ∷ above) q none =
    let h = overlap_with_parts w p above q none in
    All-cons (λ p. ShareNoBit w p q) p above (unshared w p q h.0) (all_unshared w above q h.1)

pub apart_from : (w : ℕ) (places : List PlaceRow) → overlap_among w places ≡ None → AllPairs (ShareNoBit w) places
unfolding overlap_among
apart_from w places none = λ i j d low high.
    let q = get_or places j d in
    let all = all_none (overlap_by_index w places) (enumerate_from 0 places) none in
    let here : overlap_with w (take (0 + j) places) q ≡ None =
    at_index (λ e. overlap_by_index w places e ≡ None) 0 places j q all (slice_get-get_or places j d high) in
    let within : i < length (take (0 + j) places) = omega (arith, length-take (0 + j) places) in
    subst (λ p. ShareNoBit w p q) (get_or-take (0 + j) places i d (omega arith)) (all_unshared w (take (0 + j) places) q here i d within)

pub none_apart : (w : ℕ) (places : List PlaceRow) → AllPairs (ShareNoBit w) places → overlap_among w places ≡ None
unfolding overlap_among
none_apart w places pairs =
    none_of_all (overlap_by_index w places) (enumerate_from 0 places) (from_index (λ e. overlap_by_index w places e ≡ None) 0 places
    (λ n q at. no_overlap_with w (take (0 + n) places) q (λ k d l.
    let len = length-take (0 + n) places in
    let first : get_or (take (0 + n) places) k d ≡ get_or places k d = get_or-take (0 + n) places k d (omega (arith, len)) in
    let second : get_or places n d ≡ q = get_or_from_slice_get places n q d at in
    let pair : ShareNoBit w (get_or places k d) (get_or places n d) = pairs k n d (omega (arith, len)) (slice_get_within places n q at) in
    shared_none w (get_or (take (0 + n) places) k d) q (subst (λ p. ShareNoBit w p q) (sym first) (subst (ShareNoBit w (get_or places k d)) second pair)))))

-- the greatest part number
abbrev greatest : ℕ → List PlaceRow → ℕ
greatest a xs = fold (λ n (p : PlaceRow). max n p.part) a xs

greatest_from_one : (b : Bool) (x : PlaceRow) (kept : List PlaceRow) (a : ℕ) → a ≤ greatest a kept → max a x.part ≤ greatest (max a x.part) kept
    → a ≤ greatest a (cond b (x ∷ kept) kept)
greatest_from_one true x kept a h g = omega arith
greatest_from_one false x kept a h g = h

greatest_from : (t : PlaceRow → Bool) (xs : List PlaceRow) (a : ℕ) → a ≤ greatest a (filter t xs)
greatest_from t [] a = omega arith
greatest_from t (x ∷ xs) a = greatest_from_one (t x) x (filter t xs) a (greatest_from t xs a) (greatest_from t xs (max a x.part))

greatest_here : (b : Bool) (x : PlaceRow) (kept : List PlaceRow) (a : ℕ) → max a x.part ≤ greatest (max a x.part) kept → b ≡ true
    → x.part ≤ greatest a (cond b (x ∷ kept) kept)
greatest_here true x kept a g e = omega arith
greatest_here false x kept a g e = absurd (cc)

abbrev IsUpTo : (PlaceRow → Bool) → ℕ → PlaceRow → Type 0
IsUpTo t m p = t p ≡ true → p.part ≤ m

greatest_later : (t : PlaceRow → Bool) (b : Bool) (x : PlaceRow) (xs : List PlaceRow) (a : ℕ) → All (IsUpTo t (greatest a (filter t xs))) xs
    → All (IsUpTo t (greatest (max a x.part) (filter t xs))) xs → All (IsUpTo t (greatest a (cond b (x ∷ filter t xs) (filter t xs)))) xs
greatest_later t true x xs a h g = g
greatest_later t false x xs a h g = h

greatest_each : (t : PlaceRow → Bool) (xs : List PlaceRow) (a : ℕ) → All (IsUpTo t (greatest a (filter t xs))) xs
greatest_each t [] a = All-nil (IsUpTo t a)
greatest_each t (x ∷ xs) a =
    All-cons (IsUpTo t (greatest a (cond (t x) (x ∷ filter t xs) (filter t xs)))) x xs
    (λ e. greatest_here (t x) x (filter t xs) a (greatest_from t xs (max a x.part)) e)
    (greatest_later t (t x) x xs a (greatest_each t xs a) (greatest_each t xs (max a x.part)))

greatest_low_one : (b : Bool) (x : PlaceRow) (kept : List PlaceRow) (a m : ℕ) → a ≤ m → (b ≡ true → x.part ≤ m) → ((k : ℕ) → k ≤ m → greatest k kept ≤ m)
    → greatest a (cond b (x ∷ kept) kept) ≤ m
greatest_low_one true x kept a m low here later = let h = here refl in later (max a x.part) (omega arith)
greatest_low_one false x kept a m low here later = later a low

greatest_low : (t : PlaceRow → Bool) (xs : List PlaceRow) (m a : ℕ) → a ≤ m → All (IsUpTo t m) xs → greatest a (filter t xs) ≤ m
greatest_low t [] m a low all = low
greatest_low t (x ∷ xs) m a low all =
    greatest_low_one (t x) x (filter t xs) a m low (All-head (IsUpTo t m) x xs all) (λ k l. greatest_low t xs m k l (All-tail (IsUpTo t m) x xs all))

-- the places of a parameter have no part above the last
pub parts_up_to : (places : List PlaceRow) (n : ℕ) → All (λ (l : PlaceRow). l.param ≡ n → l.part ≤ last_part places n) places
unfolding last_part
parts_up_to places n = λ k d l e. greatest_each (λ (p : PlaceRow). p.param == n) places 0 k d l (eq-eqb _ _ e)

pub last_low : (places : List PlaceRow) (n m : ℕ) → All (λ (l : PlaceRow). l.param ≡ n → l.part ≤ m) places → last_part places n ≤ m
unfolding last_part
last_low places n m all = greatest_low (λ (p : PlaceRow). p.param == n) places m 0 (omega arith) (λ k d l e. all k d l (eqb-true _ _ e))

-- a test of what was kept
list_all_one : {X : Type 0} (t : X → Bool) (b : Bool) (x : X) (kept : List X) → list_all t (cond b (x ∷ kept) kept) ≡ true
    → (b ≡ true → t x ≡ true) × (list_all t kept ≡ true)
list_all_one t true x kept h = let parts = and_parts (t x) (list_all t kept) h in (λ e. parts.0, parts.1)
list_all_one t false x kept h = (λ e. absurd (cc), h)

pub kept_pass : {X : Type 0} (t f : X → Bool) (xs : List X) → list_all t (filter f xs) ≡ true → All (λ x. f x ≡ true → t x ≡ true) xs
kept_pass t f [] h = All-nil (λ x. f x ≡ true → t x ≡ true)
kept_pass t f (x ∷ xs) h =
    let parts = list_all_one t (f x) x (filter f xs) h in
    All-cons (λ x. f x ≡ true → t x ≡ true) x xs parts.0 (kept_pass t f xs parts.1)

list_all_from_one : {X : Type 0} (t : X → Bool) (b : Bool) (x : X) (kept : List X) → (b ≡ true → t x ≡ true) → list_all t kept ≡ true
    → list_all t (cond b (x ∷ kept) kept) ≡ true
list_all_from_one t true x kept here rest = and_from (t x) (list_all t kept) (here refl) rest
list_all_from_one t false x kept here rest = rest

pub pass_kept : {X : Type 0} (t f : X → Bool) (xs : List X) → All (λ x. f x ≡ true → t x ≡ true) xs → list_all t (filter f xs) ≡ true
pass_kept t f [] all = refl
pass_kept t f (x ∷ xs) all =
    list_all_from_one t (f x) x (filter f xs) (All-head (λ x. f x ≡ true → t x ≡ true) x xs all)
    (pass_kept t f xs (All-tail (λ x. f x ≡ true → t x ≡ true) x xs all))

pub pass_each : (t : ℕ → Bool) (a n k : ℕ) → list_all t (range_with_len a n) ≡ true → a ≤ k → k < a + n → t k ≡ true
pass_each t a n k all low high = true_from_ne_false (t k) (λ fails. both_ways (list_all t (range_with_len a n)) (not_all t a n k low high fails) all)
