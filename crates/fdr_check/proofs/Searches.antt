-- Searches through a list, element by element.
use Rattle.std.proofs.Common.{◌≡◌, ℕ, ◌+◌, ◌<◌, Bool, true, false, List, [], ◌∷◌, ◌++◌, Option, Some, None, length, get_or, take, map, refl, ap, sym, ◌∙◌}
use Rattle.std.proofs.Common.{zero, suc, zero-add, arith}
use Rattle.std.specs.List.{All, find, list_any, enumerate_from}
use Rattle.std.proofs.lemmas.List.Elements.{All-head, All-tail}
use Rattle.std.proofs.lemmas.List.{map_more}
use Rattle.std.proofs.lemmas.List.Folds.{list_any_more, list_any_at}
use Rattle.std.proofs.lemmas.List.FromFn.{length-enumerate_from, get_or-enumerate_from}
use Rattle.std.proofs.lemmas.Bool.{or_from}
use Rattle.fdr_table.specs.Reading.{first_some}
use Rattle.fdr_lists.proofs.Searches.{find_here, find_more}

pub list_any_here : {X : Type 0} (p : X → Bool) (xs : List X) (i : ℕ) (d : X) → i < length xs → p (get_or xs i d) ≡ true → true ≡ list_any p xs
list_any_here p xs i d l holds = sym (list_any_at p xs i d l holds)

pub list_any_next : {X : Type 0} (p : X → Bool) (xs : List X) (i : ℕ) (d : X) → i < length xs → list_any p (take i xs) ≡ false → p (get_or xs i d) ≡ false
    → list_any p (take (i + 1) xs) ≡ false
list_any_next p xs i d l none fails = list_any_more p xs i d l ∙ or_from _ _ none fails

-- two tests that agree on a list find the same there
pub find_agree : {X : Type 0} (p q : X → Bool) (xs : List X) → All (λ x. p x ≡ q x) xs → find p xs ≡ find q xs
find_agree p q [] same = refl
find_agree p q (x ∷ xs) same =
    let here : p x ≡ q x = All-head (λ y. p y ≡ q y) x xs same in
    rw (here, find_agree p q xs (All-tail (λ y. p y ≡ q y) x xs same)) refl

-- the first of several answers
pub first_some_none : {A : Type 0} (o : Option A) (rest : List (Option A)) → o ≡ None → first_some (o ∷ rest) ≡ first_some rest
first_some_none o rest e = ap (λ z. first_some (z ∷ rest)) e

pub first_some_some : {A : Type 0} (o : Option A) (a : A) (rest : List (Option A)) → o ≡ Some a → first_some (o ∷ rest) ≡ Some a
first_some_some o a rest e = ap (λ z. first_some (z ∷ rest)) e

pub first_some_parts : {A : Type 0} (o : Option A) (rest : List (Option A)) → first_some (o ∷ rest) ≡ None → (o ≡ None) × (first_some rest ≡ None)
first_some_parts None rest h = (refl, h)
first_some_parts (Some a) rest h = absurd (cc)

first_some_push : {A : Type 0} (os : List (Option A)) (o : Option A) → first_some os ≡ None → o ≡ None → first_some (os ++ o ∷ []) ≡ None
first_some_push [] o none e = first_some_none o [] e
first_some_push (x ∷ os) o none e =
    let h = first_some_parts x os none in first_some_none x (os ++ o ∷ []) h.0 ∙ first_some_push os o h.1 e

pub first_some_more : {X A : Type 0} (f : X → Option A) (xs : List X) (i : ℕ) (d : X) → i < length xs → first_some (map f (take i xs)) ≡ None
    → f (get_or xs i d) ≡ None → first_some (map f (take (i + 1) xs)) ≡ None
first_some_more f xs i d l none e = ap first_some (map_more f xs i d l) ∙ first_some_push (map f (take i xs)) (f (get_or xs i d)) none e

pub first_some_here : {X A : Type 0} (f : X → Option A) (xs : List X) (i : ℕ) (d : X) (a : A) → i < length xs → first_some (map f (take i xs)) ≡ None
    → f (get_or xs i d) ≡ Some a → first_some (map f xs) ≡ Some a
first_some_here f [] i d a l none e = absurd (omega arith)
first_some_here f (x ∷ xs) zero d a l none e = first_some_some (f x) a (map f xs) e
first_some_here f (x ∷ xs) (suc i) d a l none e =
    let h = first_some_parts (f x) (map f (take i xs)) none in first_some_none (f x) (map f xs) h.0 ∙ first_some_here f xs i d a (omega arith) h.1 e

-- the same over numbered elements
take_numbered : {X : Type 0} (a i : ℕ) (xs : List X) → take i (enumerate_from a xs) ≡ enumerate_from a (take i xs)
take_numbered a zero xs = refl
take_numbered a (suc i) [] = refl
take_numbered a (suc i) (x ∷ xs) = ap (λ es. (a, x) ∷ es) (take_numbered (a + 1) i xs)

numbered_at : {X : Type 0} (xs : List X) (i : ℕ) (x : X) → i < length xs → x ≡ get_or xs i x
    → (i < length (enumerate_from 0 xs)) × (get_or (enumerate_from 0 xs) i (0, x) ≡ (i, x))
numbered_at xs i x l is = (
  omega (arith, length-enumerate_from 0 xs),
  get_or-enumerate_from 0 xs i (0, x) l ∙ ap (λ k. (k, get_or xs i x)) (zero-add i) ∙ ap (λ y. (i, y)) (sym is),
)

pub find_later : {X : Type 0} (t : ℕ × X → Bool) (xs : List X) (i : ℕ) (x : X) → i < length xs → x ≡ get_or xs i x
    → find t (enumerate_from 0 (take i xs)) ≡ None → t (i, x) ≡ false → find t (enumerate_from 0 (take (i + 1) xs)) ≡ None
find_later t xs i x l is none fails =
    let at = numbered_at xs i x l is in
    ap (find t) (sym (take_numbered 0 (i + 1) xs))
    ∙ find_more t (enumerate_from 0 xs) i (0, x) at.0 (ap (find t) (take_numbered 0 i xs) ∙ none) (ap t at.1 ∙ fails)

pub find_at_last : {X : Type 0} (t : ℕ × X → Bool) (xs : List X) (i : ℕ) (x : X) → i < length xs → x ≡ get_or xs i x
    → find t (enumerate_from 0 (take i xs)) ≡ None → t (i, x) ≡ true → find t (enumerate_from 0 xs) ≡ Some (i, x)
find_at_last t xs i x l is none holds =
    let at = numbered_at xs i x l is in
    find_here t (enumerate_from 0 xs) i (0, x) at.0 (ap (find t) (take_numbered 0 i xs) ∙ none) (ap t at.1 ∙ holds) ∙ ap Some at.1

pub first_later : {X A : Type 0} (f : ℕ × X → Option A) (xs : List X) (i : ℕ) (x : X) → i < length xs → x ≡ get_or xs i x
    → first_some (map f (enumerate_from 0 (take i xs))) ≡ None → f (i, x) ≡ None → first_some (map f (enumerate_from 0 (take (i + 1) xs))) ≡ None
first_later f xs i x l is none fails =
    let at = numbered_at xs i x l is in
    ap (λ es. first_some (map f es)) (sym (take_numbered 0 (i + 1) xs))
    ∙ first_some_more f (enumerate_from 0 xs) i (0, x) at.0 (ap (λ es. first_some (map f es)) (take_numbered 0 i xs) ∙ none) (ap f at.1 ∙ fails)

pub first_at_last : {X A : Type 0} (f : ℕ × X → Option A) (xs : List X) (i : ℕ) (x : X) (a : A) → i < length xs → x ≡ get_or xs i x
    → first_some (map f (enumerate_from 0 (take i xs))) ≡ None → f (i, x) ≡ Some a → first_some (map f (enumerate_from 0 xs)) ≡ Some a
first_at_last f xs i x a l is none holds =
    let at = numbered_at xs i x l is in
    first_some_here f (enumerate_from 0 xs) i (0, x) a at.0 (ap (λ es. first_some (map f es)) (take_numbered 0 i xs) ∙ none) (ap f at.1 ∙ holds)
