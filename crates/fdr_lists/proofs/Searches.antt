-- Searches through a list, element by element.
use Rattle.std.proofs.Common.{◌≡◌, ℕ, zero, suc, ◌+◌, ◌<◌, Bool, true, false, cond, List, [], ◌∷◌, ◌++◌, Option, Some, None, length, get_or, take, refl, ap}
use Rattle.std.proofs.Common.{◌∙◌, arith}
use Rattle.std.specs.List.{find}
use Rattle.std.proofs.lemmas.List.{take_more}

pub cond_none : {X : Type 0} (b : Bool) (x : X) (o : Option X) → cond b (Some x) o ≡ None → (b ≡ false) × (o ≡ None)
cond_none true x o h = absurd (cc)
cond_none false x o h = (refl, h)

find_push : {X : Type 0} (p : X → Bool) (xs : List X) (y : X) → find p xs ≡ None → p y ≡ false → find p (xs ++ y ∷ []) ≡ None
find_push p [] y none fails = rw fails refl
find_push p (x ∷ xs) y none fails = let h = cond_none (p x) x (find p xs) none in rw (h.0) (find_push p xs y h.1 fails)

-- a search that has found nothing so far
pub find_more : {X : Type 0} (p : X → Bool) (xs : List X) (i : ℕ) (d : X) → i < length xs → find p (take i xs) ≡ None → p (get_or xs i d) ≡ false
    → find p (take (i + 1) xs) ≡ None
find_more p xs i d l none fails = ap (find p) (take_more xs i d l) ∙ find_push p (take i xs) (get_or xs i d) none fails

-- and that finds the next element
pub find_here : {X : Type 0} (p : X → Bool) (xs : List X) (i : ℕ) (d : X) → i < length xs → find p (take i xs) ≡ None → p (get_or xs i d) ≡ true
    → find p xs ≡ Some (get_or xs i d)
find_here p [] i d l none holds = absurd (omega arith)
find_here p (x ∷ xs) zero d l none holds = rw holds refl
find_here p (x ∷ xs) (suc i) d l none holds =
    let h = cond_none (p x) x (find p (take i xs)) none in rw (h.0) (find_here p xs i d (omega arith) h.1 holds)
