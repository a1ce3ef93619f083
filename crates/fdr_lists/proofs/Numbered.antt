-- Elements with their numbers.
use Rattle.std.proofs.Common.{◌≡◌, ℕ, ◌+◌, ◌<◌, zero, suc, List, [], ◌∷◌, ◌++◌, Some, length, get_or, refl, sym, ap, ◌∙◌, subst, zero-add, arith}
use Rattle.std.specs.List.{enumerate_from, All, slice_get}
use Rattle.std.proofs.lemmas.List.FromFn.{length-enumerate_from, get_or-enumerate_from}
use Rattle.std.proofs.lemmas.Option.{slice_get-get_or}

pub enumerate_from_push : {X : Type 0} (n : ℕ) (xs : List X) (y : X) → enumerate_from n (xs ++ y ∷ []) ≡ enumerate_from n xs ++ (n + length xs, y) ∷ []
enumerate_from_push n [] y = ap (λ k. (k, y) ∷ []) (omega arith)
enumerate_from_push n (x ∷ xs) y =
    let e : n + 1 + length xs ≡ n + suc (length xs) = omega arith in
    ap (λ t. (n, x) ∷ t) (enumerate_from_push (n + 1) xs y ∙ ap (λ k. enumerate_from (n + 1) xs ++ (k, y) ∷ []) e)

-- an element within a list
pub slice_get_some : {X : Type 0} (xs : List X) (k : ℕ) → k < length xs → (x : X) × (slice_get xs k ≡ Some x)
slice_get_some [] k within = absurd (omega arith)
slice_get_some (x ∷ xs) zero within = (x, refl)
slice_get_some (x ∷ xs) (suc k) within = slice_get_some xs k (omega arith)

pub numbered_stand : {X : Type 0} (xs : List X) → All (λ (e : ℕ × X). slice_get xs e.0 ≡ Some e.1) (enumerate_from 0 xs)
numbered_stand {X} xs = λ k d l.
    let P : ℕ × X → Type 0 = λ e. slice_get xs e.0 ≡ Some e.1 in
    let within : k < length xs = omega (arith, length-enumerate_from 0 xs) in
    let at : get_or (enumerate_from 0 xs) k d ≡ (k, get_or xs k d.1) = get_or-enumerate_from 0 xs k d within ∙ ap (λ m. (m, get_or xs k d.1)) (zero-add k) in
    subst P (sym at) (slice_get-get_or xs k d.1 within)
