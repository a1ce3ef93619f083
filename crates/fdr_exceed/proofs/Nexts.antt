-- Numbers beside the places at which they are.
use Rattle.std.proofs.Common.{◌≡◌, ◌∙◌, ap, sym, subst, ℕ, ◌+◌, ◌<◌, List, [], ◌∷◌, ◌++◌, length, below_more, arith, length-append}
use Rattle.std.specs.Prelude.{slice_index}
use Rattle.std.proofs.lemmas.List.{get_or_append_left}
use Rattle.std.proofs.Math.Seq.{get_or-append_seam}

-- one number more
pub each-push : (P : ℕ → ℕ → Type 0) (xs ys : List ℕ) (n x : ℕ) → length xs ≡ n → ys ≡ xs ++ x ∷ []
    → ((k : ℕ) → k < n → P k (slice_index xs k)) → P n x → (k : ℕ) → k < n + 1 → P k (slice_index ys k)
each-push P xs ys n x count more each here =
    below_more (λ k. P k (slice_index ys k)) n
    (λ k lt. subst (P k) (sym (ap (λ (zs : List ℕ). slice_index zs k) more ∙ get_or_append_left xs (x ∷ []) 0 k (omega (arith, lt, count)))) (each k lt))
    (subst (P n) (sym (ap (λ (zs : List ℕ). slice_index zs n) more ∙ ap (slice_index (xs ++ x ∷ [])) (sym count) ∙ get_or-append_seam xs x [] 0)) here)

pub count-push : (xs ys : List ℕ) (n x : ℕ) → length xs ≡ n → ys ≡ xs ++ x ∷ [] → length ys ≡ n + 1
count-push xs ys n x count more = omega (arith, count, ap (length {A = ℕ}) more, length-append xs (x ∷ []))
