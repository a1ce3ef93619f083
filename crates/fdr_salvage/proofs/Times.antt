-- How often a number is in a list. This alone determines a list in order.
use Rattle.std.proofs.Common.{◌≡◌, ◌≢◌, ⊎_elim, ℕ, zero, suc, ◌+◌, ◌<◌, ◌≤◌, true, false, cond, List, [], ◌∷◌, get_or, Option, refl, ap, ◌∙◌}
use Rattle.std.proofs.Common.{zero-add}
use Rattle.std.proofs.Common.{arith}
use Rattle.std.specs.Prelude.{◌==◌, All, count_by, filter_map}
use Rattle.std.specs.List.{range_with_len, cons_option}
use Rattle.std.specs.List.Sorted.{IsNonDecreasing}
use Rattle.std.proofs.lemmas.Bool.{cases_lt}
use Rattle.std.proofs.lemmas.Bool.Decides.{nat_tests}
use Rattle.std.proofs.lemmas.List.Elements.{All-head, All-tail, filter_map-append}
use Rattle.std.proofs.lemmas.List.Sums.{sum_by-cons, sum_by-append}
use Rattle.fdr_lists.proofs.Ranges.{range_suc}

-- how often a number is there
abbrev pub times : ℕ → List ℕ → ℕ
times x xs = count_by (λ y. y == x) xs

pub times-cons : (x y : ℕ) (ys : List ℕ) → times x (y ∷ ys) ≡ cond (y == x) 1 0 + times x ys
times-cons x y ys = sum_by-cons (λ z. cond (z == x) 1 0) y ys

pub times-here : (x y : ℕ) (ys : List ℕ) → y ≡ x → times x (y ∷ ys) ≡ 1 + times x ys
times-here x y ys same =
    let test : (y == x) ≡ true = grind (arith, nat_tests) in
    times-cons x y ys ∙ ap (λ b. cond b 1 0 + times x ys) test

pub times-other : (x y : ℕ) (ys : List ℕ) → y ≢ x → times x (y ∷ ys) ≡ times x ys
times-other x y ys other =
    let test : (y == x) ≡ false = grind (arith, nat_tests) in
    times-cons x y ys ∙ ap (λ b. cond b 1 0 + times x ys) test ∙ zero-add (times x ys)

times-none : (x : ℕ) (ys : List ℕ) → All (λ y. y ≢ x) ys → times x ys ≡ 0
times-none x [] none = refl
times-none x (y ∷ ys) none =
    times-other x y ys (All-head (λ z. z ≢ x) y ys none) ∙ times-none x ys (All-tail (λ z. z ≢ x) y ys none)

up-tail : (x : ℕ) (xs : List ℕ) → IsNonDecreasing (x ∷ xs) → IsNonDecreasing xs
up-tail x xs up i j d order within = up (suc i) (suc j) d (omega arith) (omega arith)

smaller_none : (z x : ℕ) (xs : List ℕ) → IsNonDecreasing (x ∷ xs) → z < x → times z (x ∷ xs) ≡ 0
smaller_none z x xs up less =
    times-none z (x ∷ xs) (λ k d within same. let first : x ≤ get_or (x ∷ xs) k d = up 0 k d (omega arith) within in omega (arith, first, same, less))

tails_same : (z x y : ℕ) (xs ys : List ℕ) → x ≡ y → times z (x ∷ xs) ≡ times z (y ∷ ys) → times z xs ≡ times z ys
tails_same z x y xs ys head same =
    let mark : ◌≡◌ {A = ℕ} (cond (x == z) 1 0) (cond (y == z) 1 0) = ap (λ w. cond (w == z) 1 0) head in
    omega (arith, same, times-cons z x xs, times-cons z y ys, mark)

-- two lists in order that have each number equally often are the same
pub same_in_order : (xs ys : List ℕ) → IsNonDecreasing xs → IsNonDecreasing ys → ((x : ℕ) → times x xs ≡ times x ys) → xs ≡ ys
same_in_order [] [] one two same = refl
same_in_order [] (y ∷ ys) one two same = absurd (omega (arith, same y, times-here y y ys refl))
same_in_order (x ∷ xs) [] one two same = absurd (omega (arith, same x, times-here x x xs refl))
same_in_order (x ∷ xs) (y ∷ ys) one two same =
    let head : x ≡ y = ⊎_elim
    (λ less. absurd (omega (arith, same x, times-here x x xs refl, smaller_none x y ys two less)))
    (λ high. ⊎_elim
    (λ less. absurd (omega (arith, same y, times-here y y ys refl, smaller_none y x xs one less)))
    (λ low. omega (arith, high, low))
    (cases_lt y x))
    (cases_lt x y) in
    let tail : xs ≡ ys = same_in_order xs ys (up-tail x xs one) (up-tail y ys two) (λ z. tails_same z x y xs ys head (same z)) in
    ap (λ z. z ∷ xs) head ∙ ap (λ zs. y ∷ zs) tail

-- Places give numbers, and one place alone may give x.
times_more : (f : ℕ → Option ℕ) (x n : ℕ)
    → times x (filter_map f (range_with_len 0 (suc n))) ≡ times x (filter_map f (range_with_len 0 n)) + times x (cons_option (f n) [])
times_more f x n =
    ap (λ r. times x (filter_map f r)) (range_suc 0 n)
    ∙ ap (times x) (filter_map-append f (range_with_len 0 n) ((0 + n) ∷ []))
    ∙ sum_by-append (λ z. cond (z == x) 1 0) (filter_map f (range_with_len 0 n)) (cons_option (f (0 + n)) [])
    ∙ ap (λ k. times x (filter_map f (range_with_len 0 n)) + times x (cons_option (f k) [])) (zero-add n)

pub times_upto : (f : ℕ → Option ℕ) (x place n : ℕ) → ((i : ℕ) → i ≢ place → times x (cons_option (f i) []) ≡ 0)
    → (n ≤ place → times x (filter_map f (range_with_len 0 n)) ≡ 0)
    × (place < n → times x (filter_map f (range_with_len 0 n)) ≡ times x (cons_option (f place) []))
times_upto f x place zero only = (λ before. refl, λ after. absurd (omega (arith, after)))
times_upto f x place (suc n) only =
    let more = times_more f x n in
    let rest = times_upto f x place n only in (
      λ before. omega (arith, more, rest.0 (omega (arith, before)), only n (λ same. omega (arith, same, before))),
      λ after. ⊎_elim
          (λ earlier. omega (arith, more, rest.1 earlier, only n (λ same. omega (arith, same, earlier))))
          (λ last. let same : n ≡ place = omega (arith, last, after) in
          omega (arith, more, rest.0 last, ap (λ k. times x (cons_option (f k) [])) same))
          (cases_lt place n),
    )
