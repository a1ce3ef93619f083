-- Searches and counts over ranges.
use Rattle.std.proofs.Common.{◌≡◌, ℕ, ◌+◌, ◌<◌, ◌≤◌, Bool, true, false, ◌&&◌, [], ◌∷◌, Some, None, zero, suc, inl, inr, sym, ap, ◌∙◌}
use Rattle.std.proofs.Common.{refl, arith}
use Rattle.std.specs.List.{range_with_len, count_by, find, sum_by, list_all}
use Rattle.std.proofs.lemmas.List.FromFn.{length-range_with_len}
use Rattle.std.proofs.lemmas.List.Folds.{list_all-append}
use Rattle.std.proofs.lemmas.List.Sums.{sum_by_push, count_by-le-length}
use Rattle.std.proofs.lemmas.Bool.{cond-true, cond-false, true≢false, and_from, and_left, and_right, cases_eq, cases_Bool}
use Rattle.std.proofs.lemmas.Option.{none-some}
use Rattle.fdr_lists.proofs.Ranges.{range_more}

pub count_few : (t : ℕ → Bool) (n : ℕ) → count_by t (range_with_len 0 n) ≤ n
count_few t n = omega (arith, count_by-le-length t (range_with_len 0 n), length-range_with_len 0 n)

-- the first number of a range that passes
pub find_first : (t : ℕ → Bool) (a n at : ℕ) → a ≤ at → at < a + n → t at ≡ true → ((x : ℕ) → a ≤ x → x < at → t x ≡ false)
    → find t (range_with_len a n) ≡ Some at
find_first t a zero at low high passes none = absurd (omega arith)
find_first t a (suc n) at low high passes none =
    let later : t a ≡ false → find t (range_with_len a (suc n)) ≡ Some at = λ fails.
    cond-false (t a) (Some a) (find t (range_with_len (a + 1) n)) fails
    ∙ find_first t (a + 1) n at (elim (cases_eq a at) [ inl e ↦ absurd (true≢false (sym passes ∙ ap t (sym e) ∙ fails)) | inr apart ↦ omega arith ])
    (omega arith) passes (λ x l h. none x (omega arith) h) in
    elim (cases_eq a at) [
      | inl e ↦ cond-true (t a) (Some a) (find t (range_with_len (a + 1) n)) (ap t e ∙ passes) ∙ ap Some e
      | inr apart ↦ later (none a (omega arith) (omega arith))
    ]

pub find_no : (t : ℕ → Bool) (a n : ℕ) → ((x : ℕ) → a ≤ x → x < a + n → t x ≡ false) → find t (range_with_len a n) ≡ None
find_no t a zero none = refl
find_no t a (suc n) none =
    cond-false (t a) (Some a) (find t (range_with_len (a + 1) n)) (none a (omega arith) (omega arith))
    ∙ find_no t (a + 1) n (λ x l h. none x (omega arith) (omega arith))

pub fails_from_find : (t : ℕ → Bool) (a n x : ℕ) → find t (range_with_len a n) ≡ None → a ≤ x → x < a + n → t x ≡ false
fails_from_find t a zero x none low high = absurd (omega arith)
fails_from_find t a (suc n) x none low high = elim (cases_Bool (t a)) [
  | inl passes ↦ absurd (none-some _ (sym (none) ∙ cond-true (t a) (Some a) (find t (range_with_len (a + 1) n)) passes))
  | inr fails ↦ elim (cases_eq a x) [
    | inl e ↦ ap t (sym e) ∙ fails
    | inr apart ↦ fails_from_find t (a + 1) n x (sym (cond-false (t a) (Some a) (find t (range_with_len (a + 1) n)) fails) ∙ none) (omega arith) (omega arith)
  ]
]

-- sums and tests over a range
pub sum_more : (f : ℕ → ℕ) (a n : ℕ) → sum_by f (range_with_len a (n + 1)) ≡ sum_by f (range_with_len a n) + f (a + n)
sum_more f a n = ap (sum_by f) (range_more a n) ∙ sum_by_push f (range_with_len a n) (a + n)

pub all_more : (t : ℕ → Bool) (a n : ℕ) → list_all t (range_with_len a n) ≡ true → t (a + n) ≡ true → list_all t (range_with_len a (n + 1)) ≡ true
all_more t a n so_far more =
    ap (list_all t) (range_more a n) ∙ list_all-append t (range_with_len a n) ((a + n) ∷ [])
    ∙ and_from (list_all t (range_with_len a n)) (t (a + n) && true) so_far (and_from (t (a + n)) true more refl)

pub not_all : (t : ℕ → Bool) (a n x : ℕ) → a ≤ x → x < a + n → t x ≡ false → list_all t (range_with_len a n) ≡ false
not_all t a zero x low high fails = absurd (omega arith)
not_all t a (suc n) x low high fails = elim (cases_eq a x) [
  | inl e ↦ and_left (t a) (list_all t (range_with_len (a + 1) n)) (ap t e ∙ fails)
  | inr apart ↦ and_right (t a) (list_all t (range_with_len (a + 1) n)) (not_all t (a + 1) n x (omega arith) (omega arith) fails)
]
