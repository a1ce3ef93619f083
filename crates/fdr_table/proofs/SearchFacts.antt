-- Facts about the first element that passes a test, and the first option that is there.
use Rattle.std.proofs.Common.{◌≡◌, ◌∙◌, sym, ap, refl, ℕ, zero, suc, ◌+◌, ◌<◌, Bool, true, false, ◌||◌, cond, List, [], ◌∷◌, ◌++◌, length, map, Option, Some}
use Rattle.std.proofs.Common.{None, arith, add-zero, length-append}
use Rattle.std.specs.Prelude.{is_some, not, position, unwrap_or}
use Rattle.std.specs.List.{list_any, position_or_len, range_with_len}
use Rattle.std.proofs.lemmas.Bool.{false≢true}
use Rattle.std.proofs.lemmas.Bool.Decides.{nat_tests}
use Rattle.std.proofs.lemmas.List.{length-map}
use Rattle.std.proofs.lemmas.List.Folds.{position_or_len_push, prefix_len-append}
use Rattle.fdr_table.specs.Reading.{first_some}

-- where the first element stands that passes a test
pub any-position : {A : Type 0} (p : A → Bool) (xs : List A) → list_any p xs ≡ true → position_or_len p xs < length xs
any-position p [] e = absurd (false≢true e)
any-position p (x ∷ xs) e = grind (arith, any-position p xs)

pub none-position : {A : Type 0} (p : A → Bool) (xs : List A) → list_any p xs ≡ false → position_or_len p xs ≡ length xs
none-position p [] e = refl
none-position p (x ∷ xs) e = grind (arith, none-position p xs)

position_or_len-map : {A B : Type 0} (p : B → Bool) (f : A → B) (xs : List A) → position_or_len p (map f xs) ≡ position_or_len (λ x. p (f x)) xs
position_or_len-map p f [] = refl
position_or_len-map p f (x ∷ xs) = ap (λ (n : ℕ). cond (not (p (f x))) (1 + n) 0) (position_or_len-map p f xs)

pub position-map : {A B : Type 0} (p : B → Bool) (f : A → B) (xs : List A) → position p (map f xs) ≡ position (λ x. p (f x)) xs
position-map p f xs = rw (position_or_len-map p f xs, length-map xs f) refl

pub list_any-map : {A B : Type 0} (p : B → Bool) (f : A → B) (xs : List A) → list_any p (map f xs) ≡ list_any (λ x. p (f x)) xs
list_any-map p f [] = refl
list_any-map p f (x ∷ xs) = ap (λ (b : Bool). p (f x) || b) (list_any-map p f xs)

there : {A : Type 0} (p : A → Bool) (xs : List A) → position_or_len p xs < length xs → position p xs ≡ Some (position_or_len p xs)
there p xs lt = grind (arith, nat_tests)

not-there : {A : Type 0} (p : A → Bool) (xs : List A) → position_or_len p xs ≡ length xs → position p xs ≡ None
not-there p xs e = grind (arith, nat_tests)

is-some-by : {A : Type 0} (p : A → Bool) (xs : List A) (b : Bool) → list_any p xs ≡ b → is_some (position p xs) ≡ b
is-some-by p xs true e = ap is_some (there p xs (any-position p xs e))
is-some-by p xs false e = ap is_some (not-there p xs (none-position p xs e))

pub position-is_some : {A : Type 0} (p : A → Bool) (xs : List A) → is_some (position p xs) ≡ list_any p xs
position-is_some p xs = is-some-by p xs (list_any p xs) refl

pub position-below : {A : Type 0} (p : A → Bool) (xs : List A) → list_any p xs ≡ true → unwrap_or (position p xs) 0 < length xs
position-below p xs e = let found = ap (λ (i : Option ℕ). unwrap_or i 0) (there p xs (any-position p xs e)) in omega (arith, found, any-position p xs e)

-- more elements change nothing where one passes
position_or_len-more : {A : Type 0} (p : A → Bool) (xs ys : List A) → position_or_len p xs < length xs → position_or_len p (xs ++ ys) ≡ position_or_len p xs
position_or_len-more p xs ys lt = prefix_len-append (λ x. not (p x)) xs ys ∙ grind (arith, nat_tests)

pub position-more : {A : Type 0} (p : A → Bool) (xs ys : List A) → list_any p xs ≡ true → position p (xs ++ ys) ≡ position p xs
position-more p xs ys e =
    let lt = any-position p xs e in
    let same = position_or_len-more p xs ys lt in
    there p (xs ++ ys) (omega (arith, same, length-append xs ys)) ∙ ap Some same ∙ sym (there p xs lt)

-- the first of some options that is there
pub first_some-next : {A : Type 0} (xs : List (Option A)) (x : Option A) → first_some xs ≡ None → first_some (xs ++ x ∷ []) ≡ x
first_some-next [] None e = refl
first_some-next [] (Some a) e = refl
first_some-next (None ∷ xs) x e = first_some-next xs x e
first_some-next (Some a ∷ xs) x e = cc

pub first_some-kept : {A : Type 0} (xs : List (Option A)) → first_some (xs ++ None ∷ []) ≡ first_some xs
first_some-kept [] = refl
first_some-kept (None ∷ xs) = first_some-kept xs
first_some-kept (Some a ∷ xs) = refl

shifted : (s j : ℕ) → s + 1 + j ≡ s + suc j
shifted s j = omega arith

pub first_some-at : {A : Type 0} (g : ℕ → Option A) (s n k : ℕ) (x : A) → k < n → ((j : ℕ) → j < k → g (s + j) ≡ None) → g (s + k) ≡ Some x
    → first_some (map g (range_with_len s n)) ≡ Some x
first_some-at g s zero k x lt before here = absurd (omega arith)
first_some-at g s (suc n) zero x lt before here =
    let e : g s ≡ Some x = ap g (sym (add-zero s)) ∙ here in
    rw e refl
first_some-at g s (suc n) (suc k) x lt before here =
    let e : g s ≡ None = ap g (sym (add-zero s)) ∙ before 0 (omega arith) in
    rw e (first_some-at g (s + 1) n k x (omega arith) (λ j h. ap g (shifted s j) ∙ before (suc j) (omega arith)) (ap g (shifted s k) ∙ here))

pub first_some-none : {A : Type 0} (g : ℕ → Option A) (s n : ℕ) → ((j : ℕ) → j < n → g (s + j) ≡ None) → first_some (map g (range_with_len s n)) ≡ None
first_some-none g s zero none = refl
first_some-none g s (suc n) none =
    let e : g s ≡ None = ap g (sym (add-zero s)) ∙ none 0 (omega arith) in
    rw e (first_some-none g (s + 1) n (λ j h. ap g (shifted s j) ∙ none (suc j) (omega arith)))

-- one more element at the end
push-any : {A : Type 0} (p : A → Bool) (xs : List A) (y : A) (b : Bool) → list_any p xs ≡ false → p y ≡ b
    → position p (xs ++ y ∷ []) ≡ cond b (Some (length xs)) None
push-any p xs y true none e =
    let at : position_or_len p (xs ++ y ∷ []) ≡ length xs = grind (arith, nat_tests, position_or_len_push p xs y, none-position p xs none) in
    there p (xs ++ y ∷ []) (omega (arith, at, length-append xs (y ∷ []))) ∙ ap Some at
push-any p xs y false none e =
    let at : position_or_len p (xs ++ y ∷ []) ≡ length xs + 1 = grind (arith, nat_tests, position_or_len_push p xs y, none-position p xs none) in
    not-there p (xs ++ y ∷ []) (omega (arith, at, length-append xs (y ∷ [])))

pub position-push : {A : Type 0} (p : A → Bool) (xs : List A) (y : A) → position p xs ≡ None → position p (xs ++ y ∷ []) ≡ cond (p y) (Some (length xs)) None
position-push p xs y none = push-any p xs y (p y) (sym (position-is_some p xs) ∙ ap is_some none) refl
