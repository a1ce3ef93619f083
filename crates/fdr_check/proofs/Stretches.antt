-- Stretches of a range: what passes a test in them, and what is made of them; numbered elements.
use Rattle.std.proofs.Common.{◌≡◌, ℕ, ◌+◌, ◌*◌, ◌-◌, ◌<◌, ◌≤◌, Bool, true, false, cond, List, [], ◌∷◌, ◌++◌, map, refl, ap, sym, ◌∙◌, zero, suc, add-zero}
use Rattle.std.proofs.Common.{zero-add}
use Rattle.std.proofs.Common.{length, get_or, take, arith}
use Rattle.std.specs.List.{range_with_len, flat_map, filter, enumerate_from}
use Rattle.std.proofs.lemmas.List.{append-nil, append_assoc, take_more, length-take-le}
use Rattle.std.proofs.lemmas.List.Concat.{flat_map-append}
use Rattle.std.proofs.lemmas.List.Elements.{filter-append}
use Rattle.fdr_lists.proofs.Ranges.{range_more}
use Rattle.fdr_lists.proofs.Numbered.{enumerate_from_push}

pub range_append : (a n m : ℕ) → range_with_len a (n + m) ≡ range_with_len a n ++ range_with_len (a + n) m
range_append a zero m = ap (range_with_len a) (zero-add m) ∙ ap (λ b. range_with_len b m) (sym (add-zero a))
range_append a (suc n) m =
    let count : suc n + m ≡ suc (n + m) = omega arith in
    let next : a + 1 + n ≡ a + suc n = omega arith in
    ap (range_with_len a) count ∙ ap (λ xs. a ∷ xs) (range_append (a + 1) n m ∙ ap (λ b. range_with_len (a + 1) n ++ range_with_len b m) next)

-- ---- what passes a test

pub filter-range_append : (t : ℕ → Bool) (a n m : ℕ)
    → filter t (range_with_len a (n + m)) ≡ filter t (range_with_len a n) ++ filter t (range_with_len (a + n) m)
filter-range_append t a n m = ap (filter t) (range_append a n m) ∙ filter-append t (range_with_len a n) (range_with_len (a + n) m)

kept_or_not : (t : ℕ → Bool) (b : Bool) (x : ℕ) (xs : List ℕ) → t x ≡ b → filter t (x ∷ xs) ≡ cond b (x ∷ filter t xs) (filter t xs)
kept_or_not t b x xs e = ap (λ c. cond c (x ∷ filter t xs) (filter t xs)) e

pub none_passes : (t : ℕ → Bool) (a n : ℕ) → ((x : ℕ) → a ≤ x → x < a + n → t x ≡ false) → filter t (range_with_len a n) ≡ []
none_passes t a zero none = refl
none_passes t a (suc n) none =
    kept_or_not t false a (range_with_len (a + 1) n) (none a (omega arith) (omega arith))
    ∙ none_passes t (a + 1) n (λ x low high. none x (omega arith) (omega arith))

pub filter_agree : (t u : ℕ → Bool) (a n : ℕ) → ((x : ℕ) → a ≤ x → x < a + n → t x ≡ u x) → filter t (range_with_len a n) ≡ filter u (range_with_len a n)
filter_agree t u a zero same = refl
filter_agree t u a (suc n) same =
    kept_or_not t (u a) a (range_with_len (a + 1) n) (same a (omega arith) (omega arith))
    ∙ ap (λ xs. cond (u a) (a ∷ xs) xs) (filter_agree t u (a + 1) n (λ x low high. same x (omega arith) (omega arith)))

-- a stretch in which none passes adds nothing
pub gap_kept : (t : ℕ → Bool) (a n m : ℕ) → n ≤ m → ((x : ℕ) → a + n ≤ x → x < a + m → t x ≡ false)
    → filter t (range_with_len a m) ≡ filter t (range_with_len a n)
gap_kept t a n m more none =
    let whole : m ≡ n + (m - n) = omega arith in
    ap (λ k. filter t (range_with_len a k)) whole ∙ filter-range_append t a n (m - n)
    ∙ ap (λ xs. filter t (range_with_len a n) ++ xs) (none_passes t (a + n) (m - n) (λ x low high. none x low (omega arith)))
    ∙ append-nil (filter t (range_with_len a n))

-- nor does one in which only its first number passes add more than that
pub next_kept : (t : ℕ → Bool) (a n m : ℕ) → n < m → t (a + n) ≡ true → ((x : ℕ) → a + n < x → x < a + m → t x ≡ false)
    → filter t (range_with_len a m) ≡ filter t (range_with_len a n) ++ (a + n) ∷ []
next_kept t a n m more passes none =
    gap_kept t a (n + 1) m (omega arith) (λ x low high. none x (omega arith) high)
    ∙ filter-range_append t a n 1
    ∙ ap (λ xs. filter t (range_with_len a n) ++ xs) (kept_or_not t true (a + n) [] passes)

-- what passes in n stretches of w numbers
pub chunks : (t : ℕ → Bool) (w a n : ℕ)
    → filter t (range_with_len (a * w) (n * w)) ≡ flat_map (λ j. filter t (range_with_len (j * w) w)) (range_with_len a n)
chunks t w a zero = let e : zero * w ≡ 0 = omega arith in ap (λ k. filter t (range_with_len (a * w) k)) e
chunks t w a (suc n) =
    let count : suc n * w ≡ w + n * w = omega arith in
    let next : a * w + w ≡ (a + 1) * w = omega arith in
    ap (λ k. filter t (range_with_len (a * w) k)) count ∙ filter-range_append t (a * w) w (n * w)
    ∙ ap (λ xs. filter t (range_with_len (a * w) w) ++ xs) (ap (λ b. filter t (range_with_len b (n * w))) next ∙ chunks t w (a + 1) n)

moved_one : (g : ℕ → ℕ) (c : Bool) (a b : ℕ) (xs : List ℕ) → g b ≡ a → cond c (a ∷ map g xs) (map g xs) ≡ map g (cond c (b ∷ xs) xs)
moved_one g true a b xs head = ap (λ k. k ∷ map g xs) (sym head)
moved_one g false a b xs head = refl

-- what holds of two stretches number by number holds of the first two, and of the rest
pub first_and_rest : (P : ℕ → ℕ → Type 0) (a b n : ℕ) → ((i : ℕ) → i < suc n → P (a + i) (b + i))
    → P a b × ((i : ℕ) → i < n → P (a + 1 + i) (b + 1 + i))
first_and_rest P a b n each = (
  rw (add-zero a, add-zero b) at (each 0 (omega arith)),
  λ i l. let one : a + 1 + i ≡ a + (i + 1) = omega arith in let two : b + 1 + i ≡ b + (i + 1) = omega arith in rw (one, two) (each (i + 1) (omega arith)),
)

-- the same test, elsewhere in the range
pub filter_moved : (t u : ℕ → Bool) (g : ℕ → ℕ) (a b n : ℕ) → ((i : ℕ) → i < n → t (a + i) ≡ u (b + i)) → ((i : ℕ) → i < n → g (b + i) ≡ a + i)
    → filter t (range_with_len a n) ≡ map g (filter u (range_with_len b n))
filter_moved t u g a b zero same moved = refl
filter_moved t u g a b (suc n) same moved =
    let tests = first_and_rest (λ x y. t x ≡ u y) a b n same in
    let moves = first_and_rest (λ x y. g y ≡ x) a b n moved in
    kept_or_not t (u b) a (range_with_len (a + 1) n) tests.0
    ∙ ap (λ xs. cond (u b) (a ∷ xs) xs) (filter_moved t u g (a + 1) (b + 1) n tests.1 moves.1)
    ∙ moved_one g (u b) a b (filter u (range_with_len (b + 1) n)) moves.0

-- ---- what is made of the numbers

pub flat_map-range_append : {A : Type 0} (f : ℕ → List A) (a n m : ℕ)
    → flat_map f (range_with_len a (n + m)) ≡ flat_map f (range_with_len a n) ++ flat_map f (range_with_len (a + n) m)
flat_map-range_append f a n m = ap (flat_map f) (range_append a n m) ∙ flat_map-append f (range_with_len a n) (range_with_len (a + n) m)

pub flat_map_agree : {A : Type 0} (f g : ℕ → List A) (a n : ℕ) → ((x : ℕ) → a ≤ x → x < a + n → f x ≡ g x)
    → flat_map f (range_with_len a n) ≡ flat_map g (range_with_len a n)
flat_map_agree f g a zero same = refl
flat_map_agree f g a (suc n) same =
    ap (λ xs. xs ++ flat_map f (range_with_len (a + 1) n)) (same a (omega arith) (omega arith))
    ∙ ap (λ xs. g a ++ xs) (flat_map_agree f g (a + 1) n (λ x low high. same x (omega arith) (omega arith)))

pub flat_map_none : {A : Type 0} (f : ℕ → List A) (a n : ℕ) → ((x : ℕ) → a ≤ x → x < a + n → f x ≡ []) → flat_map f (range_with_len a n) ≡ []
flat_map_none f a zero none = refl
flat_map_none f a (suc n) none =
    ap (λ xs. xs ++ flat_map f (range_with_len (a + 1) n)) (none a (omega arith) (omega arith))
    ∙ flat_map_none f (a + 1) n (λ x low high. none x (omega arith) (omega arith))

pub flat_map-range_more : {A : Type 0} (f : ℕ → List A) (a n j : ℕ) → a + n ≡ j → flat_map f (range_with_len a (n + 1)) ≡ flat_map f (range_with_len a n) ++ f j
flat_map-range_more f a n j e =
    ap (flat_map f) (range_more a n) ∙ flat_map-append f (range_with_len a n) ((a + n) ∷ [])
    ∙ ap (λ xs. flat_map f (range_with_len a n) ++ xs) (append-nil (f (a + n)) ∙ ap f e)

-- a loop's step: it put f j to the end of what it had
pub flat_map_step : {A : Type 0} (f : ℕ → List A) (old new : List A) (a n m j : ℕ) → old ≡ flat_map f (range_with_len a n) → new ≡ old ++ f j → a + n ≡ j
    → m ≡ n + 1 → new ≡ flat_map f (range_with_len a m)
flat_map_step f old new a n m j so_far more e last =
    more ∙ ap (λ xs. xs ++ f j) so_far ∙ sym (flat_map-range_more f a n j e) ∙ ap (λ k. flat_map f (range_with_len a k)) (sym last)

-- a loop that has put nothing to what there was before
pub stretch_none : {A : Type 0} (f : ℕ → List A) (before : List A) (a n : ℕ) → n ≡ 0 → before ≡ before ++ flat_map f (range_with_len a n)
stretch_none f before a n none = sym (append-nil before) ∙ ap (λ k. before ++ flat_map f (range_with_len a k)) (sym none)

-- its step: it put f j to the end
pub stretch_more : {A : Type 0} (f : ℕ → List A) (before old new : List A) (a n m j : ℕ) → old ≡ before ++ flat_map f (range_with_len a n) → new ≡ old ++ f j
    → a + n ≡ j → m ≡ n + 1 → new ≡ before ++ flat_map f (range_with_len a m)
stretch_more f before old new a n m j so_far more e last =
    more ∙ ap (λ xs. xs ++ f j) so_far ∙ append_assoc before (flat_map f (range_with_len a n)) (f j)
    ∙ ap (λ xs. before ++ xs) (sym (flat_map-range_more f a n j e)) ∙ ap (λ k. before ++ flat_map f (range_with_len a k)) (sym last)

-- ---- numbered elements

pub enumerate_from_more : {X : Type 0} (xs : List X) (i : ℕ) (d : X) → i < length xs
    → enumerate_from 0 (take (i + 1) xs) ≡ enumerate_from 0 (take i xs) ++ (i, get_or xs i d) ∷ []
enumerate_from_more xs i d l =
    let e : 0 + length (take i xs) ≡ i = omega (arith, length-take-le i xs) in
    ap (enumerate_from 0) (take_more xs i d l) ∙ enumerate_from_push 0 (take i xs) (get_or xs i d)
    ∙ ap (λ k. enumerate_from 0 (take i xs) ++ (k, get_or xs i d) ∷ []) e

pub flat_map-enumerate_from_more : {X A : Type 0} (f : ℕ × X → List A) (xs : List X) (i : ℕ) (d : X) → i < length xs
    → flat_map f (enumerate_from 0 (take (i + 1) xs)) ≡ flat_map f (enumerate_from 0 (take i xs)) ++ f (i, get_or xs i d)
flat_map-enumerate_from_more {X} f xs i d l =
    let e : ℕ × X = (i, get_or xs i d) in
    ap (flat_map f) (enumerate_from_more xs i d l) ∙ flat_map-append f (enumerate_from 0 (take i xs)) (e ∷ [])
    ∙ ap (λ t. flat_map f (enumerate_from 0 (take i xs)) ++ t) (append-nil (f e))
