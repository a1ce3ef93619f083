-- Lists that are one after another in a flat list.
use Rattle.std.proofs.Common.{◌≡◌, ℕ, ◌+◌, ◌-◌, ◌*◌, ◌<◌, ◌≤◌, Bool, true, false, ◌||◌, cond, List, [], ◌∷◌, ◌++◌, Option, Some, map, length, get_or}
use Rattle.std.proofs.Common.{take, drop, option_map}
use Rattle.std.proofs.Common.{inl, inr, refl, sym, ap, ◌∙◌, zero, suc, zero-add, arith}
use Rattle.std.specs.List.{All, filter, flat_map, find, list_any, range_with_len}
use Rattle.std.proofs.lemmas.Bool.{cases_eq, or_left, or_right}
use Rattle.std.proofs.lemmas.List.{length-append, map-append, take_at, drop_at}
use Rattle.std.proofs.lemmas.List.Elements.{All-head, All-tail}
use Rattle.std.proofs.lemmas.List.Folds.{list_any-append, list_any_at}
use Rattle.std.proofs.lemmas.List.FromFn.{length-map-range_with_len, get_or-map-range_with_len}
use Rattle.fdr_lists.proofs.Ranges.{map-range-agree}
use Rattle.fdr_layout.specs.Flat.{segment, segments, AreStarts}
use Rattle.fdr_check.proofs.Counting.{stands_kept}
use Rattle.fdr_check.proofs.Stretches.{flat_map-range_more, flat_map-range_append}

-- where the first k of them end
abbrev pub ends : {X : Type 0} → (ℕ → List X) → ℕ → ℕ
ends f k = length (flat_map f (range_with_len 0 k))

-- where each of n begins, and where the last ends
abbrev pub ends_of : {X : Type 0} → (ℕ → List X) → ℕ → List ℕ
ends_of f n = map (ends f) (range_with_len 0 (n + 1))

pub end_at : {X : Type 0} (f : ℕ → List X) (n k : ℕ) (starts : List ℕ) → starts ≡ ends_of f n → k ≤ n → get_or starts k 0 ≡ ends f k
end_at f n k starts are within =
    ap (λ xs. get_or xs k 0) are ∙ get_or-map-range_with_len (ends f) 0 (n + 1) k k 0 (omega arith) (zero-add k)

pub end_next : {X : Type 0} (f : ℕ → List X) (k : ℕ) → ends f (k + 1) ≡ ends f k + length (f k)
end_next f k = ap length (flat_map-range_more f 0 k k (zero-add k)) ∙ length-append (flat_map f (range_with_len 0 k)) (f k)

split_at : {X : Type 0} (f : ℕ → List X) (n k : ℕ) → k < n
    → flat_map f (range_with_len 0 n) ≡ flat_map f (range_with_len 0 k) ++ (f k ++ flat_map f (range_with_len (k + 1) (n - (k + 1))))
split_at f n k within =
    let whole : n ≡ k + suc (n - (k + 1)) = omega arith in
    ap (λ m. flat_map f (range_with_len 0 m)) whole ∙ flat_map-range_append f 0 k (suc (n - (k + 1)))
    ∙ ap (λ a. flat_map f (range_with_len 0 k) ++ flat_map f (range_with_len a (suc (n - (k + 1))))) (zero-add k)

pub segment_is : {X : Type 0} (f : ℕ → List X) (n k : ℕ) (starts : List ℕ) (flat : List X) → starts ≡ ends_of f n → flat ≡ flat_map f (range_with_len 0 n)
    → k < n → segment starts flat k ≡ f k
segment_is f n k starts flat are is within =
    let a = ends f k in
    let rest = flat_map f (range_with_len (k + 1) (n - (k + 1))) in
    let from : get_or starts k 0 ≡ a = end_at f n k starts are (omega arith) in
    let to : get_or starts (k + 1) 0 ≡ a + length (f k) = end_at f n (k + 1) starts are (omega arith) ∙ end_next f k in
    let count : get_or starts (k + 1) 0 - get_or starts k 0 ≡ length (f k) = omega (arith, from, to) in
    ap (λ m. take m (drop (get_or starts k 0) flat)) count
    ∙ ap (λ m. take (length (f k)) (drop m flat)) from
    ∙ ap (λ xs. take (length (f k)) xs) (ap (drop a) (is ∙ split_at f n k within) ∙ drop_at (flat_map f (range_with_len 0 k)) (f k ++ rest) a refl)
    ∙ take_at (f k) rest (length (f k)) refl

pub segments_are : {X : Type 0} (f : ℕ → List X) (n : ℕ) (starts : List ℕ) (flat : List X) → starts ≡ ends_of f n → flat ≡ flat_map f (range_with_len 0 n)
    → segments starts flat ≡ map f (range_with_len 0 n)
segments_are f n starts flat are is =
    let long : length starts ≡ n + 1 = ap length are ∙ length-map-range_with_len (ends f) 0 (n + 1) in
    let count : length starts - 1 ≡ n = omega arith in
    ap (λ m. map (segment starts flat) (range_with_len 0 m)) count
    ∙ map-range-agree (segment starts flat) f 0 n (λ k low high. segment_is f n k starts flat are is (omega (arith, high)))

pub starts_are : {X : Type 0} (f : ℕ → List X) (n : ℕ) (starts : List ℕ) (flat : List X) → starts ≡ ends_of f n → flat ≡ flat_map f (range_with_len 0 n)
    → AreStarts starts (length flat)
starts_are f n starts flat are is =
    let long : length starts ≡ n + 1 = ap length are ∙ length-map-range_with_len (ends f) 0 (n + 1) in
    let all : length flat ≡ ends f n = ap length is in
    record {
      not_empty = omega (arith, long);
      rise = λ k l. omega (arith, long, end_at f n k starts are (omega (arith, long)), end_at f n (k + 1) starts are (omega (arith, long)), end_next f k);
      within = λ k l.
          let whole : n ≡ k + (n - k) = omega (arith, long) in
          let split : ends f n ≡ ends f k + length (flat_map f (range_with_len (0 + k) (n - k))) =
          ap (ends f) whole ∙ ap length (flat_map-range_append f 0 k (n - k))
          ∙ length-append (flat_map f (range_with_len 0 k)) (flat_map f (range_with_len (0 + k) (n - k))) in
          omega (arith, all, split, end_at f n k starts are (omega (arith, long)));
    }

-- the same where only the first ones count
pub ends_agree : {X : Type 0} (f : ℕ → List X) (n : ℕ) (g : ℕ → ℕ) → ((k : ℕ) → k ≤ n → g k ≡ ends f k) → map g (range_with_len 0 (n + 1)) ≡ ends_of f n
ends_agree f n g same = map-range-agree g (ends f) 0 (n + 1) (λ k low high. same k (omega (arith, high)))

-- ---- lists of lists

-- what can be made of a list part by part
pub through-flat_map : {X A B : Type 0} (h : List A → List B) (f : X → List A) → h [] ≡ [] → ((xs ys : List A) → h (xs ++ ys) ≡ h xs ++ h ys) → (ks : List X)
    → h (flat_map f ks) ≡ flat_map (λ k. h (f k)) ks
through-flat_map h f none parts [] = none
through-flat_map h f none parts (k ∷ ks) = parts (f k) (flat_map f ks) ∙ ap (λ xs. h (f k) ++ xs) (through-flat_map h f none parts ks)

pub map-flat_map : {X A B : Type 0} (g : A → B) (f : X → List A) (ks : List X) → map g (flat_map f ks) ≡ flat_map (λ k. map g (f k)) ks
map-flat_map g f ks = through-flat_map (map g) f refl (map-append g) ks

pub flat_map_chunks : {A : Type 0} (f : ℕ → List A) (m a n : ℕ)
    → flat_map (λ j. flat_map f (range_with_len (m * j) m)) (range_with_len a n) ≡ flat_map f (range_with_len (m * a) (n * m))
flat_map_chunks f m a zero = let e : 0 ≡ zero * m = omega arith in ap (λ k. flat_map f (range_with_len (m * a) k)) e
flat_map_chunks f m a (suc n) =
    let next : m * (a + 1) ≡ m * a + m = omega arith in
    let count : m + n * m ≡ suc n * m = omega arith in
    ap (λ xs. flat_map f (range_with_len (m * a) m) ++ xs) (flat_map_chunks f m (a + 1) n ∙ ap (λ b. flat_map f (range_with_len b (n * m))) next)
    ∙ sym (flat_map-range_append f (m * a) m (n * m)) ∙ ap (λ k. flat_map f (range_with_len (m * a) k)) count

-- ---- searches

pub any_in_piece : {X : Type 0} (t : X → Bool) (f : ℕ → List X) (a n x : ℕ) → a ≤ x → x < a + n → list_any t (f x) ≡ true
    → list_any t (flat_map f (range_with_len a n)) ≡ true
any_in_piece t f a zero x low high any = absurd (omega arith)
any_in_piece t f a (suc n) x low high any =
    list_any-append t (f a) (flat_map f (range_with_len (a + 1) n)) ∙ elim (cases_eq a x) [
      | inl e ↦ or_left (list_any t (f a)) (list_any t (flat_map f (range_with_len (a + 1) n))) (ap (λ k. list_any t (f k)) e ∙ any)
      | inr apart ↦ or_right (list_any t (f a)) (list_any t (flat_map f (range_with_len (a + 1) n)))
          (any_in_piece t f (a + 1) n x (omega arith) (omega arith) any)
    ]

-- an element that passes both
pub any_kept : {X : Type 0} (t u : X → Bool) (xs : List X) (j : ℕ) (d : X) → j < length xs → u (get_or xs j d) ≡ true → t (get_or xs j d) ≡ true
    → list_any t (filter u xs) ≡ true
any_kept t u xs j d l kept passes =
    let stands = stands_kept u xs j d l kept in
    list_any_at t (filter u xs) stands.0 d stands.1 (ap t stands.2 ∙ passes)

found_at : {X : Type 0} (b : Bool) (x v : X) (o : Option X) (later : Bool) → (b || later) ≡ true → (b ≡ true → x ≡ v) → (later ≡ true → o ≡ Some v)
    → cond b (Some x) o ≡ Some v
found_at true x v o later any same rest = ap Some (same refl)
found_at false x v o later any same rest = rest any

-- a search that can find but one
pub find_known : {X : Type 0} (t : X → Bool) (v : X) (xs : List X) → All (λ x. t x ≡ true → x ≡ v) xs → list_any t xs ≡ true → find t xs ≡ Some v
find_known t v [] all any = absurd (cc)
find_known t v (x ∷ xs) all any =
    found_at (t x) x v (find t xs) (list_any t xs) any (All-head (λ y. t y ≡ true → y ≡ v) x xs all)
    (find_known t v xs (All-tail (λ y. t y ≡ true → y ≡ v) x xs all))

mapped_cond : {X Y : Type 0} (g : X → Y) (b : Bool) (x : X) (o : Option X) → option_map g (cond b (Some x) o) ≡ cond b (Some (g x)) (option_map g o)
mapped_cond g true x o = refl
mapped_cond g false x o = refl

pub find-map : {X Y : Type 0} (t : Y → Bool) (g : X → Y) (xs : List X) → find t (map g xs) ≡ option_map g (find (λ x. t (g x)) xs)
find-map t g [] = refl
find-map t g (x ∷ xs) = ap (cond (t (g x)) (Some (g x))) (find-map t g xs) ∙ sym (mapped_cond g (t (g x)) x (find (λ y. t (g y)) xs))
