-- The values that no later one is over.
use Rattle.std.proofs.Common.{◌≡◌, ◌≢◌, ◌∙◌, ap, sym, refl, ℕ, zero, suc, ◌-◌, ◌<◌, ◌≤◌, Bool, true, false, cond, ◌&&◌}
use Rattle.std.proofs.Common.{List, [], ◌∷◌, ◌++◌, length, take, drop, Option, Some, None, arith, length-append, ◌⊎◌, inl, inr}
use Rattle.std.specs.Prelude.{ℤ, int_lt, not, slice_get, if◌then◌else◌, nat_lt}
use Rattle.std.specs.List.{list_all}
use Rattle.std.specs.Option.{option_map_or}
use Rattle.std.proofs.lemmas.Int.{ints}
use Rattle.std.proofs.lemmas.Bool.{and_parts, and_from, cond-true, cond-false, false≢true, cases_lt, lt-ltb, le-ltb}
use Rattle.std.proofs.lemmas.List.Folds.{list_all-append}
use Rattle.circular_buffer.specs.Buffer.{keep_last, last_item}
use Rattle.fdr_exceed.specs.Exceedances.{highest}
use Rattle.fdr_exceed.specs.Windows.{is_at_most, unsurpassed}
use Rattle.fdr_exceed.proofs.Greatests.{all-at_most, front-greatest}

-- each value is over none before it
abbrev pub IsFalling : List ℤ → Type 0
IsFalling [] = Unit {0}
IsFalling (x ∷ xs) = (list_all (is_at_most x) xs ≡ true) × IsFalling xs

all_kept : (p : ℤ → Bool) (b : Bool) (x : ℤ) (u : List ℤ) → p x ≡ true → list_all p u ≡ true → list_all p (cond b (x ∷ u) u) ≡ true
all_kept p true x u first rest = and_from (p x) (list_all p u) first rest
all_kept p false x u first rest = rest

-- what holds of all values holds of those that no later one is over
all_unsurpassed : (p : ℤ → Bool) (xs : List ℤ) → list_all p xs ≡ true → list_all p (unsurpassed xs) ≡ true
all_unsurpassed p [] h = refl
all_unsurpassed p (x ∷ xs) h =
    let both = and_parts (p x) (list_all p xs) h in
    all_kept p (list_all (is_at_most x) xs) x (unsurpassed xs) both.0 (all_unsurpassed p xs both.1)

falls_by : (b : Bool) (x : ℤ) (u : List ℤ) → (b ≡ true → list_all (is_at_most x) u ≡ true) → IsFalling u → IsFalling (cond b (x ∷ u) u)
falls_by true x u above falls = (above refl, falls)
falls_by false x u above falls = falls

pub unsurpassed-falls : (xs : List ℤ) → IsFalling (unsurpassed xs)
unsurpassed-falls [] = tt
unsurpassed-falls (x ∷ xs) =
    falls_by (list_all (is_at_most x) xs) x (unsurpassed xs) (λ all. all_unsurpassed (is_at_most x) xs all) (unsurpassed-falls xs)

fewer_by : (b : Bool) (x : ℤ) (u : List ℤ) (n : ℕ) → length u ≤ n → length (cond b (x ∷ u) u) ≤ suc n
fewer_by true x u n few = omega arith
fewer_by false x u n few = omega arith

pub unsurpassed-fewer : (xs : List ℤ) → length (unsurpassed xs) ≤ length xs
unsurpassed-fewer [] = omega arith
unsurpassed-fewer (x ∷ xs) = fewer_by (list_all (is_at_most x) xs) x (unsurpassed xs) (length xs) (unsurpassed-fewer xs)

-- those of the values that aren't under v
abbrev pub not_under : ℤ → List ℤ → List ℤ
not_under v [] = []
not_under v (x ∷ xs) = cond (is_at_most x v) (x ∷ not_under v xs) (not_under v xs)

enters_by : (a b : Bool) (x v : ℤ) (u more : List ℤ) → is_at_most x v ≡ b → more ≡ not_under v u ++ v ∷ []
    → cond (a && (b && true)) (x ∷ more) more ≡ not_under v (cond a (x ∷ u) u) ++ v ∷ []
enters_by true true x v u more over same = rw over (ap (λ ys. x ∷ ys) same)
enters_by true false x v u more over same = rw over same
enters_by false b x v u more over same = same

-- a value comes after all others
pub unsurpassed-push : (xs : List ℤ) (v : ℤ) → unsurpassed (xs ++ v ∷ []) ≡ not_under v (unsurpassed xs) ++ v ∷ []
unsurpassed-push [] v = refl
unsurpassed-push (x ∷ xs) v =
    ap (λ b. cond b (x ∷ unsurpassed (xs ++ v ∷ [])) (unsurpassed (xs ++ v ∷ []))) (list_all-append (is_at_most x) xs (v ∷ []))
    ∙ enters_by (list_all (is_at_most x) xs) (is_at_most x v) x v (unsurpassed xs) (unsurpassed (xs ++ v ∷ [])) refl (unsurpassed-push xs v)

-- the last of some values is under v
abbrev pub ends_under : ℤ → List ℤ → Bool
ends_under v xs = option_map_or (λ last. int_lt last v) (last_item xs) false

last_more : (x y : ℤ) (ys : List ℤ) → last_item (x ∷ y ∷ ys) ≡ last_item (y ∷ ys)
last_more x y ys =
    let e : length (x ∷ y ∷ ys) - 1 ≡ suc (length (y ∷ ys) - 1) = omega arith in
    ap (slice_get (x ∷ y ∷ ys)) e

last_one : (x : ℤ) → last_item (x ∷ []) ≡ Some x
last_one x = refl

not_true : (b : Bool) → b ≡ false → not b ≡ true
not_true b isnt = ap not isnt

at_most_then : (x y v : ℤ) → is_at_most x y ≡ true → is_at_most y v ≡ true → is_at_most x v ≡ true
at_most_then x y v first second = grind (arith, ints)

-- where the last isn't under v, none is
none_under : (v : ℤ) (xs : List ℤ) → IsFalling xs → ends_under v xs ≡ false → list_all (λ x. is_at_most x v) xs ≡ true
none_under v [] falls isnt = refl
none_under v (x ∷ []) falls isnt = and_from (is_at_most x v) true (not_true (int_lt x v) isnt) refl
none_under v (x ∷ y ∷ ys) falls isnt =
    let rest = none_under v (y ∷ ys) falls.1 (ap (λ (o : Option ℤ). option_map_or (λ last. int_lt last v) o false) (sym (last_more x y ys)) ∙ isnt) in
    let next = (and_parts (is_at_most y v) (list_all (λ z. is_at_most z v) ys) rest).0 in
    let over = (and_parts (is_at_most x y) (list_all (is_at_most x) ys) falls.0).0 in
    and_from (is_at_most x v) (list_all (λ z. is_at_most z v) (y ∷ ys)) (at_most_then x y v over next) rest

all_not_under : (v : ℤ) (xs : List ℤ) → list_all (λ x. is_at_most x v) xs ≡ true → not_under v xs ≡ xs
all_not_under v [] h = refl
all_not_under v (x ∷ xs) h =
    let both = and_parts (is_at_most x v) (list_all (λ z. is_at_most z v) xs) h in
    rw (both.0) (ap (λ ys. x ∷ ys) (all_not_under v xs both.1))

pub not_under-whole : (v : ℤ) (xs : List ℤ) → IsFalling xs → ends_under v xs ≡ false → not_under v xs ≡ xs
not_under-whole v xs falls isnt = all_not_under v xs (none_under v xs falls isnt)

-- the last goes, where it is under v
pub not_under-pop : (v : ℤ) (xs : List ℤ) → ends_under v xs ≡ true → not_under v (take (length xs - 1) xs) ≡ not_under v xs
not_under-pop v [] under = absurd (false≢true under)
not_under-pop v (x ∷ []) under = let under_v : is_at_most x v ≡ false = ap not under in rw under_v refl
not_under-pop v (x ∷ y ∷ ys) under =
    let e : length (x ∷ y ∷ ys) - 1 ≡ suc (length (y ∷ ys) - 1) = omega arith in
    let rest = not_under-pop v (y ∷ ys) (ap (λ (o : Option ℤ). option_map_or (λ last. int_lt last v) o false) (sym (last_more x y ys)) ∙ under) in
    ap (λ n. not_under v (take n (x ∷ y ∷ ys))) e ∙ ap (λ zs. cond (is_at_most x v) (x ∷ zs) zs) rest

all_take : (p : ℤ → Bool) (n : ℕ) (xs : List ℤ) → list_all p xs ≡ true → list_all p (take n xs) ≡ true
all_take p zero xs h = refl
all_take p (suc n) [] h = refl
all_take p (suc n) (x ∷ xs) h =
    let both = and_parts (p x) (list_all p xs) h in
    and_from (p x) (list_all p (take n xs)) both.0 (all_take p n xs both.1)

pub IsFalling-take : (n : ℕ) (xs : List ℤ) → IsFalling xs → IsFalling (take n xs)
IsFalling-take zero xs falls = tt
IsFalling-take (suc n) [] falls = tt
IsFalling-take (suc n) (x ∷ xs) falls = (all_take (is_at_most x) n xs falls.0, IsFalling-take n xs falls.1)

pub ends_under-some : (v : ℤ) (xs : List ℤ) → ends_under v xs ≡ true → 1 ≤ length xs
ends_under-some v [] under = absurd (false≢true under)
ends_under-some v (x ∷ xs) under = omega arith

at_most_itself : (x : ℤ) → is_at_most x x ≡ true
at_most_itself x = grind (arith, ints)

-- a value that a later one is over isn't the first of those that none is over
surpassed : (x : ℤ) (rest : List ℤ) → list_all (is_at_most x) rest ≡ false → slice_get (unsurpassed rest) 0 ≡ Some x → false ≡ true
surpassed x [] over here = sym over
surpassed x (y ∷ ys) over here =
    let same : highest (y ∷ ys) ≡ x = let e = sym (front-greatest y ys) ∙ here in cc in
    sym over ∙ all-at_most x y ys ∙ ap (is_at_most x) same ∙ at_most_itself x

leaves_by : (a : Bool) (x : ℤ) (rest items : List ℤ) → list_all (is_at_most x) rest ≡ a → items ≡ cond a (x ∷ unsurpassed rest) (unsurpassed rest)
    → slice_get items 0 ≡ Some x → drop 1 items ≡ unsurpassed rest
leaves_by true x rest items all are here = ap (drop 1) are
leaves_by false x rest items all are here = absurd (false≢true (surpassed x rest all (ap (λ (xs : List ℤ). slice_get xs 0) (sym are) ∙ here)))

-- the first value leaves
pub unsurpassed-leaves : (x : ℤ) (rest items : List ℤ) → items ≡ unsurpassed (x ∷ rest) → slice_get items 0 ≡ Some x → drop 1 items ≡ unsurpassed rest
unsurpassed-leaves x rest items are here = leaves_by (list_all (is_at_most x) rest) x rest items refl are here

stays_by : (a : Bool) (x : ℤ) (rest items : List ℤ) → items ≡ cond a (x ∷ unsurpassed rest) (unsurpassed rest)
    → slice_get items 0 ≢ Some x → items ≡ unsurpassed rest
stays_by true x rest items are other = absurd (other (ap (λ (xs : List ℤ). slice_get xs 0) are))
stays_by false x rest items are other = are

pub unsurpassed-stays : (x : ℤ) (rest items : List ℤ) → items ≡ unsurpassed (x ∷ rest) → slice_get items 0 ≢ Some x → items ≡ unsurpassed rest
unsurpassed-stays x rest items are other = stays_by (list_all (is_at_most x) rest) x rest items are other

-- What a push of v leaves of some values, and of those that no later one is over once the first has left.
pub record LeavesOf (cap : ℕ) (values falling : List ℤ) (v : ℤ) : Type 0 where
  pub rest : List ℤ
  pub falls : falling ≡ unsurpassed rest
  pub keeps : keep_last cap (values ++ v ∷ []) ≡ rest ++ v ∷ []
  pub room : length rest < cap

kept_whole : (cap : ℕ) (xs : List ℤ) → length xs ≤ cap → keep_last cap xs ≡ xs
kept_whole cap xs few = let e : length xs - cap ≡ 0 = omega arith in ap (λ n. drop n xs) e

full_leaves : (cap : ℕ) (values old new : List ℤ) (v : ℤ) → 1 ≤ cap → length values ≡ cap → old ≡ unsurpassed values
    → ((x : ℤ) (rest : List ℤ) → slice_get (values ++ v ∷ []) 0 ≡ Some x → old ≡ unsurpassed (x ∷ rest) → new ≡ unsurpassed rest)
    → LeavesOf cap values new v
full_leaves cap [] old new v some full falls leaves = absurd (omega arith)
full_leaves cap (x ∷ xs) old new v some full falls leaves =
    let one : length ((x ∷ xs) ++ v ∷ []) - cap ≡ 1 = omega (arith, length-append (x ∷ xs) (v ∷ [])) in
    record {
      rest = xs;
      falls = leaves x xs refl falls;
      keeps = ap (λ n. drop n ((x ∷ xs) ++ v ∷ [])) one;
      room = omega arith;
    }

pub push-leaves : (cap : ℕ) (values old new : List ℤ) (v : ℤ) (first : Option ℤ) → 1 ≤ cap → length values ≤ cap → old ≡ unsurpassed values
    → first ≡ (if nat_lt (length values) cap then None else slice_get (values ++ v ∷ []) 0)
    → (first ≡ None → new ≡ old)
    → ((x : ℤ) (rest : List ℤ) → first ≡ Some x → old ≡ unsurpassed (x ∷ rest) → new ≡ unsurpassed rest)
    → LeavesOf cap values new v
push-leaves cap values old new v first some within falls is none leaves = by_room (cases_lt (length values) cap)
  where
    by_room : (length values < cap) ⊎ (cap ≤ length values) → LeavesOf cap values new v
    by_room (inl few) =
        let nothing : first ≡ None = is ∙ cond-true _ _ _ (lt-ltb (length values) cap few) in
        record {
          rest = values;
          falls = none nothing ∙ falls;
          keeps = kept_whole cap (values ++ v ∷ []) (omega (arith, length-append values (v ∷ []), few));
          room = few;
        }
    by_room (inr full) =
        let one : first ≡ slice_get (values ++ v ∷ []) 0 = is ∙ cond-false _ _ _ (le-ltb (length values) cap full) in
        full_leaves cap values old new v some (omega arith) falls (λ x rest here. leaves x rest (one ∙ here))
