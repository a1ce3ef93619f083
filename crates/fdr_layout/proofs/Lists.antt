-- One more element of a range or an enumeration, and stretches of 12.
use Rattle.std.proofs.Common.{◌≡◌, ℕ, ◌+◌, ◌<◌, List, [], ◌∷◌, ◌++◌, length, get_or, take, map, refl}
use Rattle.std.proofs.Common.{sym, ap, ◌∙◌, zero, suc, ◌*◌, arith}
use Rattle.std.specs.List.{range_with_len, flat_map, enumerate_from}
use Rattle.std.proofs.lemmas.List.FromFn.{map-range_with_len_more}
use Rattle.fdr_check.proofs.Stretches.{flat_map-range_append, flat_map-enumerate_from_more}

pub map_step : {A : Type 0} (f : ℕ → A) (old new : List A) (a n m j : ℕ) → old ≡ map f (range_with_len a n) → new ≡ old ++ f j ∷ [] → a + n ≡ j → m ≡ n + 1
    → new ≡ map f (range_with_len a m)
map_step f old new a n m j so_far more e last =
    more ∙ ap (λ xs. xs ++ f j ∷ []) so_far ∙ sym (map-range_with_len_more f a n j e) ∙ ap (λ k. map f (range_with_len a k)) (sym last)

pub enumerate_from_step : {X A : Type 0} (f : ℕ × X → List A) (xs : List X) (i : ℕ) (x : X) (old new : List A) → i < length xs → x ≡ get_or xs i x
    → old ≡ flat_map f (enumerate_from 0 (take i xs)) → new ≡ old ++ f (i, x) → new ≡ flat_map f (enumerate_from 0 (take (i + 1) xs))
enumerate_from_step f xs i x old new l is so_far more =
    more ∙ ap (λ ys. ys ++ f (i, x)) so_far ∙ ap (λ z. flat_map f (enumerate_from 0 (take i xs)) ++ f (i, z)) is
    ∙ sym (flat_map-enumerate_from_more f xs i x l)

-- stretches of 12
pub flat_map_twelves : {A : Type 0} (f : ℕ → List A) (a m : ℕ)
    → flat_map (λ k. flat_map f (range_with_len (12 * k) 12)) (range_with_len a m) ≡ flat_map f (range_with_len (12 * a) (12 * m))
flat_map_twelves f a zero = refl
flat_map_twelves f a (suc m) =
    let next : 12 * (a + 1) ≡ 12 * a + 12 = omega arith in
    let count : 12 + 12 * m ≡ 12 * suc m = omega arith in
    ap (λ xs. flat_map f (range_with_len (12 * a) 12) ++ xs) (flat_map_twelves f (a + 1) m ∙ ap (λ b. flat_map f (range_with_len b (12 * m))) next)
    ∙ sym (flat_map-range_append f (12 * a) 12 (12 * m)) ∙ ap (λ n. flat_map f (range_with_len (12 * a) n)) count
