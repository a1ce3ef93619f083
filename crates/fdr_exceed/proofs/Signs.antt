-- Values and the same with the other sign.
use Rattle.std.proofs.Common.{◌≡◌, ◌∙◌, ap, sym, ℕ, ◌-◌, ◌≤◌, List, [], ◌∷◌, ◌++◌, length, map, drop, arith}
use Rattle.std.specs.Prelude.{ℤ, pos, neg_ℤ, ◌+ℤ◌, ◌-ℤ◌}
use Rattle.std.proofs.lemmas.Int.{ints, to_z-of_z}
use Rattle.std.proofs.lemmas.List.{length-map, map-append, drop-map}
use Rattle.circular_buffer.specs.Buffer.{Buffer, buffer, keep_last}
use Rattle.fdr_exceed.specs.Exceedances.{highest, spread}
use Rattle.fdr_exceed.specs.Windows.{IsWatched, IsWindow}
use Rattle.fdr_exceed.proofs.Greatests.{spread-signs}
use mir.Syntax.{w64}
use mir.Val.{SFits, to_z, of_z}

pub keep_last-map : (n : ℕ) (xs : List ℤ) → keep_last n (map neg_ℤ xs) ≡ map neg_ℤ (keep_last n xs)
keep_last-map n xs = ap (λ k. drop (k - n) (map neg_ℤ xs)) (length-map xs neg_ℤ) ∙ drop-map neg_ℤ (length xs - n) xs

-- a value more, on both sides
pub window-push : (high low high' low' : Buffer ℤ) (v x : ℤ) → IsWindow high low
    → high' ≡ buffer (keep_last high.capacity (high.items ++ v ∷ [])) high.capacity
    → low' ≡ buffer (keep_last low.capacity (low.items ++ x ∷ [])) low.capacity → x ≡ neg_ℤ v → IsWindow high' low'
window-push high low high' low' v x are high_is low_is sign =
    let high_room = ap (λ (b : Buffer ℤ). b.capacity) high_is in
    let low_room = ap (λ (b : Buffer ℤ). b.capacity) low_is in
    record {
      some_room = omega (arith, high_room, are.some_room);
      room = low_room ∙ are.room ∙ sym high_room;
      signs = ap (λ (b : Buffer ℤ). b.items) low_is
          ∙ ap (λ n. keep_last n (low.items ++ x ∷ [])) are.room
          ∙ ap (λ (xs : List ℤ). keep_last high.capacity (xs ++ x ∷ [])) are.signs
          ∙ ap (λ (y : ℤ). keep_last high.capacity (map neg_ℤ high.items ++ y ∷ [])) sign
          ∙ ap (keep_last high.capacity) (sym (map-append neg_ℤ high.items (v ∷ [])))
          ∙ keep_last-map high.capacity (high.items ++ v ∷ [])
          ∙ ap (λ (b : Buffer ℤ). map neg_ℤ b.items) (sym high_is);
    }

-- the greatest values of both sides make the spread
pub signs-spread : (high low : Buffer ℤ) (x y : ℤ) → IsWindow high low → 1 ≤ length high.items → (1 ≤ length high.items → x ≡ highest high.items)
    → (1 ≤ length low.items → y ≡ highest low.items) → x +ℤ y ≡ spread high.items
signs-spread high low x y are some first second =
    let count : length low.items ≡ length high.items = ap (length {A = ℤ}) are.signs ∙ length-map high.items neg_ℤ in
    ap (λ n. n +ℤ y) (first some) ∙ ap (λ n. highest high.items +ℤ n) (second (omega (arith, count, some)) ∙ ap highest are.signs) ∙ spread-signs high.items

pub sum-fits : (x y : ℤ) → IsWatched x → IsWatched y → SFits w64 (x +ℤ y)
sum-fits x y first second = omega (arith, ints, first.low, first.high, second.low, second.high)

pub other-sign : (v : ℤ) → IsWatched v → to_z w64 (of_z w64 (pos 0 -ℤ v)) ≡ neg_ℤ v
other-sign v watched =
    let fits : SFits w64 (pos 0 -ℤ v) = omega (arith, ints, watched.low, watched.high) in
    let negated : pos 0 -ℤ v ≡ neg_ℤ v = omega (arith, ints) in
    to_z-of_z w64 (pos 0 -ℤ v) fits ∙ negated
