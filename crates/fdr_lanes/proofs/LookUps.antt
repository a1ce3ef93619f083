-- Look-ups in a table of 16 bytes by halves of bytes, 32 lanes at once.
use Rattle.std.proofs.Common.{◌≡◌, ℕ, ◌+◌, ◌*◌, ◌/◌, ◌^◌, ◌<◌, List, ◌++◌, map, length, get_or, replicate, bit_and, refl, sym, ap, ◌∙◌, arith}
use Rattle.std.proofs.Common.{eqb, eqb→eq, w8, Fits}
use Rattle.std.proofs.lemmas.List.{get_or-map, length-map, ext_get_or, get_or_append_left}
use Rattle.std.proofs.lemmas.Nat.{and_le_r}
use Rattle.std.proofs.lemmas.Simd.{Each1-all, Each1-weaker, Each1-zip2, Each1-get_or, Each2-splat, below_from_Fits, length-zip2, zip2_splat}
use Rattle.std.proofs.lemmas.Simd.{swz_l, SwzOk, SwzOk-from_below, length-swz_l, get_or-swz_l_below}
use lib.Lanes.{zip2, pick_l, Each1}
use Rattle.fdr_lanes.specs.declared.candidates.TheConstants.{TWICE}
use Rattle.fdr_lanes.proofs.Bounded.{test_below, each_below}

-- 32 lanes of bytes
abbrev pub AreLanes : List ℕ → Type 0
AreLanes v = (length v ≡ 32) × Each1 (Fits w8) v

pub lane_fits : (v : List ℕ) → AreLanes v → (k : ℕ) → k < 32 → get_or v k 0 < 256
lane_fits v are k h = (Each1-get_or (Fits w8) v k 0 (omega (arith, are.0)) are.1).fits

abbrev pub upper : ℕ → ℕ → ℕ
upper a b = a / 2 ^ b

pub upper_ok : (v : List ℕ) → AreLanes v → SwzOk w8 16 32 0 (zip2 upper v (replicate 32 4))
upper_ok v are =
    let small = Each1-weaker (λ a. a < 256) (λ a. a / 16 < 16) (λ a h. omega arith) v (below_from_Fits w8 v are.1) in
    SwzOk-from_below w8 16 2 32 0 (zip2 upper v (replicate 32 4)) refl (omega (arith, length-zip2 upper v (replicate 32 4) are.0))
    (Each1-zip2 upper (λ j. j < 16) v (replicate 32 4) (Each2-splat (λ a b. upper a b < 16) v 32 4 small))

pub lower_ok : (v : List ℕ) → AreLanes v → SwzOk w8 16 32 0 (zip2 bit_and v (replicate 32 15))
lower_ok v are =
    let small = Each1-all (λ a. bit_and a 15 < 16) (λ a. omega (arith, and_le_r a 15)) v in
    SwzOk-from_below w8 16 2 32 0 (zip2 bit_and v (replicate 32 15)) refl (omega (arith, length-zip2 bit_and v (replicate 32 15) are.0))
    (Each1-zip2 bit_and (λ j. j < 16) v (replicate 32 15) (Each2-splat (λ a b. bit_and a b < 16) v 32 15 small))

-- a table that stands twice, at a place in either copy
twice_at : (s : List ℕ) → length s ≡ 16 → (k j : ℕ) → k < 32 → j < 16 → get_or (pick_l 0 (s ++ s) TWICE) (16 * ((0 + k) / 16) + j) 0 ≡ get_or s j 0
twice_at s long k j lane low =
    let row = each_below (λ a. test_below (λ i. eqb (get_or TWICE (16 * ((0 + a) / 16) + i) 0) i) 16) 32 tt k lane in
    let is = eqb→eq _ _ (each_below (λ i. eqb (get_or TWICE (16 * ((0 + k) / 16) + i) 0) i) 16 row j low) in
    get_or-map (λ i. get_or (s ++ s) i 0) TWICE (16 * ((0 + k) / 16) + j) 0 0 (omega arith) ∙ ap (λ i. get_or (s ++ s) i 0) is
    ∙ get_or_append_left s s 0 j (omega arith)

looked_up : (s : List ℕ) (g : ℕ → ℕ) (v js : List ℕ) → length s ≡ 16 → AreLanes v → js ≡ map g v → ((x : ℕ) → x < 256 → g x < 16)
    → swz_l w8 16 (pick_l 0 (s ++ s) TWICE) 0 js ≡ map (λ x. get_or s (g x) 0) v
looked_up s g v js table are e small =
    let t = pick_l 0 (s ++ s) TWICE in
    let long : length js ≡ 32 = ap length e ∙ length-map v g ∙ are.0 in
    ext_get_or 0 _ _ (length-swz_l w8 16 t 0 js ∙ long ∙ sym (length-map v (λ x. get_or s (g x) 0) ∙ are.0)) (λ i h.
    let lane : i < 32 = omega (arith, length-swz_l w8 16 t 0 js) in
    let within : i < length v = omega (arith, are.0) in
    let is : get_or js i 0 ≡ g (get_or v i 0) = ap (λ l. get_or l i 0) e ∙ get_or-map g v i 0 0 within in
    let below : get_or js i 0 < 16 = omega (arith, small (get_or v i 0) (lane_fits v are i lane)) in
    get_or-swz_l_below w8 16 t 0 js i (omega arith) below ∙ twice_at s table i (get_or js i 0) lane below ∙ ap (λ k. get_or s k 0) is
    ∙ sym (get_or-map (λ x. get_or s (g x) 0) v i 0 0 within))

pub looked_up_upper : (s v : List ℕ) → length s ≡ 16 → AreLanes v
    → swz_l w8 16 (pick_l 0 (s ++ s) TWICE) 0 (zip2 upper v (replicate 32 4)) ≡ map (λ x. get_or s (x / 16) 0) v
looked_up_upper s v table are = looked_up s (λ x. x / 16) v _ table are (zip2_splat upper v 32 4 are.0) (λ x h. omega arith)

pub looked_up_lower : (s v : List ℕ) → length s ≡ 16 → AreLanes v
    → swz_l w8 16 (pick_l 0 (s ++ s) TWICE) 0 (zip2 bit_and v (replicate 32 15)) ≡ map (λ x. get_or s (bit_and x 15) 0) v
looked_up_lower s v table are = looked_up s (λ x. bit_and x 15) v _ table are (zip2_splat bit_and v 32 15 are.0) (λ x h. omega (arith, and_le_r x 15))
