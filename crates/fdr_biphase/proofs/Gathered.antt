-- The bits at the even places of a word, put together by shifts and masks.
use Rattle.std.proofs.Common.{◌≡◌, ⊎_elim, ℕ, ◌+◌, ◌*◌, ◌/◌, ◌%◌, ◌^◌, ◌<◌, ◌≤◌, ◌&&◌, Bool, true, false, T, eqb, eqb→eq, refl, sym, ap, ◌∙◌, arith, bit_and}
use Rattle.std.proofs.Common.{bit_or}
use Rattle.std.specs.Prelude.{if◌then◌else◌, nat_lt, min, max}
use Rattle.std.specs.Int.{bit_at}
use Rattle.std.proofs.lemmas.Bool.{cases_lt, le-ltb}
use Rattle.std.proofs.lemmas.Nat.{shr-shr}
use Rattle.std.proofs.lemmas.Nat.Bits.{bit_at_and, bit_at_or, bit_at-lt, bit_at_above}
use Rattle.fdr_biphase.proofs.Bounded.{test_below, each_below}
use lib.Ieee.Fits.{and_l, and_r}

-- Each bit of a word is the bit of another at this place. A place of 64 has none.
abbrev pub IsGathered : ℕ → ℕ → (ℕ → ℕ) → Type 0
IsGathered v w from = (i : ℕ) → bit_at w i ≡ bit_at v (from i)

-- the even places, where they were put together into runs of so many
abbrev pub place : ℕ → ℕ → ℕ
place run i = if nat_lt (i % (2 * run)) run && nat_lt i 64 then i / (2 * run) * (2 * run) + 2 * (i % run) else 64

-- what a step makes of a bit: the mask keeps it, and one of the two that are joined is none
pub is_step : ℕ → ℕ → (ℕ → ℕ) → (ℕ → ℕ) → ℕ → Bool
is_step mask shift from next i =
    if eqb (bit_at mask i) 1
    then (if eqb (from (i + shift)) 64 then eqb (next i) (from i) else (eqb (from i) 64 && eqb (next i) (from (i + shift))))
    else (eqb (bit_at mask i) 0 && eqb (next i) 64)

out_of : (a b : Bool) (x : ℕ) → b ≡ false → (if a && b then x else 64) ≡ 64
out_of true b x is = rw is refl
out_of false b x is = refl

no_place : (run i : ℕ) → 64 ≤ i → place run i ≡ 64
no_place run i high = out_of (nat_lt (i % (2 * run)) run) (nat_lt i 64) (i / (2 * run) * (2 * run) + 2 * (i % run)) (le-ltb i 64 high)

no_bit : (v i : ℕ) → v < 2 ^ 64 → i ≡ 64 → bit_at v i ≡ 0
no_bit v i small is = ap (bit_at v) is ∙ bit_at_above v 64 64 small (omega arith)

first_kept : (a b m x : ℕ) → a < 2 → b ≡ 0 → m ≡ 1 → x ≡ a → min (max a b) m ≡ x
first_kept a b m x bit none one is = omega arith

second_kept : (a b m x : ℕ) → a ≡ 0 → b < 2 → m ≡ 1 → x ≡ b → min (max a b) m ≡ x
second_kept a b m x none bit one is = omega arith

none_kept : (a b m x : ℕ) → m ≡ 0 → x ≡ 0 → min (max a b) m ≡ x
none_kept a b m x none is = omega arith

kept : (v a b i j n m : ℕ) (both : Bool) → v < 2 ^ 64 → a ≡ bit_at v i → b ≡ bit_at v j → m ≡ 1 → eqb j 64 ≡ both
    → T (if both then eqb n i else (eqb i 64 && eqb n j)) → min (max a b) m ≡ bit_at v n
kept v a b i j n m true small first second one last h =
    first_kept a b m (bit_at v n) (rw first (bit_at-lt v i)) (second ∙ no_bit v j small (eqb→eq j 64 (rw last tt))) one
    (ap (bit_at v) (eqb→eq n i h) ∙ sym first)
kept v a b i j n m false small first second one last h =
    second_kept a b m (bit_at v n) (first ∙ no_bit v i small (eqb→eq i 64 (and_l _ _ h))) (rw second (bit_at-lt v j)) one
    (ap (bit_at v) (eqb→eq n j (and_r (eqb i 64) _ h)) ∙ sym second)

joined : (v a b i j n m : ℕ) (one : Bool) → v < 2 ^ 64 → a ≡ bit_at v i → b ≡ bit_at v j → eqb m 1 ≡ one
    → T (if one then (if eqb j 64 then eqb n i else (eqb i 64 && eqb n j)) else (eqb m 0 && eqb n 64)) → min (max a b) m ≡ bit_at v n
joined v a b i j n m true small first second masked h =
    kept v a b i j n m (eqb j 64) small first second (eqb→eq m 1 (rw masked tt)) refl h
joined v a b i j n m false small first second masked h =
    none_kept a b m (bit_at v n) (eqb→eq m 0 (and_l _ _ h)) (no_bit v n small (eqb→eq n 64 (and_r (eqb m 0) _ h)))

bit_of_shifted : (w s i : ℕ) → bit_at (w / 2 ^ s) i ≡ bit_at w (i + s)
bit_of_shifted w s i = let e : s + i ≡ i + s = omega arith in ap (λ k. k % 2) (shr-shr w s i) ∙ ap (bit_at w) e

pub gathered_step : (v w mask shift : ℕ) (from next : ℕ → ℕ) → v < 2 ^ 64 → mask < 2 ^ 64 → IsGathered v w from
    → T (test_below (is_step mask shift from next) 64) → ((i : ℕ) → 64 ≤ i → next i ≡ 64)
    → IsGathered v (bit_and (bit_or w (w / 2 ^ shift)) mask) next
unfolding is_step
gathered_step v w mask shift from next small masks had step none i =
    bit_at_and (bit_or w (w / 2 ^ shift)) mask i ∙ ap (λ k. min k (bit_at mask i)) (bit_at_or w (w / 2 ^ shift) i)
    ∙ ⊎_elim
    (λ (low : i < 64). joined v (bit_at w i) (bit_at (w / 2 ^ shift) i) (from i) (from (i + shift)) (next i) (bit_at mask i) (eqb (bit_at mask i) 1) small
    (had i) (bit_of_shifted w shift i ∙ had (i + shift)) refl (each_below (is_step mask shift from next) 64 step i low))
    (λ (high : 64 ≤ i). none_kept (bit_at w i) (bit_at (w / 2 ^ shift) i) (bit_at mask i) (bit_at v (next i)) (bit_at_above mask 64 i masks high)
    (no_bit v (next i) small (none i high)))
    (cases_lt i 64)

or_none : (a m : ℕ) → min a m ≡ min (max a 0) m
or_none a m = omega arith

-- the even places alone
first_masked : (v : ℕ) → v < 2 ^ 64 → IsGathered v (bit_and v 6148914691236517205) (place 1)
first_masked v small i =
    let m = bit_at 6148914691236517205 i in
    bit_at_and v 6148914691236517205 i ∙ or_none (bit_at v i) m
    ∙ ⊎_elim
    (λ (low : i < 64). joined v (bit_at v i) 0 i 64 (place 1 i) m (eqb m 1) small refl (sym (no_bit v 64 small refl)) refl
    (each_below (λ i. if eqb (bit_at 6148914691236517205 i) 1
    then (if eqb 64 64 then eqb (place 1 i) i else (eqb i 64 && eqb (place 1 i) 64))
    else (eqb (bit_at 6148914691236517205 i) 0 && eqb (place 1 i) 64)) 64 tt i low))
    (λ (high : 64 ≤ i). none_kept (bit_at v i) 0 m (bit_at v (place 1 i)) (bit_at_above 6148914691236517205 64 i (omega arith) high)
    (no_bit v (place 1 i) small (no_place 1 i high)))
    (cases_lt i 64)

pub even_gathered : (v : ℕ) → v < 2 ^ 64 → (i : ℕ) → i < 32 →
    let ones = bit_and v 6148914691236517205 in
    let twos = bit_and (bit_or ones (ones / 2 ^ 1)) 3689348814741910323 in
    let fours = bit_and (bit_or twos (twos / 2 ^ 2)) 1085102592571150095 in
    let eights = bit_and (bit_or fours (fours / 2 ^ 4)) 71777214294589695 in
    let sixteens = bit_and (bit_or eights (eights / 2 ^ 8)) 281470681808895 in
    bit_at (bit_and (bit_or sixteens (sixteens / 2 ^ 16)) 4294967295) i ≡ bit_at v (2 * i)
unfolding is_step
even_gathered v small i low =
    let ones = first_masked v small in
    let twos = gathered_step v _ 3689348814741910323 1 (place 1) (place 2) small (omega arith) ones tt (no_place 2) in
    let fours = gathered_step v _ 1085102592571150095 2 (place 2) (place 4) small (omega arith) twos tt (no_place 4) in
    let eights = gathered_step v _ 71777214294589695 4 (place 4) (place 8) small (omega arith) fours tt (no_place 8) in
    let sixteens = gathered_step v _ 281470681808895 8 (place 8) (place 16) small (omega arith) eights tt (no_place 16) in
    let all = gathered_step v _ 4294967295 16 (place 16) (place 32) small (omega arith) sixteens tt (no_place 32) in
    all i ∙ ap (bit_at v) (eqb→eq (place 32 i) (2 * i) (each_below (λ i. eqb (place 32 i) (2 * i)) 32 tt i low))
