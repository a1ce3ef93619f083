-- The answers of the five tables for 32 lanes, joined lane by lane.
use Rattle.std.proofs.Common.{◌≡◌, ℕ, ◌+◌, ◌*◌, ◌/◌, ◌%◌, ◌^◌, ◌<◌, List, map, length, get_or, bit_and, sym, ap, ◌∙◌, arith}
use Rattle.std.proofs.lemmas.List.{get_or-map, length-map}
use Rattle.std.proofs.lemmas.Simd.{get_or-zip2, length-zip2}
use lib.Lanes.{zip2}
use Rattle.fdr_lanes.specs.declared.candidates.TheConstants.{FIRST_LOW, FIRST_HIGH, SECOND_LOW, SECOND_HIGH, THIRD_LOW}
use Rattle.fdr_lanes.proofs.LookUps.{AreLanes, lane_fits}
use Rattle.fdr_lanes.proofs.Places.{common_where}

length-and : (xs ys : List ℕ) → length xs ≡ 32 → length ys ≡ 32 → length (zip2 bit_and xs ys) ≡ 32
length-and xs ys p q = length-zip2 bit_and xs ys (p ∙ sym q) ∙ p

get_or-and : (xs ys : List ℕ) → length xs ≡ 32 → length ys ≡ 32 → (k : ℕ) → k < 32
    → get_or (zip2 bit_and xs ys) k 0 ≡ bit_and (get_or xs k 0) (get_or ys k 0)
get_or-and xs ys p q k h = get_or-zip2 bit_and xs ys k 0 0 0 (omega arith) (omega arith)

-- the answers of a table, by the halves that g gives
record Answers (table : List ℕ) (g : ℕ → ℕ) (v xs : List ℕ) : Type 0 where
  long : length xs ≡ 32
  lane : (k : ℕ) → k < 32 → get_or xs k 0 ≡ get_or table (g (get_or v k 0)) 0

answers : (table : List ℕ) (g : ℕ → ℕ) (v xs : List ℕ) → AreLanes v → xs ≡ map (λ x. get_or table (g x) 0) v → Answers table g v xs
answers table g v xs are is = record {
  long = ap length is ∙ length-map v (λ x. get_or table (g x) 0) ∙ are.0;
  lane = λ k h. ap (λ l. get_or l k 0) is ∙ get_or-map (λ x. get_or table (g x) 0) v k 0 0 (omega (arith, are.0));
}

abbrev pub lower : ℕ → ℕ
lower x = bit_and x 15

abbrev pub upper_half : ℕ → ℕ
upper_half x = x / 16

pub joined : (first second third a b c d e : List ℕ) → AreLanes first → AreLanes second → AreLanes third
    → a ≡ map (λ x. get_or FIRST_LOW (lower x) 0) first → b ≡ map (λ x. get_or FIRST_HIGH (upper_half x) 0) first
    → c ≡ map (λ x. get_or SECOND_LOW (lower x) 0) second → d ≡ map (λ x. get_or SECOND_HIGH (upper_half x) 0) second
    → e ≡ map (λ x. get_or THIRD_LOW (lower x) 0) third
    → let all = zip2 bit_and (zip2 bit_and (zip2 bit_and (zip2 bit_and a b) c) d) e in
    (length all ≡ 32) × ((k r : ℕ) → k < 32 → r < 8
    → ((get_or third k 0 * 256 + get_or second k 0) * 256 + get_or first k 0) / 2 ^ r % 2 ^ 12 ≡ 583 → 0 < get_or all k 0)
joined first second third a b c d e one two three a_is b_is c_is d_is e_is =
    let A = answers FIRST_LOW lower first a one a_is in
    let B = answers FIRST_HIGH upper_half first b one b_is in
    let C = answers SECOND_LOW lower second c two c_is in
    let D = answers SECOND_HIGH upper_half second d two d_is in
    let E = answers THIRD_LOW lower third e three e_is in
    let ab = length-and a b A.long B.long in
    let abc = length-and (zip2 bit_and a b) c ab C.long in
    let abcd = length-and (zip2 bit_and (zip2 bit_and a b) c) d abc D.long in (
      length-and (zip2 bit_and (zip2 bit_and (zip2 bit_and a b) c) d) e abcd E.long,
      λ k r lane few is.
          rw (
            get_or-and (zip2 bit_and (zip2 bit_and (zip2 bit_and a b) c) d) e abcd E.long k lane,
            get_or-and (zip2 bit_and (zip2 bit_and a b) c) d abc D.long k lane,
            get_or-and (zip2 bit_and a b) c ab C.long k lane,
            get_or-and a b A.long B.long k lane,
            A.lane k lane,
            B.lane k lane,
            C.lane k lane,
            D.lane k lane,
            E.lane k lane,
          )
          (common_where (get_or first k 0) (get_or second k 0) (get_or third k 0) r (lane_fits first one k lane) (lane_fits second two k lane) few is),
    )
