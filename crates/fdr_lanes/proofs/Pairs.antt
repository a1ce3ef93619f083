-- Four numbers of 32 bits from a block of 16 bytes, each three bytes after the one before.
use Rattle.std.proofs.Common.{◌≡◌, ℕ, ◌+◌, ◌*◌, ◌/◌, ◌%◌, ◌^◌, ◌<◌, ◌≤◌, List, ◌++◌, length, get_or, replicate, bit_and, refl, sym, ap, ◌∙◌, arith}
use Rattle.std.proofs.Common.{eqb, eqb→eq, w8, Fits}
use Rattle.std.proofs.lemmas.List.{get_or-map, get_or_append_left, get_or_default}
use Rattle.std.proofs.lemmas.Nat.{and_mask, mod_below, shr-shr}
use Rattle.std.proofs.lemmas.Simd.{Each1-from_get_or, Each1-get_or, Each1-chunk, get_or-chunk, get_or_wider, get_or-zip2, get_or-replicate, length-zip2}
use lib.Lanes.{zip2, pick_l, number_l, digits_l, chunk, Each1}
use Rattle.fdr_bits.specs.Bits.{word_at}
use Rattle.fdr_lanes.specs.declared.words.TheConstants.{PAIRS}
use Rattle.fdr_lanes.proofs.LookUps.{upper}
use Rattle.fdr_lanes.proofs.Numbers.{word_of_number, word_of_same, bytes_of_lanes}
use Rattle.fdr_lanes.proofs.Bounded.{test_below, each_below}

picked : (b : List ℕ) → length b ≡ 16 → (m i : ℕ) → m < 4 → i < 4 → get_or (pick_l 0 (b ++ b) PAIRS) (4 * m + i) 0 ≡ get_or b (3 * m + i) 0
picked b long m i few low =
    let row = each_below (λ x. test_below (λ y. eqb (get_or PAIRS (4 * x + y) 0) (3 * x + y)) 4) 4 tt m few in
    let is = eqb→eq _ _ (each_below (λ y. eqb (get_or PAIRS (4 * m + y) 0) (3 * m + y)) 4 row i low) in
    get_or-map (λ k. get_or (b ++ b) k 0) PAIRS (4 * m + i) 0 0 (omega arith) ∙ ap (λ k. get_or (b ++ b) k 0) is
    ∙ get_or_append_left b b 0 (3 * m + i) (omega arith)

pub pair_word : (b : List ℕ) → length b ≡ 16 → Each1 (Fits w8) b → (m s : ℕ) → m < 4 → s + 12 ≤ 32
    → get_or (digits_l (2 ^ 32) 4 (number_l (2 ^ 8) (pick_l 0 (b ++ b) PAIRS))) m 0 / 2 ^ s % 2 ^ 12 ≡ word_at b (24 * m + s)
pair_word b long fits m s few within =
    let wide = pick_l 0 (b ++ b) PAIRS in
    let four = chunk (4 * m) 4 wide in
    let low : Each1 (λ x. x < 256) wide =
    Each1-from_get_or (λ x. x < 256) wide 0 (λ k h.
    let i = k % 4 in
    let place : 4 * (k / 4) + k % 4 ≡ k = omega arith in
    let is : get_or wide k 0 ≡ get_or b (3 * (k / 4) + k % 4) 0 =
    ap (λ x. get_or wide x 0) (sym place) ∙ picked b long (k / 4) (k % 4) (omega arith) (omega arith) in
    omega (arith, is, (Each1-get_or (Fits w8) b (3 * (k / 4) + k % 4) 0 (omega arith) fits).fits)) in
    ap (λ x. x / 2 ^ s % 2 ^ 12) (get_or_wider 256 4 (2 ^ 32) 4 wide m refl low few)
    ∙ word_of_number four (bytes_of_lanes four (Each1-chunk (λ x. x < 256) (4 * m) 4 wide low)) s
    ∙ word_of_same four b s (24 * m + s) (omega arith) (λ t near.
    let place : 3 * m + (s / 8 + t) ≡ (24 * m + s) / 8 + t = omega arith in
    get_or-chunk (4 * m) 4 wide (s / 8 + t) 0 (omega arith) ∙ picked b long m (s / 8 + t) few (omega arith) ∙ ap (λ k. get_or b k 0) place)

-- ---- the low twelve bits from bit s on

abbrev pub cut_at : ℕ → List ℕ → List ℕ
cut_at s v = zip2 bit_and (zip2 upper v (replicate 4 s)) (replicate 4 4095)

length-cut_at : (s : ℕ) (v : List ℕ) → length v ≡ 4 → length (cut_at s v) ≡ 4
length-cut_at s v long =
    let inner : length (zip2 upper v (replicate 4 s)) ≡ 4 = length-zip2 upper v (replicate 4 s) long ∙ long in
    length-zip2 bit_and (zip2 upper v (replicate 4 s)) (replicate 4 4095) inner ∙ inner

pub get_or-cut_at : (s : ℕ) (v : List ℕ) → length v ≡ 4 → (m : ℕ) → m < 4 → get_or (cut_at s v) m 0 ≡ get_or v m 0 / 2 ^ s % 2 ^ 12
get_or-cut_at s v long m few =
    let inner : length (zip2 upper v (replicate 4 s)) ≡ 4 = length-zip2 upper v (replicate 4 s) long ∙ long in
    get_or-zip2 bit_and (zip2 upper v (replicate 4 s)) (replicate 4 4095) m 0 0 0 (omega arith) few
    ∙ ap (λ x. bit_and (get_or (zip2 upper v (replicate 4 s)) m 0) x) (get_or-replicate 4 m 4095 0 few)
    ∙ ap (λ x. bit_and x 4095) (get_or-zip2 upper v (replicate 4 s) m 0 0 0 (omega arith) few ∙ ap (λ x. get_or v m 0 / 2 ^ x) (get_or-replicate 4 m s 0 few))
    ∙ and_mask (get_or v m 0 / 2 ^ s) 12

pub cut_at-fits : (s : ℕ) (v : List ℕ) → length v ≡ 4 → (k d : ℕ) → k < length (cut_at s v) → get_or (cut_at s v) k d < 2 ^ 16
cut_at-fits s v long k d h =
    let few : k < 4 = omega (arith, length-cut_at s v long) in
    omega (arith, get_or_default (cut_at s v) k d 0 h, get_or-cut_at s v long k few, mod_below (get_or v k 0 / 2 ^ s) (2 ^ 12) (omega arith))

-- ---- the same of numbers without their lowest r bits

abbrev pub from_bit : ℕ → List ℕ → List ℕ
from_bit r v = zip2 upper v (replicate 4 r)

pub length-from_bit : (r : ℕ) (v : List ℕ) → length v ≡ 4 → length (from_bit r v) ≡ 4
length-from_bit r v long = length-zip2 upper v (replicate 4 r) long ∙ long

pub cut_behind : (r s : ℕ) (v : List ℕ) → length v ≡ 4 → (m : ℕ) → m < 4 → get_or (cut_at s (from_bit r v)) m 0 ≡ get_or v m 0 / 2 ^ (r + s) % 2 ^ 12
cut_behind r s v long m few =
    get_or-cut_at s (from_bit r v) (length-from_bit r v long) m few
    ∙ ap (λ x. x / 2 ^ s % 2 ^ 12)
    (get_or-zip2 upper v (replicate 4 r) m 0 0 0 (omega arith) few ∙ ap (λ x. get_or v m 0 / 2 ^ x) (get_or-replicate 4 m r 0 few))
    ∙ ap (λ x. x % 2 ^ 12) (shr-shr (get_or v m 0) r s)
