-- Bits as bytes, one byte after another.
use Rattle.std.proofs.Common.{◌≡◌, ℕ, suc, ◌+◌, ◌*◌, ◌/◌, ◌^◌, ◌<◌, ◌≤◌, Bool, true, false, List, [], ◌∷◌, ◌++◌, length, map, take, drop}
use Rattle.std.proofs.Common.{refl, sym, ap, ◌∙◌, arith, length-append, append_assoc}
use Rattle.std.specs.List.{range_with_len}
use Rattle.std.proofs.lemmas.List.{take_all, length-drop, drop-append-le, take-append-le, take-append-drop}
use Rattle.std.proofs.lemmas.List.FromFn.{length-map-range_with_len, map-range_with_len_more, take-map-range_with_len}
use Rattle.std.proofs.Math.Seq.{drop-append_seam}
use Rattle.std.proofs.lemmas.Nat.{pow-add}
use Rattle.std.specs.Prelude.{◌==◌}
use Rattle.fdr_lists.proofs.Ranges.{map-range-agree}
use Rattle.fdr_biphase.specs.Cells.{bits_of_bytes, cells_of, level_after}
use Rattle.fdr_biphase.specs.Packed.{packed_bits, low_bits, bytes_of_bits, encoded_bytes}
use Rattle.fdr_biphase.proofs.CellLemmas.{length-cells}
use Rattle.fdr_biphase.proofs.Encoding.{cells_of_more, cells_split}
use Rattle.fdr_bits.specs.Bits.{bits_in, bit_at}

-- a byte of the front is the same whatever follows
byte_stays : (whole more : List Bool) (i : ℕ) → 8 * i + 8 ≤ length whole
    → packed_bits (take 8 (drop (8 * i) (whole ++ more))) ≡ packed_bits (take 8 (drop (8 * i) whole))
byte_stays whole more i within =
    ap (λ (xs : List Bool). packed_bits (take 8 xs)) (drop-append-le (8 * i) whole more (omega arith))
    ∙ ap packed_bits (take-append-le 8 (drop (8 * i) whole) more (omega (arith, length-drop (8 * i) whole, within)))

-- one more byte after whole bytes
pub one_more_byte : (whole more : List Bool) (n : ℕ) → length whole ≡ 8 * n → 0 < length more → length more ≤ 8
    → bytes_of_bits (whole ++ more) ≡ bytes_of_bits whole ++ packed_bits more ∷ []
unfolding bytes_of_bits
one_more_byte whole more n eights some few =
    let all = λ (i : ℕ). packed_bits (take 8 (drop (8 * i) (whole ++ more))) in
    let front = λ (i : ℕ). packed_bits (take 8 (drop (8 * i) whole)) in
    let count : (length (whole ++ more) + 7) / 8 ≡ n + 1 = omega (arith, length-append whole more, eights, some, few) in
    let before : (length whole + 7) / 8 ≡ n = omega (arith, eights) in
    let last : drop (8 * n) (whole ++ more) ≡ more = ap (λ k. drop k (whole ++ more)) (sym eights) ∙ drop-append_seam whole more in
    ap (λ k. map all (range_with_len 0 k)) count
    ∙ map-range_with_len_more all 0 n n (omega arith)
    ∙ ap (λ (xs : List ℕ). xs ++ all n ∷ []) (map-range-agree all front 0 n (λ i low high. byte_stays whole more i (omega (arith, eights, high))))
    ∙ ap (λ (xs : List ℕ). xs ++ all n ∷ []) (ap (λ k. map front (range_with_len 0 k)) (sym before))
    ∙ ap (λ (x : ℕ). bytes_of_bits whole ++ x ∷ []) (ap (λ (xs : List Bool). packed_bits (take 8 xs)) last ∙ ap packed_bits (take_all 8 more few))

-- whole bytes stay, whatever follows
pub whole_bytes_stay : (whole more : List Bool) (n : ℕ) → length whole ≡ 8 * n → (rest : List ℕ) × (bytes_of_bits (whole ++ more) ≡ bytes_of_bits whole ++ rest)
unfolding bytes_of_bits
whole_bytes_stay whole more n eights =
    let all = λ (i : ℕ). packed_bits (take 8 (drop (8 * i) (whole ++ more))) in
    let front = λ (i : ℕ). packed_bits (take 8 (drop (8 * i) whole)) in
    let count = (length (whole ++ more) + 7) / 8 in
    let before : (length whole + 7) / 8 ≡ n = omega (arith, eights) in
    let within : n ≤ count = omega (arith, length-append whole more, eights) in
    let bytes = bytes_of_bits (whole ++ more) in (
      drop n bytes,
      sym (take-append-drop n bytes) ∙ ap (λ (xs : List ℕ). xs ++ drop n bytes) (take-map-range_with_len all 0 count n within
          ∙ map-range-agree all front 0 n (λ i low high. byte_stays whole more i (omega (arith, eights, high)))
          ∙ ap (λ k. map front (range_with_len 0 k)) (sym before)),
    )

-- no bits fill no bytes
pub no_bytes : bytes_of_bits [] ≡ []
unfolding bytes_of_bits
no_bytes = refl

-- how many bytes bits fill
pub length-bytes_of_bits : (bits : List Bool) → length (bytes_of_bits bits) ≡ (length bits + 7) / 8
unfolding bytes_of_bits
length-bytes_of_bits bits = length-map-range_with_len (λ i. packed_bits (take 8 (drop (8 * i) bits))) 0 ((length bits + 7) / 8)

pub twice_power : (n : ℕ) → 2 ^ suc n ≡ 2 * 2 ^ n
twice_power n = let next : suc n ≡ 1 + n = omega arith in ap (λ k. 2 ^ k) next ∙ pow-add 2 1 n

pub packed_below : (bits : List Bool) → packed_bits bits < 2 ^ length bits
packed_below [] = omega arith
packed_below (true ∷ bits) = omega (arith, packed_below bits, twice_power (length bits))
packed_below (false ∷ bits) = omega (arith, packed_below bits, twice_power (length bits))

-- one more bit
pub packed-then_one : (bits : List Bool) → packed_bits (bits ++ true ∷ []) ≡ packed_bits bits + 2 ^ length bits
packed-then_one [] = refl
packed-then_one (true ∷ bits) = omega (arith, packed-then_one bits, twice_power (length bits))
packed-then_one (false ∷ bits) = omega (arith, packed-then_one bits, twice_power (length bits))

pub packed-then_zero : (bits : List Bool) → packed_bits (bits ++ false ∷ []) ≡ packed_bits bits
packed-then_zero [] = refl
packed-then_zero (true ∷ bits) = omega (arith, packed-then_zero bits)
packed-then_zero (false ∷ bits) = omega (arith, packed-then_zero bits)

-- the cells of one more byte fill two bytes
pub two_more_bytes : (whole a b : List Bool) (n : ℕ) → length whole ≡ 8 * n → length a ≡ 8 → length b ≡ 8
    → bytes_of_bits (whole ++ (a ++ b)) ≡ bytes_of_bits whole ++ packed_bits a ∷ packed_bits b ∷ []
two_more_bytes whole a b n eights first second =
    ap bytes_of_bits (sym (append_assoc whole a b))
    ∙ one_more_byte (whole ++ a) b (n + 1) (omega (arith, length-append whole a, eights, first)) (omega (arith, second)) (omega (arith, second))
    ∙ ap (λ (xs : List ℕ). xs ++ packed_bits b ∷ []) (one_more_byte whole a n eights (omega (arith, first)) (omega (arith, first)))
    ∙ append_assoc (bytes_of_bits whole) (packed_bits a ∷ []) (packed_bits b ∷ [])

pub encoded_more : (first level between : Bool) (bytes : List ℕ) (b x y : ℕ) → level ≡ level_after first (bits_of_bytes bytes)
    → x ≡ packed_bits (cells_of level (low_bits b)) → between ≡ level_after level (low_bits b) → y ≡ packed_bits (cells_of between (low_bits (b / 16)))
    → encoded_bytes first (bytes ++ b ∷ []) ≡ encoded_bytes first bytes ++ x ∷ y ∷ []
encoded_more first level between bytes b x y before low mid high =
    let whole = cells_of first (bits_of_bytes bytes) in
    let eights : length whole ≡ 8 * (2 * length bytes) = omega (
      arith,
      length-cells first (bits_of_bytes bytes),
      length-map-range_with_len (λ p. bit_at bytes p == 1) 0 (bits_in bytes),
    ) in
    let more = cells_of_more first level bytes b _ before (cells_split level between b mid) in
    ap bytes_of_bits more
    ∙ two_more_bytes whole (cells_of level (low_bits b)) (cells_of between (low_bits (b / 16))) (2 * length bytes) eights
    (length-cells level (low_bits b)) (length-cells between (low_bits (b / 16)))
    ∙ ap (λ (k : ℕ). bytes_of_bits whole ++ k ∷ packed_bits (cells_of between (low_bits (b / 16))) ∷ []) (sym low)
    ∙ ap (λ (k : ℕ). bytes_of_bits whole ++ x ∷ k ∷ []) (sym high)
