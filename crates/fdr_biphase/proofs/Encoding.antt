-- Bits in bytes, and the cells of a byte's bits.
use Rattle.std.proofs.Common.{◌≡◌, ⊎_elim, ℕ, zero, suc, ◌+◌, ◌-◌, ◌*◌, ◌/◌, ◌%◌, ◌^◌, ◌<◌, Bool, true, false, List, [], ◌∷◌, ◌++◌, length, get_or}
use Rattle.std.proofs.Common.{map, refl, sym, ap, ◌∙◌, arith, length-append}
use Rattle.std.specs.Prelude.{◌==◌, eqb, bit_and}
use Rattle.std.specs.List.{range_with_len}
use Rattle.std.proofs.lemmas.Nat.{and_mask, shr-shr}
use Rattle.std.proofs.lemmas.Bool.{cases_lt}
use Rattle.std.proofs.lemmas.List.{get_or_append_left, get_or-append-add}
use Rattle.std.proofs.lemmas.List.FromFn.{length-map-range_with_len, get_or-map-range_with_len}
use Rattle.fdr_lists.proofs.Ranges.{map-range-agree}
use Rattle.fdr_bits.specs.Bits.{bits_in, bit_at}
use Rattle.fdr_bits.proofs.AppendLemmas.{bit_at_append_left, bit_at_append_right}
use Rattle.fdr_biphase.specs.Cells.{bits_of_bytes, cells_of, level_after}
use Rattle.fdr_biphase.specs.Packed.{packed_bits, low_bits, byte_bits}
use Rattle.fdr_biphase.proofs.CellLemmas.{length-cells, cells-append, level_after-append}
use Rattle.fdr_biphase.proofs.Struck.{each_element}

-- the lowest bit of a number as it is tested
pub tested : (m n : ℕ) → m ≡ n → eqb (bit_and m 1) 1 ≡ (n % 2 == 1)
tested m n is = ap (λ k. eqb k 1) (and_mask m 1) ∙ ap (λ k. k % 2 == 1) is

pub one_byte : (b : ℕ) → bits_of_bytes (b ∷ []) ≡ byte_bits b
unfolding bit_at
one_byte b = refl

two_bytes : (x y : ℕ) → bits_of_bytes (x ∷ y ∷ []) ≡ byte_bits x ++ byte_bits y
unfolding bit_at
two_bytes x y = refl

high_bits : (b : ℕ) → byte_bits b ≡ low_bits b ++ low_bits (b / 16)
high_bits b =
    let t = λ (m : ℕ). (m % 2 == 1) in
    ap (λ m. low_bits b ++ t m ∷ t (b / 32) ∷ t (b / 64) ∷ t (b / 128) ∷ []) (let e : b / 16 ≡ b / 16 / 1 = omega arith in e)
    ∙ ap (λ m. low_bits b ++ t (b / 16 / 1) ∷ t m ∷ t (b / 64) ∷ t (b / 128) ∷ []) (let e : b / 32 ≡ b / 16 / 2 = omega arith in e)
    ∙ ap (λ m. low_bits b ++ t (b / 16 / 1) ∷ t (b / 16 / 2) ∷ t m ∷ t (b / 128) ∷ []) (let e : b / 64 ≡ b / 16 / 4 = omega arith in e)
    ∙ ap (λ m. low_bits b ++ t (b / 16 / 1) ∷ t (b / 16 / 2) ∷ t (b / 16 / 4) ∷ t m ∷ []) (let e : b / 128 ≡ b / 16 / 8 = omega arith in e)

one_where : (bit : Bool) (n rest : ℕ) → n ≡ packed_bits (bit ∷ []) + 2 * rest → (n / 2 ^ 0 % 2 == 1) ≡ bit
one_where true n rest is = let e : n / 1 % 2 ≡ 1 = omega arith in ap (λ k. k == 1) e
one_where false n rest is = let e : n / 1 % 2 ≡ 0 = omega arith in ap (λ k. k == 1) e

rest_where : (bit : Bool) (n rest : ℕ) → n ≡ packed_bits (bit ∷ []) + 2 * rest → n / 2 ≡ rest
rest_where true n rest is = omega arith
rest_where false n rest is = omega arith

packed-cons : (bit : Bool) (bits : List Bool) → packed_bits (bit ∷ bits) ≡ packed_bits (bit ∷ []) + 2 * packed_bits bits
packed-cons true bits = omega arith
packed-cons false bits = omega arith

-- packed bits read back
packed_bit : (bits : List Bool) (j : ℕ) → j < length bits → (packed_bits bits / 2 ^ j % 2 == 1) ≡ get_or bits j false
packed_bit [] j within = absurd (omega arith)
packed_bit (bit ∷ bits) zero within = one_where bit (packed_bits (bit ∷ bits)) (packed_bits bits) (packed-cons bit bits)
packed_bit (bit ∷ bits) (suc j) within =
    let n = packed_bits (bit ∷ bits) in
    let e : 1 + j ≡ suc j = omega arith in
    ap (λ k. n / 2 ^ k % 2 == 1) (sym e)
    ∙ ap (λ k. k % 2 == 1) (sym (shr-shr n 1 j))
    ∙ ap (λ k. k / 2 ^ j % 2 == 1) (rest_where bit n (packed_bits bits) (packed-cons bit bits))
    ∙ packed_bit bits j (omega arith)

pub unpacked_all : (bits : List Bool) (n : ℕ) → length bits ≡ n → map (λ j. packed_bits bits / 2 ^ j % 2 == 1) (range_with_len 0 n) ≡ bits
unpacked_all bits n long =
    map-range-agree (λ j. packed_bits bits / 2 ^ j % 2 == 1) (λ j. get_or bits j false) 0 n (λ j low high. packed_bit bits j (omega (arith, long)))
    ∙ ap (λ n. map (λ j. get_or bits j false) (range_with_len 0 n)) (sym long)
    ∙ each_element [] bits

unpacked : (bits : List Bool) → length bits ≡ 8 → byte_bits (packed_bits bits) ≡ bits
unpacked bits eight = unpacked_all bits 8 eight

-- the two bytes that the cells of a byte fill
pub byte_cells : (first between : Bool) (b x y : ℕ) → x ≡ packed_bits (cells_of first (low_bits b)) → between ≡ level_after first (low_bits b)
    → y ≡ packed_bits (cells_of between (low_bits (b / 16))) → bits_of_bytes (x ∷ y ∷ []) ≡ cells_of first (bits_of_bytes (b ∷ []))
byte_cells first between b x y low mid high =
    two_bytes x y
    ∙ ap (λ n. byte_bits n ++ byte_bits y) low
    ∙ ap (λ bits. bits ++ byte_bits y) (unpacked (cells_of first (low_bits b)) (length-cells first (low_bits b)))
    ∙ ap (λ n. cells_of first (low_bits b) ++ byte_bits n) high
    ∙ ap (λ bits. cells_of first (low_bits b) ++ bits) (unpacked (cells_of between (low_bits (b / 16))) (length-cells between (low_bits (b / 16))))
    ∙ ap (λ l. cells_of first (low_bits b) ++ cells_of l (low_bits (b / 16))) mid
    ∙ sym (cells-append first (low_bits b) (low_bits (b / 16)))
    ∙ ap (cells_of first) (sym (one_byte b ∙ high_bits b))

pub byte_end : (first between end : Bool) (b : ℕ) → between ≡ level_after first (low_bits b) → end ≡ level_after between (low_bits (b / 16))
    → end ≡ level_after first (bits_of_bytes (b ∷ []))
byte_end first between end b mid last =
    last ∙ ap (λ l. level_after l (low_bits (b / 16))) mid ∙ sym (level_after-append first (low_bits b) (low_bits (b / 16)))
    ∙ ap (level_after first) (sym (one_byte b ∙ high_bits b))

-- the cells of a byte are those of its low bits and of its high ones
pub cells_split : (level between : Bool) (b : ℕ) → between ≡ level_after level (low_bits b)
    → cells_of level (low_bits b) ++ cells_of between (low_bits (b / 16)) ≡ cells_of level (bits_of_bytes (b ∷ []))
cells_split level between b mid =
    ap (λ l. cells_of level (low_bits b) ++ cells_of l (low_bits (b / 16))) mid
    ∙ sym (cells-append level (low_bits b) (low_bits (b / 16)))
    ∙ ap (cells_of level) (sym (one_byte b ∙ high_bits b))

-- a bit of more bytes is one of the first of them, or of the last
more_bit : (bytes : List ℕ) (b i : ℕ) → i < bits_in bytes + 8
    → (bit_at (bytes ++ b ∷ []) i == 1) ≡ get_or (bits_of_bytes bytes ++ bits_of_bytes (b ∷ [])) i false
more_bit bytes b i within =
    let front = bits_of_bytes bytes in
    let count : length front ≡ bits_in bytes = length-map-range_with_len (λ p. bit_at bytes p == 1) 0 (bits_in bytes) in
    ⊎_elim
    (λ early. let here : i < length front = omega arith in
    ap (λ x. x == 1) (bit_at_append_left bytes (b ∷ []) i early)
    ∙ sym (get_or-map-range_with_len (λ p. bit_at bytes p == 1) 0 (bits_in bytes) i i false early (omega arith))
    ∙ sym (get_or_append_left front (bits_of_bytes (b ∷ [])) false i here))
    (λ late. let j = i - bits_in bytes in
    let place : i ≡ bits_in bytes + j = omega arith in
    let small : j < 8 = omega arith in
    let behind : length front + j ≡ i = omega arith in
    ap (λ p. bit_at (bytes ++ b ∷ []) p == 1) place
    ∙ ap (λ x. x == 1) (bit_at_append_right bytes (b ∷ []) j)
    ∙ sym (get_or-map-range_with_len (λ p. bit_at (b ∷ []) p == 1) 0 8 j j false small (omega arith))
    ∙ sym (get_or-append-add front (bits_of_bytes (b ∷ [])) j false)
    ∙ ap (λ p. get_or (front ++ bits_of_bytes (b ∷ [])) p false) behind)
    (cases_lt i (bits_in bytes))

-- the bits of one more byte
pub bits_of_more : (bytes : List ℕ) (b : ℕ) → bits_of_bytes (bytes ++ b ∷ []) ≡ bits_of_bytes bytes ++ bits_of_bytes (b ∷ [])
bits_of_more bytes b =
    let all = bits_of_bytes bytes ++ bits_of_bytes (b ∷ []) in
    let n = bits_in bytes + 8 in
    let more : bits_in (bytes ++ b ∷ []) ≡ n = omega (arith, length-append bytes (b ∷ [])) in
    let count : n ≡ length all = omega (
      arith,
      length-append (bits_of_bytes bytes) (bits_of_bytes (b ∷ [])),
      length-map-range_with_len (λ p. bit_at bytes p == 1) 0 (bits_in bytes),
      length-map-range_with_len (λ p. bit_at (b ∷ []) p == 1) 0 8,
    ) in
    ap (λ n. map (λ p. bit_at (bytes ++ b ∷ []) p == 1) (range_with_len 0 n)) more
    ∙ map-range-agree (λ p. bit_at (bytes ++ b ∷ []) p == 1) (λ i. get_or all i false) 0 n (λ i low high. more_bit bytes b i (omega arith))
    ∙ ap (λ n. map (λ i. get_or all i false) (range_with_len 0 n)) count
    ∙ each_element [] all

-- the cells of one more byte
pub cells_of_more : (first level : Bool) (bytes : List ℕ) (b : ℕ) (cells : List Bool) → level ≡ level_after first (bits_of_bytes bytes)
    → cells ≡ cells_of level (bits_of_bytes (b ∷ []))
    → cells_of first (bits_of_bytes (bytes ++ b ∷ [])) ≡ cells_of first (bits_of_bytes bytes) ++ cells
cells_of_more first level bytes b cells before is =
    ap (cells_of first) (bits_of_more bytes b) ∙ cells-append first (bits_of_bytes bytes) (bits_of_bytes (b ∷ []))
    ∙ ap (λ l. cells_of first (bits_of_bytes bytes) ++ cells_of l (bits_of_bytes (b ∷ []))) (sym before)
    ∙ ap (λ c. cells_of first (bits_of_bytes bytes) ++ c) (sym is)

pub level_after_more : (first level end : Bool) (bytes : List ℕ) (b : ℕ) → level ≡ level_after first (bits_of_bytes bytes)
    → end ≡ level_after level (bits_of_bytes (b ∷ [])) → end ≡ level_after first (bits_of_bytes (bytes ++ b ∷ []))
level_after_more first level end bytes b before is =
    is ∙ ap (λ l. level_after l (bits_of_bytes (b ∷ []))) before
    ∙ sym (ap (level_after first) (bits_of_more bytes b) ∙ level_after-append first (bits_of_bytes bytes) (bits_of_bytes (b ∷ [])))
