-- Bits that wait, and 32 bits after them, as bytes.
use Rattle.std.proofs.Common.{◌≡◌, ℕ, zero, suc, ◌+◌, ◌*◌, ◌/◌, ◌%◌, ◌^◌, ◌<◌, ◌≤◌, Bool, true, false, List, [], ◌∷◌, ◌++◌, length, take, drop}
use Rattle.std.proofs.Common.{refl, sym, ap, ◌∙◌, arith, append_assoc, length-append}
use Rattle.std.specs.Prelude.{◌==◌}
use Rattle.std.specs.Int.{bit_at}
use Rattle.std.proofs.lemmas.Bool.{eqb-true, eqb-false}
use Rattle.std.proofs.lemmas.List.{length-drop, length-take, take-append-drop}
use Rattle.std.proofs.lemmas.List.FromFn.{length-map-range_with_len, map-range_with_len_more}
use Rattle.std.proofs.lemmas.Nat.{mod-pow-add, shl_whole}
use Rattle.fdr_biphase.specs.Packed.{bytes_of_bits, packed_bits}
use Rattle.fdr_biphase.specs.Reading.{RepresentsPacker}
use Rattle.fdr_biphase.specs.Words.{word_bits}
use Rattle.fdr_biphase.specs.declared.packer.BitPacker.{BitPacker}
use Rattle.fdr_biphase.proofs.Packing.{packed_below, twice_power, packed-then_one, packed-then_zero, two_more_bytes}

pub packed-append : (xs ys : List Bool) → packed_bits (xs ++ ys) ≡ packed_bits xs + 2 ^ length xs * packed_bits ys
packed-append [] ys = omega arith
packed-append (x ∷ xs) ys =
    let q = packed_bits ys in
    let e : 2 ^ suc (length xs) * q ≡ 2 * 2 ^ length xs * q = ap (λ (k : ℕ). k * q) (twice_power (length xs)) in
    omega (arith, packed-append xs ys, e)

one_more : (w n : ℕ) (b : Bool) → (bit_at w n == 1) ≡ b → packed_bits (word_bits n w) ≡ w % 2 ^ n → packed_bits (word_bits n w ++ b ∷ []) ≡ w % 2 ^ (1 + n)
unfolding word_bits
one_more w n true is had =
    let one : w / 2 ^ n % 2 ≡ 1 = eqb-true (w / 2 ^ n % 2) 1 is in
    let e : (w / 2 ^ n % 2 ^ 1) * 2 ^ n ≡ 1 * 2 ^ n = ap (λ (k : ℕ). k * 2 ^ n) one in
    packed-then_one (word_bits n w)
    ∙ ap (λ (k : ℕ). packed_bits (word_bits n w) + 2 ^ k) (length-map-range_with_len (λ (j : ℕ). bit_at w j == 1) 0 n)
    ∙ omega (arith, had, mod-pow-add w 1 n, e)
one_more w n false is had =
    let other = eqb-false (w / 2 ^ n % 2) 1 is in
    let zero_bit : w / 2 ^ n % 2 ≡ 0 = omega (arith, other) in
    let e : (w / 2 ^ n % 2 ^ 1) * 2 ^ n ≡ 0 * 2 ^ n = ap (λ (k : ℕ). k * 2 ^ n) zero_bit in
    packed-then_zero (word_bits n w) ∙ omega (arith, had, mod-pow-add w 1 n, e)

-- the number that packs the lowest bits of a word
pub packed_word : (w n : ℕ) → packed_bits (word_bits n w) ≡ w % 2 ^ n
unfolding word_bits
packed_word w zero = omega arith
packed_word w (suc n) =
    let next : n + 1 ≡ suc n = omega arith in
    let turn : 1 + n ≡ suc n = omega arith in
    ap (λ (k : ℕ). packed_bits (word_bits k w)) (sym next)
    ∙ ap packed_bits (map-range_with_len_more (λ (j : ℕ). bit_at w j == 1) 0 n n (omega arith))
    ∙ one_more w n (bit_at w n == 1) refl (packed_word w n) ∙ ap (λ (k : ℕ). w % 2 ^ k) turn

-- four more bytes after whole ones
four_more : (whole a b c d : List Bool) (n : ℕ) → length whole ≡ 8 * n → length a ≡ 8 → length b ≡ 8 → length c ≡ 8 → length d ≡ 8
    → bytes_of_bits (whole ++ ((a ++ b) ++ (c ++ d))) ≡ bytes_of_bits whole ++ packed_bits a ∷ packed_bits b ∷ packed_bits c ∷ packed_bits d ∷ []
four_more whole a b c d n eights la lb lc ld =
    ap bytes_of_bits (sym (append_assoc whole (a ++ b) (c ++ d)))
    ∙ two_more_bytes (whole ++ (a ++ b)) c d (n + 2) (omega (arith, length-append whole (a ++ b), length-append a b, eights, la, lb)) lc ld
    ∙ ap (λ (xs : List ℕ). xs ++ packed_bits c ∷ packed_bits d ∷ []) (two_more_bytes whole a b n eights la lb)
    ∙ append_assoc (bytes_of_bits whole) (packed_bits a ∷ packed_bits b ∷ []) (packed_bits c ∷ packed_bits d ∷ [])

-- the four bytes of a number
abbrev pub four_bytes : ℕ → List ℕ
four_bytes n = n % 256 ∷ n / 256 % 256 ∷ n / 65536 % 256 ∷ n / 16777216 % 256 ∷ []

digits : (a b c d : ℕ) → a < 256 → b < 256 → c < 256 → d < 256 → four_bytes ((a + 256 * b) + 65536 * (c + 256 * d)) ≡ a ∷ b ∷ c ∷ d ∷ []
digits a b c d p q r s =
    let n = (a + 256 * b) + 65536 * (c + 256 * d) in
    let e0 : n % 256 ≡ a = omega arith in
    let e1 : n / 256 % 256 ≡ b = omega arith in
    let e2 : n / 65536 % 256 ≡ c = omega arith in
    let e3 : n / 16777216 % 256 ≡ d = omega arith in
    ap (λ (k : ℕ). k ∷ n / 256 % 256 ∷ n / 65536 % 256 ∷ n / 16777216 % 256 ∷ []) e0
    ∙ ap (λ (k : ℕ). a ∷ k ∷ n / 65536 % 256 ∷ n / 16777216 % 256 ∷ []) e1
    ∙ ap (λ (k : ℕ). a ∷ b ∷ k ∷ n / 16777216 % 256 ∷ []) e2
    ∙ ap (λ (k : ℕ). a ∷ b ∷ c ∷ k ∷ []) e3

eight_below : (bits : List Bool) → length bits ≡ 8 → packed_bits bits < 256
eight_below bits eight = let e : 2 ^ length bits ≡ 256 = ap (λ (k : ℕ). 2 ^ k) eight in omega (arith, packed_below bits)

two_packed : (a b : List Bool) (n : ℕ) → length a ≡ n → packed_bits (a ++ b) ≡ packed_bits a + 2 ^ n * packed_bits b
two_packed a b n long = packed-append a b ∙ ap (λ (k : ℕ). packed_bits a + 2 ^ k * packed_bits b) long

pub word_more : (whole more : List Bool) (n : ℕ) → length whole ≡ 8 * n → length more ≡ 32
    → bytes_of_bits (whole ++ more) ≡ bytes_of_bits whole ++ four_bytes (packed_bits more)
word_more whole more n eights long =
    let x = take 16 more in
    let y = drop 16 more in
    let lx : length x ≡ 16 = omega (arith, length-take 16 more) in
    let ly : length y ≡ 16 = omega (arith, length-drop 16 more) in
    let a = take 8 x in
    let b = drop 8 x in
    let c = take 8 y in
    let d = drop 8 y in
    let la : length a ≡ 8 = omega (arith, length-take 8 x) in
    let lb : length b ≡ 8 = omega (arith, length-drop 8 x) in
    let lc : length c ≡ 8 = omega (arith, length-take 8 y) in
    let ld : length d ≡ 8 = omega (arith, length-drop 8 y) in
    let parts : more ≡ (a ++ b) ++ (c ++ d) =
    sym (take-append-drop 16 more) ∙ ap (λ (xs : List Bool). xs ++ y) (sym (take-append-drop 8 x))
    ∙ ap (λ (ys : List Bool). (a ++ b) ++ ys) (sym (take-append-drop 8 y)) in
    let number : packed_bits more ≡ (packed_bits a + 256 * packed_bits b) + 65536 * (packed_bits c + 256 * packed_bits d) =
    ap packed_bits parts ∙ two_packed (a ++ b) (c ++ d) 16 (omega (arith, length-append a b, la, lb))
    ∙ ap (λ (k : ℕ). k + 65536 * packed_bits (c ++ d)) (two_packed a b 8 la)
    ∙ ap (λ (k : ℕ). (packed_bits a + 256 * packed_bits b) + 65536 * k) (two_packed c d 8 lc) in
    ap (λ (xs : List Bool). bytes_of_bits (whole ++ xs)) parts ∙ four_more whole a b c d n eights la lb lc ld
    ∙ ap (λ (xs : List ℕ). bytes_of_bits whole ++ xs)
    (sym (ap four_bytes number ∙ digits _ _ _ _ (eight_below a la) (eight_below b lb) (eight_below c lc) (eight_below d ld)))

length-word : (w n : ℕ) → length (word_bits n w) ≡ n
unfolding word_bits
length-word w n = length-map-range_with_len (λ (j : ℕ). bit_at w j == 1) 0 n

-- the number that packs what waits and 32 bits more
joined_number : (p : BitPacker) (before : List Bool) (bytes : List ℕ) (w j : ℕ) (st : RepresentsPacker p before bytes) → w < 2 ^ 32
    → j ≡ p.byte + w * 2 ^ p.count % 2 ^ 64 → packed_bits (st.rest ++ word_bits 32 w) ≡ j
joined_number p before bytes w j st small is =
    let whole : w * 2 ^ p.count % 2 ^ 64 ≡ w * 2 ^ p.count = shl_whole w 32 p.count 64 small (omega (arith, st.few, st.count)) in
    let bits : packed_bits (word_bits 32 w) ≡ w = packed_word w 32 ∙ omega arith in
    let turn : 2 ^ p.count * w ≡ w * 2 ^ p.count = omega arith in
    two_packed st.rest (word_bits 32 w) p.count (sym st.count) ∙ ap (λ (k : ℕ). packed_bits st.rest + 2 ^ p.count * k) bits
    ∙ omega (arith, is, whole, st.byte, turn)

-- its lower 32 bits, and the rest of it
split_number : (all : List Bool) → 32 ≤ length all
    → (packed_bits (take 32 all) ≡ packed_bits all % 2 ^ 32) × (packed_bits (drop 32 all) ≡ packed_bits all / 2 ^ 32)
split_number all some =
    let long : length (take 32 all) ≡ 32 = omega (arith, length-take 32 all) in
    let parts : packed_bits all ≡ packed_bits (take 32 all) + 2 ^ 32 * packed_bits (drop 32 all) =
    ap packed_bits (sym (take-append-drop 32 all)) ∙ two_packed (take 32 all) (drop 32 all) 32 long in
    let power : 2 ^ length (take 32 all) ≡ 2 ^ 32 = ap (λ (k : ℕ). 2 ^ k) long in
    let below : packed_bits (take 32 all) < 2 ^ 32 = omega (arith, packed_below (take 32 all), power) in
    (omega (arith, parts, below), omega (arith, parts, below))

pub packed_joined : (p : BitPacker) (before : List Bool) (bytes : List ℕ) (w j : ℕ) (q : BitPacker) (st : RepresentsPacker p before bytes)
    → w < 2 ^ 32 → j ≡ p.byte + w * 2 ^ p.count % 2 ^ 64 → q.count ≡ p.count → q.byte ≡ j / 2 ^ 32
    → RepresentsPacker q (before ++ word_bits 32 w) (bytes ++ four_bytes (j % 2 ^ 32))
packed_joined p before bytes w j q st small is count byte =
    let all = st.rest ++ word_bits 32 w in
    let long : length all ≡ length st.rest + 32 = omega (arith, length-append st.rest (word_bits 32 w), length-word w 32) in
    let lower : length (take 32 all) ≡ 32 = omega (arith, length-take 32 all, long) in
    let number = joined_number p before bytes w j st small is in
    let split = split_number all (omega (arith, long)) in
    record {
      whole = st.whole ++ take 32 all;
      rest = drop 32 all;
      split = ap (λ (xs : List Bool). xs ++ word_bits 32 w) st.split ∙ append_assoc st.whole st.rest (word_bits 32 w)
          ∙ ap (λ (xs : List Bool). st.whole ++ xs) (sym (take-append-drop 32 all)) ∙ sym (append_assoc st.whole (take 32 all) (drop 32 all));
      answered = sym (word_more st.whole (take 32 all) (length bytes) st.eights lower
          ∙ ap (λ (k : ℕ). bytes_of_bits st.whole ++ four_bytes k) (split.0 ∙ ap (λ (k : ℕ). k % 2 ^ 32) number)
          ∙ ap (λ (xs : List ℕ). xs ++ four_bytes (j % 2 ^ 32)) (sym st.answered));
      eights = omega (arith, length-append st.whole (take 32 all), lower, st.eights, length-append bytes (four_bytes (j % 2 ^ 32)));
      few = omega (arith, length-drop 32 all, long, st.few);
      count = omega (arith, length-drop 32 all, long, st.count, count);
      byte = byte ∙ sym (split.1 ∙ ap (λ (k : ℕ). k / 2 ^ 32) number);
    }
