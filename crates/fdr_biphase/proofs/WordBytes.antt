-- Eight bytes as a word.
use Rattle.std.proofs.Common.{◌≡◌, ℕ, suc, ◌+◌, ◌*◌, ◌%◌, ◌^◌, ◌<◌, ◌≤◌, Bool, List, [], ◌∷◌, ◌++◌, length, take, drop, get_or}
use Rattle.std.proofs.Common.{refl, sym, ap, ◌∙◌, arith, drop-cons}
use Rattle.std.specs.Prelude.{◌==◌}
use Rattle.std.proofs.lemmas.List.{take_all}
use Rattle.std.proofs.lemmas.List.FromFn.{length-map-range_with_len}
use Rattle.fdr_bits.specs.Bits.{bits_in, bit_at}
use Rattle.fdr_biphase.specs.Cells.{bits_of_bytes}
use Rattle.fdr_biphase.specs.Packed.{packed_bits, byte_bits}
use Rattle.fdr_biphase.specs.Words.{word_bits}
use Rattle.fdr_biphase.proofs.Encoding.{one_byte, unpacked_all}
use Rattle.fdr_biphase.proofs.Joined.{packed-append, packed_word}
use Rattle.fdr_biphase.proofs.Texts.{bits_of_all}

taken_more : (xs : List ℕ) (i j n : ℕ) → j ≡ i + 1 → i < length xs → take (suc n) (drop i xs) ≡ get_or xs i 0 ∷ take n (drop j xs)
taken_more xs i j n next within =
    let e : suc i ≡ j = omega arith in
    ap (take (suc n)) (drop-cons xs i 0 within) ∙ ap (λ (k : ℕ). get_or xs i 0 ∷ take n (drop k xs)) e

eight_taken : (xs : List ℕ) (i : ℕ) → i + 8 ≤ length xs
    → take 8 (drop i xs) ≡ get_or xs i 0 ∷ get_or xs (i + 1) 0 ∷ get_or xs (i + 2) 0 ∷ get_or xs (i + 3) 0
    ∷ get_or xs (i + 4) 0 ∷ get_or xs (i + 5) 0 ∷ get_or xs (i + 6) 0 ∷ get_or xs (i + 7) 0 ∷ []
eight_taken xs i within =
    let g = λ (k : ℕ). get_or xs (i + k) 0 in
    taken_more xs i (i + 1) 7 refl (omega arith)
    ∙ ap (λ (ys : List ℕ). get_or xs i 0 ∷ ys) (taken_more xs (i + 1) (i + 2) 6 (omega arith) (omega arith)
    ∙ ap (λ (ys : List ℕ). g 1 ∷ ys) (taken_more xs (i + 2) (i + 3) 5 (omega arith) (omega arith)
    ∙ ap (λ (ys : List ℕ). g 2 ∷ ys) (taken_more xs (i + 3) (i + 4) 4 (omega arith) (omega arith)
    ∙ ap (λ (ys : List ℕ). g 3 ∷ ys) (taken_more xs (i + 4) (i + 5) 3 (omega arith) (omega arith)
    ∙ ap (λ (ys : List ℕ). g 4 ∷ ys) (taken_more xs (i + 5) (i + 6) 2 (omega arith) (omega arith)
    ∙ ap (λ (ys : List ℕ). g 5 ∷ ys) (taken_more xs (i + 6) (i + 7) 1 (omega arith) (omega arith)
    ∙ ap (λ (ys : List ℕ). g 6 ∷ ys) (taken_more xs (i + 7) (i + 8) 0 (omega arith) (omega arith))))))))

pub eight_elements : (xs : List ℕ) → length xs ≡ 8
    → xs ≡ get_or xs 0 0 ∷ get_or xs 1 0 ∷ get_or xs 2 0 ∷ get_or xs 3 0 ∷ get_or xs 4 0 ∷ get_or xs 5 0 ∷ get_or xs 6 0 ∷ get_or xs 7 0 ∷ []
eight_elements xs eight = sym (take_all 8 xs (omega arith)) ∙ eight_taken xs 0 (omega arith)

packed_byte : (b : ℕ) → b < 256 → packed_bits (byte_bits b) ≡ b
unfolding word_bits
packed_byte b small = let e : b % 2 ^ 8 ≡ b = omega arith in packed_word b 8 ∙ e

number_of_byte : (b : ℕ) (bytes : List ℕ) → b < 256 → packed_bits (bits_of_bytes (b ∷ bytes)) ≡ b + 256 * packed_bits (bits_of_bytes bytes)
number_of_byte b bytes small =
    ap packed_bits (bits_of_all (b ∷ []) bytes ∙ ap (λ (xs : List Bool). xs ++ bits_of_bytes bytes) (one_byte b))
    ∙ packed-append (byte_bits b) (bits_of_bytes bytes) ∙ ap (λ (k : ℕ). k + 256 * packed_bits (bits_of_bytes bytes)) (packed_byte b small)

pub word_of_eight : (a b c d e f g h n : ℕ) → a < 256 → b < 256 → c < 256 → d < 256 → e < 256 → f < 256 → g < 256 → h < 256
    → n ≡ a + 256 * (b + 256 * (c + 256 * (d + 256 * (e + 256 * (f + 256 * (g + 256 * h))))))
    → word_bits 64 n ≡ bits_of_bytes (a ∷ b ∷ c ∷ d ∷ e ∷ f ∷ g ∷ h ∷ [])
unfolding word_bits
word_of_eight a b c d e f g h n pa pb pc pd pe pf pg ph is =
    let all = bits_of_bytes (a ∷ b ∷ c ∷ d ∷ e ∷ f ∷ g ∷ h ∷ []) in
    let long : length all ≡ 64 = length-map-range_with_len (λ p. bit_at (a ∷ b ∷ c ∷ d ∷ e ∷ f ∷ g ∷ h ∷ []) p == 1) 0 64 in
    let none : packed_bits (bits_of_bytes []) ≡ 0 = refl in
    let number : packed_bits all ≡ a + 256 * (b + 256 * (c + 256 * (d + 256 * (e + 256 * (f + 256 * (g + 256 * h)))))) = omega (
      arith,
      number_of_byte a (b ∷ c ∷ d ∷ e ∷ f ∷ g ∷ h ∷ []) pa,
      number_of_byte b (c ∷ d ∷ e ∷ f ∷ g ∷ h ∷ []) pb,
      number_of_byte c (d ∷ e ∷ f ∷ g ∷ h ∷ []) pc,
      number_of_byte d (e ∷ f ∷ g ∷ h ∷ []) pd,
      number_of_byte e (f ∷ g ∷ h ∷ []) pe,
      number_of_byte f (g ∷ h ∷ []) pf,
      number_of_byte g (h ∷ []) pg,
      number_of_byte h [] ph,
      none,
    ) in
    ap (word_bits 64) (is ∙ sym number) ∙ unpacked_all all 64 long

pub length-bits : (bytes : List ℕ) → length (bits_of_bytes bytes) ≡ 8 * length bytes
length-bits bytes = length-map-range_with_len (λ p. bit_at bytes p == 1) 0 (bits_in bytes)
