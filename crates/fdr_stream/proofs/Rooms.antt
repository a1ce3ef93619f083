-- Words in a room of zeros.
use Rattle.std.proofs.Common.{◌≡◌, ◌⊎◌, inl, inr, ℕ, zero, suc, ◌+◌, ◌-◌, ◌*◌, ◌/◌, ◌%◌, ◌^◌, ◌<◌, ◌≤◌, ◌==◌, cond, List, [], ◌∷◌, ◌++◌, Option, Some, None}
use Rattle.std.proofs.Common.{length, take, replicate, slice_set, bit_and, refl, sym, ap, ◌∙◌, subst, append_assoc, append-nil, arith, lit≤}
use Rattle.std.specs.Prelude.{slice_index}
use Rattle.std.proofs.lemmas.Bool.{cases_lt}
use Rattle.std.proofs.Math.Nat.{one-le-pow, pow-le-pow_right}
use Rattle.std.proofs.lemmas.List.{take_more, take_more_set, take-set, length-take-le, length-set, length-replicate}
use Rattle.std.proofs.lemmas.List.{get_or-set_same, get_or-set_other, get_or-replicate, get_or_past}
use Rattle.std.proofs.lemmas.Nat.{and_mask}
use Rattle.fdr_stream.specs.Packing.{filled_by, unpaired, unpaired_after, whole_bytes, last_byte}
use Rattle.fdr_stream.specs.Waiting.{WaitingBytes, IsWaiting, IsZeroFrom, waiting_of, with_words}
use Rattle.fdr_stream.proofs.ZeroWords.{zero_bytes, zero_waits, none_waits}

later : (x : ℕ) (xs : List ℕ) (n : ℕ) → IsZeroFrom (x ∷ xs) (suc n) → IsZeroFrom xs n
later x xs n each k from = each (suc k) (omega (arith, from))

-- the bytes after the first n are zeros
zeros_behind : (xs : List ℕ) (n m : ℕ) → n + m ≤ length xs → IsZeroFrom xs n → take (n + m) xs ≡ take n xs ++ replicate m 0
zeros_behind [] zero zero fits each = refl
zeros_behind [] zero (suc m) fits each = absurd (omega (arith, fits))
zeros_behind [] (suc n) m fits each = absurd (omega (arith, fits))
zeros_behind (x ∷ xs) zero zero fits each = refl
zeros_behind (x ∷ xs) zero (suc m) fits each =
    let at : zero + suc m ≡ suc (zero + m) = omega arith in
    ap (λ i. take i (x ∷ xs)) at ∙ ap (λ y. y ∷ take (zero + m) xs) (each 0 (omega arith))
    ∙ ap (λ ys. 0 ∷ ys) (zeros_behind xs zero m (omega (arith, fits)) (λ k from. each (suc k) (omega arith)))
zeros_behind (x ∷ xs) (suc n) m fits each =
    let at : suc n + m ≡ suc (n + m) = omega arith in
    ap (λ i. take i (x ∷ xs)) at ∙ ap (λ ys. x ∷ ys) (zeros_behind xs n m (omega (arith, fits)) (later x xs n each))

even_or_odd : (h : ℕ) → (h % 2 ≡ 0) ⊎ (h % 2 ≡ 1)
even_or_odd h = elim (cases_lt (h % 2) 1) [
  | inl low ↦ inl (omega (arith, low))
  | inr high ↦ inr (omega (arith, high))
]

-- what waits after the whole bytes
odd_waits : (room : List ℕ) (h : ℕ) → h % 2 ≡ 1 → (waiting_of room h).odd ≡ Some (slice_index room (h / 2))
odd_waits room h is = ap (λ e. cond (e == 1) (Some (slice_index room (h / 2))) None) is

even_waits : (room : List ℕ) (h : ℕ) → h % 2 ≡ 0 → (waiting_of room h).odd ≡ None
even_waits room h is = ap (λ e. cond (e == 1) (Some (slice_index room (h / 2))) None) is

-- after an even number of half bytes all is 0
zero_from : (room : List ℕ) (h : ℕ) → IsWaiting room h → h % 2 ≡ 0 → IsZeroFrom room (h / 2)
zero_from room h is even k from = elim (cases_lt (h / 2) k) [
  | inl later ↦ is.zeros k (omega (arith, later))
  | inr here ↦
      let at : h / 2 ≡ k = omega (arith, here, from) in
      let least : slice_index room (h / 2) < 16 ^ 0 = subst (λ e. slice_index room (h / 2) < 16 ^ e) even is.bits in
      ap (slice_index room) (sym at) ∙ omega (arith, least)
]

-- the value, by its parts
made : (room : List ℕ) (h : ℕ) (items : List ℕ) (odd : Option ℕ) → take (h / 2) room ≡ items → (waiting_of room h).odd ≡ odd
    → waiting_of room h ≡ record { items = items; odd = odd; capacity = length room }
made room h items odd items_is odd_is =
    let At : List ℕ → Option ℕ → WaitingBytes = λ i o. record { items = i; odd = o; capacity = length room } in
    ap (λ i. At i (waiting_of room h).odd) items_is ∙ ap (At items) odd_is

-- n further words that are 0, where no bits wait
zeros_even : (room : List ℕ) (h n : ℕ) → IsWaiting room h → h + 3 * n ≤ 2 * length room → h % 2 ≡ 0
    → waiting_of room (h + 3 * n) ≡ with_words (waiting_of room h) (replicate n 0)
unfolding filled_by unpaired_after
zeros_even room h n is fits even =
    let from = zero_from room h is even in
    let at : (h + 3 * n) / 2 ≡ h / 2 + 3 * n / 2 = omega (arith, even) in
    let items : take ((h + 3 * n) / 2) room ≡ take (h / 2) room ++ whole_bytes (replicate n 0) =
    ap (λ k. take k room) at ∙ zeros_behind room (h / 2) (3 * n / 2) (omega (arith, fits, even)) from
    ∙ ap (λ bytes. take (h / 2) room ++ bytes) (sym (zero_bytes n)) in
    let odd : (waiting_of room (h + 3 * n)).odd ≡ unpaired (replicate n 0) = elim (even_or_odd n) [
      | inl paired ↦ even_waits room (h + 3 * n) (omega (arith, even, paired)) ∙ none_waits n (λ one. absurd (omega (arith, paired, one)))
      | inr left ↦
          odd_waits room (h + 3 * n) (omega (arith, even, left)) ∙ ap Some (from ((h + 3 * n) / 2) (omega arith)) ∙ zero_waits n left
    ] in
    made room (h + 3 * n) _ _ items odd
    ∙ ap (λ o. let w : WaitingBytes = record {
      items = take (h / 2) room ++ filled_by o (replicate n 0);
      odd = unpaired_after o (replicate n 0);
      capacity = length room;
    } in w) (sym (even_waits room h even))

-- the byte after the whole bytes
next_byte : (room : List ℕ) (q : ℕ) → q < length room → take (q + 1) room ≡ take q room ++ slice_index room q ∷ []
next_byte room q within = take_more room q 0 within

-- n further words that are 0, where four bits wait
zeros_odd : (room : List ℕ) (h n : ℕ) → IsWaiting room h → h + 3 * n ≤ 2 * length room → h % 2 ≡ 1
    → waiting_of room (h + 3 * n) ≡ with_words (waiting_of room h) (replicate n 0)
unfolding filled_by unpaired_after
zeros_odd room h zero is fits odd =
    let b = slice_index room (h / 2) in
    let at : h + 3 * 0 ≡ h = omega arith in
    ap (waiting_of room) at ∙ made room h (take (h / 2) room ++ []) (Some b) (sym (append-nil (take (h / 2) room))) (odd_waits room h odd)
    ∙ ap (λ o. let w : WaitingBytes = record { items = take (h / 2) room ++ filled_by o []; odd = unpaired_after o []; capacity = length room } in w)
    (sym (odd_waits room h odd))
zeros_odd room h (suc n) is fits odd =
    let q = h / 2 in
    let b = slice_index room q in
    let zeros = replicate (3 * n / 2) 0 in
    let at : (h + 3 * suc n) / 2 ≡ (q + 1) + suc (3 * n / 2) = omega (arith, odd) in
    let within : q < length room = omega (arith, is.within, odd) in
    let bits : b ∷ 0 ∷ zeros ≡ (b + 16 * (0 % 16)) ∷ 0 / 16 ∷ whole_bytes (replicate n 0) =
    ap (λ x. x ∷ 0 ∷ zeros) (omega arith) ∙ ap (λ bytes. (b + 16 * (0 % 16)) ∷ 0 / 16 ∷ bytes) (sym (zero_bytes n)) in
    let items : take ((h + 3 * suc n) / 2) room ≡ take q room ++ (b + 16 * (0 % 16)) ∷ 0 / 16 ∷ whole_bytes (replicate n 0) =
    ap (λ k. take k room) at ∙ zeros_behind room (q + 1) (suc (3 * n / 2)) (omega (arith, fits, odd)) is.zeros
    ∙ ap (λ xs. xs ++ 0 ∷ zeros) (next_byte room q within) ∙ append_assoc (take q room) (b ∷ []) (0 ∷ zeros)
    ∙ ap (λ bytes. take q room ++ bytes) bits in
    let zero_at : slice_index room ((h + 3 * suc n) / 2) ≡ 0 = is.zeros ((h + 3 * suc n) / 2) (omega arith) in
    let waits : (waiting_of room (h + 3 * suc n)).odd ≡ unpaired (replicate n 0) = elim (even_or_odd n) [
      | inl paired ↦ even_waits room (h + 3 * suc n) (omega (arith, odd, paired)) ∙ none_waits n (λ one. absurd (omega (arith, paired, one)))
      | inr left ↦ odd_waits room (h + 3 * suc n) (omega (arith, odd, left)) ∙ ap Some zero_at ∙ zero_waits n left
    ] in
    made room (h + 3 * suc n) _ _ items waits
    ∙ ap (λ o. let w : WaitingBytes = record {
      items = take q room ++ filled_by o (0 ∷ replicate n 0);
      odd = unpaired_after o (0 ∷ replicate n 0);
      capacity = length room;
    } in w) (sym (odd_waits room h odd))

pub zeros_pushed : (room : List ℕ) (h n : ℕ) → IsWaiting room h → h + 3 * n ≤ 2 * length room
    → waiting_of room (h + 3 * n) ≡ with_words (waiting_of room h) (replicate n 0)
zeros_pushed room h n is fits = elim (even_or_odd h) [
  | inl even ↦ zeros_even room h n is fits even
  | inr odd ↦ zeros_odd room h n is fits odd
]

-- the room keeps its zeros after more
pub IsWaiting-more : (room : List ℕ) (h more : ℕ) → IsWaiting room h → h + more ≤ 2 * length room → IsWaiting room (h + more)
IsWaiting-more room h more is fits = record {
  within = fits;
  bits = elim (cases_lt (h / 2) ((h + more) / 2)) [
    | inl later ↦
        let zero_at = is.zeros ((h + more) / 2) (omega (arith, later)) in
        let power = one-le-pow ((h + more) % 2) 16 (omega arith) in
        omega (arith, zero_at, power)
    | inr same ↦
        let at : h / 2 ≡ (h + more) / 2 = omega (arith, same) in
        let rest : h % 2 ≤ (h + more) % 2 = omega (arith, at) in
        let power = pow-le-pow_right {n = 16} (lit≤ tt) rest in
        let bits : slice_index room ((h + more) / 2) < 16 ^ (h % 2) = subst (λ k. slice_index room k < 16 ^ (h % 2)) at is.bits in
        omega (arith, bits, power)
  ];
  zeros = λ k from. is.zeros k (omega (arith, from));
}

-- how many whole bytes wait
pub length_whole : (room : List ℕ) (h : ℕ) → IsWaiting room h → length (take (h / 2) room) ≡ h / 2
length_whole room h is = length-take-le (h / 2) room (omega (arith, is.within))

-- two bytes that are written after the first q
two_written : (room : List ℕ) (q x y : ℕ) → q + 2 ≤ length room → take (q + 2) (slice_set (slice_set room q x) (q + 1) y) ≡ take q room ++ x ∷ y ∷ []
two_written room q x y fits =
    let once = slice_set room q x in
    let long : length once ≡ length room = length-set room q x in
    let at : q + 2 ≡ (q + 1) + 1 = omega arith in
    ap (λ k. take k (slice_set once (q + 1) y)) at ∙ take_more_set once (q + 1) y (omega (arith, long, fits))
    ∙ ap (λ xs. xs ++ y ∷ []) (take_more_set room q x (omega (arith, fits))) ∙ append_assoc (take q room) (x ∷ []) (y ∷ [])

-- a further word, where no bits wait
pushed_even : (room : List ℕ) (h word x y : ℕ) → IsWaiting room h → h / 2 + 2 ≤ length room → h % 2 ≡ 0 → x ≡ word % 256 → y ≡ word / 256
    → waiting_of (slice_set (slice_set room (h / 2) x) (h / 2 + 1) y) (h + 3) ≡ with_words (waiting_of room h) (word ∷ [])
unfolding filled_by unpaired_after unpaired whole_bytes
pushed_even room h word x y is fits even low high =
    let q = h / 2 in
    let once = slice_set room q x in
    let after = slice_set once (q + 1) y in
    let first : length once ≡ length room = length-set room q x in
    let long : length after ≡ length room = length-set once (q + 1) y ∙ first in
    let at : (h + 3) / 2 ≡ q + 1 = omega (arith, even) in
    let items : take ((h + 3) / 2) after ≡ take q room ++ word % 256 ∷ [] =
    ap (λ k. take k after) at ∙ take-set once (q + 1) y ∙ take_more_set room q x (omega (arith, fits)) ∙ ap (λ b. take q room ++ b ∷ []) low in
    let odd : (waiting_of after (h + 3)).odd ≡ Some (word / 256) =
    odd_waits after (h + 3) (omega (arith, even)) ∙ ap (λ k. Some (slice_index after k)) at
    ∙ ap Some (get_or-set_same once (q + 1) y 0 (omega (arith, first, fits)) ∙ high) in
    made after (h + 3) _ _ items odd
    ∙ ap (λ n. let w : WaitingBytes = record { items = take q room ++ word % 256 ∷ []; odd = Some (word / 256); capacity = n } in w) long
    ∙ ap (λ o. let w : WaitingBytes = record {
      items = take q room ++ filled_by o (word ∷ []);
      odd = unpaired_after o (word ∷ []);
      capacity = length room;
    } in w) (sym (even_waits room h even))

-- a further word, where four bits wait
pushed_odd : (room : List ℕ) (h word x y : ℕ) → IsWaiting room h → h / 2 + 2 ≤ length room → h % 2 ≡ 1
    → x ≡ slice_index room (h / 2) + 16 * (word % 16) → y ≡ word / 16
    → waiting_of (slice_set (slice_set room (h / 2) x) (h / 2 + 1) y) (h + 3) ≡ with_words (waiting_of room h) (word ∷ [])
unfolding filled_by unpaired_after unpaired whole_bytes
pushed_odd room h word x y is fits odd low high =
    let q = h / 2 in
    let b = slice_index room q in
    let once = slice_set room q x in
    let after = slice_set once (q + 1) y in
    let long : length after ≡ length room = length-set once (q + 1) y ∙ length-set room q x in
    let at : (h + 3) / 2 ≡ q + 2 = omega (arith, odd) in
    let items : take ((h + 3) / 2) after ≡ take q room ++ (b + 16 * (word % 16)) ∷ word / 16 ∷ [] =
    ap (λ k. take k after) at ∙ two_written room q x y fits ∙ ap (λ n. take q room ++ n ∷ y ∷ []) low
    ∙ ap (λ n. take q room ++ (b + 16 * (word % 16)) ∷ n ∷ []) high in
    made after (h + 3) _ _ items (even_waits after (h + 3) (omega (arith, odd)))
    ∙ ap (λ n. let w : WaitingBytes = record { items = take q room ++ (b + 16 * (word % 16)) ∷ word / 16 ∷ []; odd = None; capacity = n } in w) long
    ∙ ap (λ o. let w : WaitingBytes = record {
      items = take q room ++ filled_by o (word ∷ []);
      odd = unpaired_after o (word ∷ []);
      capacity = length room;
    } in w) (sym (odd_waits room h odd))

-- the two bytes of a word after whole bytes, and after four bits
shifted_even : (word e : ℕ) → word < 4096 → e ≡ 0 → word * 2 ^ (4 * e) % 65536 ≡ word
shifted_even word e small even = ap (λ n. word * 2 ^ (4 * n) % 65536) even ∙ omega (arith, small)

shifted_odd : (word e : ℕ) → word < 4096 → e ≡ 1 → word * 2 ^ (4 * e) % 65536 ≡ word * 16
shifted_odd word e small odd = ap (λ n. word * 2 ^ (4 * n) % 65536) odd ∙ omega (arith, small)

-- the sum of the byte after the whole ones and of the word's first bits fits
pub first_fits : (room : List ℕ) (h word : ℕ) → IsWaiting room h → word < 4096
    → slice_index room (h / 2) + bit_and (word * 2 ^ (4 * (h % 2)) % 65536) 255 < 256
first_fits room h word is small =
    let low : bit_and (word * 2 ^ (4 * (h % 2)) % 65536) 255 ≡ word * 2 ^ (4 * (h % 2)) % 65536 % 256 = and_mask (word * 2 ^ (4 * (h % 2)) % 65536) 8 in
    elim (even_or_odd h) [
      | inl even ↦
          let none = zero_from room h is even (h / 2) (omega arith) in
          omega (arith, low, none)
      | inr odd ↦
          let four : slice_index room (h / 2) < 16 ^ 1 = subst (λ e. slice_index room (h / 2) < 16 ^ e) odd is.bits in
          omega (arith, low, four, shifted_odd word (h % 2) small odd)
    ]

-- a further word
pub word_pushed : (room : List ℕ) (h word : ℕ) → IsWaiting room h → h / 2 + 2 ≤ length room → word < 4096
    → waiting_of (slice_set (slice_set room (h / 2) (slice_index room (h / 2) + bit_and (word * 2 ^ (4 * (h % 2)) % 65536) 255))
    (h / 2 + 1) (word * 2 ^ (4 * (h % 2)) % 65536 / 256)) (h + 3) ≡ with_words (waiting_of room h) (word ∷ [])
word_pushed room h word is fits small =
    let n = word * 2 ^ (4 * (h % 2)) % 65536 in
    let low : bit_and n 255 ≡ n % 256 = and_mask n 8 in
    elim (even_or_odd h) [
      | inl even ↦
          let same = shifted_even word (h % 2) small even in
          let none = zero_from room h is even (h / 2) (omega arith) in
          pushed_even room h word _ _ is fits even (omega (arith, low, none) ∙ ap (λ m. m % 256) same) (ap (λ m. m / 256) same)
      | inr odd ↦
          let same = shifted_odd word (h % 2) small odd in
          let bits : n % 256 ≡ 16 * (word % 16) = ap (λ m. m % 256) same ∙ omega arith in
          pushed_odd room h word _ _ is fits odd (ap (λ m. slice_index room (h / 2) + m) (low ∙ bits)) (ap (λ m. m / 256) same ∙ omega arith)
    ]

-- with the bits that wait filled with zeros
pub byte_filled : (room : List ℕ) (h : ℕ) → IsWaiting room h → h / 2 < length room
    → waiting_of room (h + h % 2) ≡ record (waiting_of room h) { items = take (h / 2) room ++ last_byte (waiting_of room h).odd; odd = None }
unfolding last_byte
byte_filled room h is within =
    let Padded : Option ℕ → WaitingBytes = λ o. record { items = take (h / 2) room ++ last_byte o; odd = None; capacity = length room } in
    elim (even_or_odd h) [
      | inl even ↦
          ap (λ e. waiting_of room (h + e)) even ∙ ap (waiting_of room) (omega arith)
          ∙ made room h (take (h / 2) room ++ []) None (sym (append-nil (take (h / 2) room))) (even_waits room h even)
          ∙ ap Padded (sym (even_waits room h even))
      | inr odd ↦
          let at : (h + 1) / 2 ≡ h / 2 + 1 = omega (arith, odd) in
          ap (λ e. waiting_of room (h + e)) odd
          ∙ made room (h + 1) (take (h / 2) room ++ slice_index room (h / 2) ∷ []) None
          (ap (λ k. take k room) at ∙ next_byte room (h / 2) within) (even_waits room (h + 1) (omega (arith, odd)))
          ∙ ap Padded (sym (odd_waits room h odd))
    ]

-- ---- what is left behind a block, at the front of a room of zeros

at_first : (zeros : List ℕ) (next last : ℕ) → 2 ≤ length zeros → slice_index (slice_set (slice_set zeros 0 next) 1 last) 0 ≡ next
at_first zeros next last fits =
    get_or-set_other (slice_set zeros 0 next) 1 0 last 0 (λ e. absurd (omega (arith, e))) ∙ get_or-set_same zeros 0 next 0 (omega (arith, fits))

at_second : (zeros : List ℕ) (next last : ℕ) → 2 ≤ length zeros → slice_index (slice_set (slice_set zeros 0 next) 1 last) 1 ≡ last
at_second zeros next last fits = get_or-set_same (slice_set zeros 0 next) 1 last 0 (omega (arith, fits, length-set zeros 0 next))

at_later : (zeros : List ℕ) (next last k : ℕ) → 2 ≤ k → slice_index (slice_set (slice_set zeros 0 next) 1 last) k ≡ slice_index zeros k
at_later zeros next last k from =
    get_or-set_other (slice_set zeros 0 next) 1 k last 0 (λ e. absurd (omega (arith, e, from)))
    ∙ get_or-set_other zeros 0 k next 0 (λ e. absurd (omega (arith, e, from)))

pub IsWaiting-moved : (room zeros : List ℕ) (h count next last : ℕ) → IsWaiting room h → count ≤ h / 2 → h / 2 ≤ count + 1 → 2 ≤ length zeros
    → IsZeroFrom zeros 0 → next ≡ slice_index room count → last ≡ slice_index room (count + 1)
    → IsWaiting (slice_set (slice_set zeros 0 next) 1 last) (h - 2 * count)
IsWaiting-moved room zeros h count next last is low high fits all next_is last_is = record {
  within = omega (arith, low, high, fits, length-set (slice_set zeros 0 next) 1 last, length-set zeros 0 next);
  bits = elim (cases_lt count (h / 2)) [
    | inl one ↦
        let at : (h - 2 * count) / 2 ≡ 1 = omega (arith, one, high) in
        let here : h / 2 ≡ count + 1 = omega (arith, one, high) in
        let value : slice_index after ((h - 2 * count) / 2) ≡ slice_index room (h / 2) =
        ap (slice_index after) at ∙ at_second zeros next last fits ∙ last_is ∙ ap (slice_index room) (sym here) in
        rest value
    | inr none ↦
        let at : (h - 2 * count) / 2 ≡ 0 = omega (arith, low, none) in
        let here : h / 2 ≡ count = omega (arith, low, none) in
        let value : slice_index after ((h - 2 * count) / 2) ≡ slice_index room (h / 2) =
        ap (slice_index after) at ∙ at_first zeros next last fits ∙ next_is ∙ ap (slice_index room) (sym here) in
        rest value
  ];
  zeros = λ k from. elim (cases_lt k 2) [
    | inl second ↦
        let at : k ≡ 1 = omega (arith, from, second) in
        ap (slice_index after) at ∙ at_second zeros next last fits ∙ last_is ∙ is.zeros (count + 1) (omega (arith, from, second, low))
    | inr more ↦ at_later zeros next last k more ∙ all k (omega arith)
  ];
}
  where
    after : List ℕ
    after = slice_set (slice_set zeros 0 next) 1 last

    rest : slice_index after ((h - 2 * count) / 2) ≡ slice_index room (h / 2) → slice_index after ((h - 2 * count) / 2) < 16 ^ ((h - 2 * count) % 2)
    rest value =
        let left : h % 2 ≡ (h - 2 * count) % 2 = omega (arith, low) in
        subst (λ n. n < 16 ^ ((h - 2 * count) % 2)) (sym value) (subst (λ e. slice_index room (h / 2) < 16 ^ e) left is.bits)

pub zeros_only : (n : ℕ) → IsZeroFrom (replicate n 0) 0
zeros_only n k from =
    let zeros : List ℕ = replicate n 0 in
    let long : length zeros ≡ n = length-replicate {A = ℕ} n 0 in
    elim (cases_lt k n) [
      | inl within ↦ get_or-replicate {A = ℕ} n k 0 0 within
      | inr past ↦ get_or_past zeros k 0 (omega (arith, past, long))
    ]
