-- A word of data by its bits, and as the word that parts are written into, one after another.
use Rattle.std.proofs.Common.{◌≡◌, ℕ, zero, suc, ◌+◌, ◌-◌, ◌/◌, ◌%◌, ◌^◌, ◌<◌, ◌≤◌, ◌⊎◌, inl, inr, ⊎_elim, Bool, true, false, List, [], ◌∷◌, ◌++◌, Option, Some}
use Rattle.std.proofs.Common.{None, cond, fold, length, get_or, take, reverse, refl, sym, ap, ◌∙◌, subst, arith}
use Rattle.std.specs.Int.{bit_at as nat_bit}
use Rattle.std.specs.List.{All, find}
use Rattle.std.specs.Option.{option_map_or}
use Rattle.std.proofs.lemmas.Bool.{cases_Bool, cases_lt, and_parts, and_from, leb-true, ltb-true, le-leb, lt-ltb, both_ways}
use Rattle.std.proofs.lemmas.Nat.{mod_below, pow_pos}
use Rattle.std.proofs.lemmas.Nat.Bits.{same_from_bits_below}
use Rattle.std.proofs.lemmas.List.{reverse-append, take_more, take_all}
use Rattle.std.proofs.lemmas.List.Elements.{All-head, All-tail, All-weaker}
use Rattle.std.proofs.lemmas.List.Sums.{fold_more}
use Rattle.fdr_bits.specs.Bits.{number_of}
use Rattle.fdr_bits.specs.Fields.{with_field}
use Rattle.fdr_bits.proofs.WordLemmas.{number_of-below, number_of-bit, number_of-same}
use Rattle.fdr_bits.proofs.FieldLemmas.{with_field_fits}
use Rattle.fdr_bits.proofs.FieldsApart.{with_field_bit, with_field_other_bit}
use Rattle.fdr_layout.specs.SlotParts.{SlotPart}
use Rattle.fdr_sampler.specs.SlotWord.{piece_of, has_bit, bit_of_part, data_bit, data_of}
use Rattle.fdr_sampler.proofs.Lists.{All-reverse}

-- the word with the part's piece of its sample's raw value in the part's bits
abbrev pub with_part : (ℕ → ℕ) → ℕ → SlotPart → ℕ
with_part value word a = with_field word (a.part.at % 12) a.part.width (piece_of (value a.sample) a.part)

pub piece_fits : (value : ℕ → ℕ) (a : SlotPart) → piece_of (value a.sample) a.part < 2 ^ a.part.width
piece_fits value a = mod_below (value a.sample / 2 ^ a.part.shift) (2 ^ a.part.width) (pow_pos a.part.width)

-- ---- the bits

map_or_below : {X : Type 0} (f : X → ℕ) (o : Option X) (m : ℕ) → 0 < m → ((x : X) → f x < m) → option_map_or f o 0 < m
map_or_below f None m some low = some
map_or_below f (Some x) m some low = low x

data_bit-below : (value : ℕ → ℕ) (parts : List SlotPart) (b : ℕ) → data_bit value parts b < 2
unfolding data_bit
data_bit-below value parts b = map_or_below (bit_of_part value b) (find (has_bit b) (reverse parts)) 2 (omega arith) (λ a. mod_below _ 2 (omega arith))

pub data_of-below : (value : ℕ → ℕ) (parts : List SlotPart) → data_of value parts < 4096
unfolding data_of
data_of-below value parts = number_of-below (data_bit value parts) (data_bit-below value parts) 12

data_of-bit : (value : ℕ → ℕ) (parts : List SlotPart) (b : ℕ) → b < 12 → nat_bit (data_of value parts) b ≡ data_bit value parts b
unfolding data_of
data_of-bit value parts b few = number_of-bit (data_bit value parts) (data_bit-below value parts) 12 b few

-- no parts make no word
pub data_of-none : (value : ℕ → ℕ) → data_of value [] ≡ 0
unfolding data_of data_bit number_of
data_of-none value = refl

-- a further part has its own bits, and leaves all others
data_bit-last : (value : ℕ → ℕ) (parts : List SlotPart) (a : SlotPart) (b : ℕ) (has : Bool) → has_bit b a ≡ has →
    data_bit value (parts ++ a ∷ []) b ≡ cond has (bit_of_part value b a) (data_bit value parts b)
unfolding data_bit
data_bit-last value parts a b true is = rw (reverse-append parts (a ∷ []), is) refl
data_bit-last value parts a b false is = rw (reverse-append parts (a ∷ []), is) refl

-- a part that hasn't a bit lies below or above it
beside : (a : SlotPart) (b : ℕ) → has_bit b a ≡ false → (b < a.part.at % 12) ⊎ (a.part.at % 12 + a.part.width ≤ b)
beside a b lacks =
    ⊎_elim
    (λ (below : b < a.part.at % 12). inl below)
    (λ (from : a.part.at % 12 ≤ b). ⊎_elim
    (λ (inside : b < a.part.at % 12 + a.part.width).
    let has : has_bit b a ≡ true = and_from _ _ (le-leb (a.part.at % 12) b from) (lt-ltb b (a.part.at % 12 + a.part.width) inside) in
    absurd (both_ways (has_bit b a) lacks has))
    (λ (above : a.part.at % 12 + a.part.width ≤ b). inr above)
    (cases_lt b (a.part.at % 12 + a.part.width)))
    (cases_lt b (a.part.at % 12))

with_part-bit : (value : ℕ → ℕ) (parts : List SlotPart) (a : SlotPart) (word b : ℕ) → b < 12 → word ≡ data_of value parts →
    nat_bit (with_part value word a) b ≡ data_bit value (parts ++ a ∷ []) b
with_part-bit value parts a word b few is =
    let low = a.part.at % 12 in
    let piece = piece_of (value a.sample) a.part in
    ⊎_elim
    (λ (has : has_bit b a ≡ true).
    let both = and_parts _ _ has in
    with_field_bit word low a.part.width piece b (piece_fits value a) (leb-true low b both.0) (ltb-true b (low + a.part.width) both.1)
    ∙ sym (data_bit-last value parts a b true has))
    (λ (lacks : has_bit b a ≡ false).
    with_field_other_bit word low a.part.width piece b (piece_fits value a) (beside a b lacks)
    ∙ ap (λ w. nat_bit w b) is ∙ data_of-bit value parts b few
    ∙ sym (data_bit-last value parts a b false lacks))
    (cases_Bool (has_bit b a))

-- ---- the word that parts are written into

-- a word with the pieces of some parts has those of a further part too, once its piece was written
pub data_of-more : (value : ℕ → ℕ) (parts : List SlotPart) (a : SlotPart) (word : ℕ) → word ≡ data_of value parts → with_part value word a < 4096 →
    with_part value word a ≡ data_of value (parts ++ a ∷ [])
data_of-more value parts a word is fits =
    same_from_bits_below 12 (with_part value word a) (data_of value (parts ++ a ∷ [])) fits (data_of-below value (parts ++ a ∷ []))
    (λ b few. with_part-bit value parts a word b few is ∙ sym (data_of-bit value (parts ++ a ∷ []) b few))

-- the part lies within its word
abbrev pub IsWithin : SlotPart → Type 0
IsWithin a = a.part.at % 12 + a.part.width ≤ 12

data_of-take : (value : ℕ → ℕ) (parts : List SlotPart) (i : ℕ) → All IsWithin parts → i ≤ length parts →
    data_of value (take i parts) ≡ fold (with_part value) 0 (take i parts)
data_of-take value parts zero within l = data_of-none value
data_of-take value [] (suc i) within l = absurd (omega arith)
data_of-take value (x ∷ parts) (suc i) within l =
    let all = x ∷ parts in
    let next : suc i ≡ i + 1 = omega arith in
    let a = get_or all i x in
    let before = data_of value (take i all) in
    let fits : with_part value before a < 4096 = with_field_fits before (a.part.at % 12) a.part.width (piece_of (value a.sample) a.part)
    (record { word_fits = data_of-below value (take i all); within = within i x (omega arith); fits = piece_fits value a }) in
    let more : data_of value (take (i + 1) all) ≡ fold (with_part value) 0 (take (i + 1) all) =
    ap (data_of value) (take_more all i x (omega arith)) ∙ sym (data_of-more value (take i all) a before refl fits)
    ∙ ap (λ w. with_part value w a) (data_of-take value all i within (omega arith))
    ∙ sym (fold_more (with_part value) 0 all i x (omega arith)) in
    subst (λ k. data_of value (take k all) ≡ fold (with_part value) 0 (take k all)) (sym next) more

-- where each part lies within its word, the word of data is that of writing one part after another
pub data_of-fold : (value : ℕ → ℕ) (parts : List SlotPart) → All IsWithin parts → data_of value parts ≡ fold (with_part value) 0 parts
data_of-fold value parts within =
    let whole : take (length parts) parts ≡ parts = take_all (length parts) parts (omega arith) in
    ap (data_of value) (sym whole) ∙ data_of-take value parts (length parts) within (omega arith) ∙ ap (fold (with_part value) 0) whole

-- ---- the raw values that a word rests on

found_agree : {X : Type 0} (p : X → Bool) (f g : X → ℕ) (xs : List X) → All (λ x. f x ≡ g x) xs → option_map_or f (find p xs) 0 ≡ option_map_or g (find p xs) 0
found_agree p f g [] same = refl
found_agree p f g (x ∷ xs) same =
    ⊎_elim
    (λ (passes : p x ≡ true). let here : f x ≡ g x = All-head (λ y. f y ≡ g y) x xs same in rw passes here)
    (λ (fails : p x ≡ false). let later = found_agree p f g xs (All-tail (λ y. f y ≡ g y) x xs same) in rw fails later)
    (cases_Bool (p x))

-- the word of data rests on the raw values of the parts' samples alone
pub data_of-agree : (v v' : ℕ → ℕ) (parts : List SlotPart) → All (λ (a : SlotPart). v a.sample ≡ v' a.sample) parts → data_of v parts ≡ data_of v' parts
unfolding data_of data_bit
data_of-agree v v' parts same =
    number_of-same (data_bit v parts) (data_bit v' parts) 12
    (λ b few. found_agree (has_bit b) (bit_of_part v b) (bit_of_part v' b) (reverse parts)
    (All-weaker (λ (a : SlotPart). v a.sample ≡ v' a.sample) (λ (a : SlotPart). bit_of_part v b a ≡ bit_of_part v' b a)
    (λ a is. ap (λ n. piece_of n a.part / 2 ^ (b - a.part.at % 12) % 2) is) (reverse parts)
    (All-reverse (λ (a : SlotPart). v a.sample ≡ v' a.sample) parts same)))
