-- A packer of bits, and a reader of levels.
use Rattle.std.proofs.Common.{◌≡◌, ℕ, ◌+◌, ◌*◌, ◌/◌, ◌%◌, ◌^◌, ◌<◌, ◌≤◌, Bool, true, false}
use Rattle.std.proofs.Common.{List, [], ◌∷◌, ◌++◌, length, take, drop, Option, Some, None, IsSome}
use Rattle.std.proofs.Common.{refl, sym, ap, ◌∙◌, arith, length-append, append_assoc, append-nil, subst}
use Rattle.std.specs.Prelude.{◌==◌}
use Rattle.std.specs.Option.{option_or}
use Rattle.std.proofs.Math.Nat.{pow-le-pow_right}
use Rattle.std.proofs.lemmas.List.{take-append-drop, length-take}
use Rattle.std.proofs.lemmas.List.FromFn.{length-map-range_with_len, map-range_with_len_more, take-map-range_with_len}
use Rattle.fdr_bits.specs.Bits.{bits_in, bit_at}
use Rattle.fdr_biphase.specs.Cells.{bits_of_bytes}
use Rattle.fdr_biphase.specs.Packed.{packed_bits, bytes_of_bits, answered_byte, byte_bits}
use Rattle.fdr_biphase.specs.Phases.{missing_place, cell_bits}
use Rattle.fdr_biphase.specs.Reading.{RepresentsPacker, ReadsLevels, MissesLevel}
use Rattle.fdr_biphase.specs.declared.packer.BitPacker.{BitPacker}
use Rattle.fdr_biphase.specs.declared.reader.LevelReader.{LevelReader}
use Rattle.fdr_biphase.proofs.Encoding.{bits_of_more, one_byte}
use Rattle.fdr_biphase.proofs.Packing.{one_more_byte, packed_below, packed-then_one, packed-then_zero, whole_bytes_stay}

small_power : (n : ℕ) → n < 8 → 2 ^ n < 256
small_power n few = let below : 2 ^ n ≤ 2 ^ 7 = pow-le-pow_right (omega arith) {i = n} {j = 7} (omega arith) in omega (arith, below)

-- one more bit of a byte
pub pushed_bit : (bit : Bool) (rest : List Bool) (byte count one : ℕ) → (bit ≡ true → one ≡ 1) → (bit ≡ false → one ≡ 0) → byte ≡ packed_bits rest
    → count ≡ length rest → length rest < 8 → byte + one * 2 ^ count % 256 ≡ packed_bits (rest ++ bit ∷ [])
pushed_bit true rest byte count one is_one is_zero packed counted few =
    let small = small_power count (omega (arith, counted, few)) in
    let e : one * 2 ^ count % 256 ≡ 2 ^ count = ap (λ k. k * 2 ^ count % 256) (is_one refl) ∙ omega (arith, small) in
    let power : 2 ^ count ≡ 2 ^ length rest = ap (λ k. 2 ^ k) counted in
    omega (arith, e, power, packed, packed-then_one rest)
pushed_bit false rest byte count one is_one is_zero packed counted few =
    let e : one * 2 ^ count % 256 ≡ 0 = ap (λ k. k * 2 ^ count % 256) (is_zero refl) ∙ omega arith in
    omega (arith, e, packed, packed-then_zero rest)

-- and it fits
pub pushed_fits : (bit : Bool) (rest : List Bool) (byte count one : ℕ) → (bit ≡ true → one ≡ 1) → (bit ≡ false → one ≡ 0) → byte ≡ packed_bits rest
    → count ≡ length rest → length rest < 8 → byte + one * 2 ^ count % 256 < 256
pushed_fits bit rest byte count one is_one is_zero packed counted few =
    let is = pushed_bit bit rest byte count one is_one is_zero packed counted few in
    let power : 2 ^ length (rest ++ bit ∷ []) ≤ 2 ^ 8 = pow-le-pow_right (omega arith) {i = length (rest ++ bit ∷ [])} {j = 8}
    (omega (arith, length-append rest (bit ∷ []), few)) in
    omega (arith, is, packed_below (rest ++ bit ∷ []), power)

-- a byte was completed
pub packer_full : (p q : BitPacker) (bit : Bool) (byte : ℕ) (bits : List Bool) (bytes : List ℕ) (st : RepresentsPacker p bits bytes)
    → byte ≡ packed_bits (st.rest ++ bit ∷ []) → p.count ≡ 7 → q.count ≡ 0 → q.byte ≡ 0 → RepresentsPacker q (bits ++ bit ∷ []) (bytes ++ byte ∷ [])
packer_full p q bit byte bits bytes st packed full empty zero =
    let last = st.rest ++ bit ∷ [] in
    let eight : length last ≡ 8 = omega (arith, length-append st.rest (bit ∷ []), st.count, full) in
    record {
      whole = st.whole ++ last;
      rest = [];
      split = ap (λ (xs : List Bool). xs ++ bit ∷ []) st.split ∙ append_assoc st.whole st.rest (bit ∷ []) ∙ sym (append-nil (st.whole ++ last));
      answered = sym (one_more_byte st.whole last (length bytes) st.eights (omega (arith, eight)) (omega (arith, eight))
          ∙ ap (λ (xs : List ℕ). xs ++ packed_bits last ∷ []) (sym st.answered) ∙ ap (λ (k : ℕ). bytes ++ k ∷ []) (sym packed));
      eights = omega (arith, length-append st.whole last, length-append bytes (byte ∷ []), st.eights, eight);
      few = omega arith;
      count = empty;
      byte = zero;
    }

-- no byte was completed
pub packer_more : (p q : BitPacker) (bit : Bool) (bits : List Bool) (bytes : List ℕ) (st : RepresentsPacker p bits bytes)
    → q.byte ≡ packed_bits (st.rest ++ bit ∷ []) → (p.count ≡ 7 → ⊥) → q.count ≡ p.count + 1 → RepresentsPacker q (bits ++ bit ∷ []) (bytes ++ [])
packer_more p q bit bits bytes st packed short counted =
    let more : length (st.rest ++ bit ∷ []) ≡ length st.rest + 1 = length-append st.rest (bit ∷ []) in
    record {
      whole = st.whole;
      rest = st.rest ++ bit ∷ [];
      split = ap (λ (xs : List Bool). xs ++ bit ∷ []) st.split ∙ append_assoc st.whole st.rest (bit ∷ []);
      answered = append-nil bytes ∙ st.answered;
      eights = omega (arith, length-append bytes [], st.eights);
      few = grind (arith, more, st.few, st.count, short);
      count = omega (arith, counted, st.count, more);
      byte = packed;
    }

-- what fills no byte
no_rest : (rest : List Bool) (whole : List Bool) → length rest ≡ 0 → bytes_of_bits (whole ++ rest) ≡ bytes_of_bits whole
no_rest [] whole none = ap bytes_of_bits (append-nil whole)
no_rest (bit ∷ rest) whole none = absurd (omega (arith, none))

pub finished_none : (p : BitPacker) (bits : List Bool) (bytes : List ℕ) → RepresentsPacker p bits bytes → p.count ≡ 0
    → bytes_of_bits bits ≡ bytes ++ []
finished_none p bits bytes st none =
    ap bytes_of_bits st.split ∙ no_rest st.rest st.whole (omega (arith, none, st.count)) ∙ sym st.answered ∙ sym (append-nil bytes)

pub finished_some : (p : BitPacker) (bits : List Bool) (bytes : List ℕ) → RepresentsPacker p bits bytes → (p.count ≡ 0 → ⊥)
    → bytes_of_bits bits ≡ bytes ++ p.byte ∷ []
finished_some p bits bytes st some =
    let any : 0 < length st.rest = grind (arith, some, st.count) in
    ap bytes_of_bits st.split ∙ one_more_byte st.whole st.rest (length bytes) st.eights any (omega (arith, st.few))
    ∙ ap (λ (xs : List ℕ). xs ++ packed_bits st.rest ∷ []) (sym st.answered) ∙ ap (λ (k : ℕ). bytes ++ k ∷ []) (sym st.byte)

-- the bytes that a packer answered begin the bytes of its bits, whatever follows
pub answered_begin : (p : BitPacker) (bits more : List Bool) (bytes : List ℕ) → RepresentsPacker p bits bytes
    → (rest : List ℕ) × (bytes_of_bits (bits ++ more) ≡ bytes ++ rest)
answered_begin p bits more bytes st =
    let stay = whole_bytes_stay st.whole (st.rest ++ more) (length bytes) st.eights in (
      stay.0,
      ap (λ (xs : List Bool). bytes_of_bits (xs ++ more)) st.split ∙ ap bytes_of_bits (append_assoc st.whole st.rest more) ∙ stay.1
          ∙ ap (λ (xs : List ℕ). xs ++ stay.0) (sym st.answered),
    )

-- of two answers at most one gives a byte
pub one_answer : (a b : Option ℕ) → (IsSome a → b ≡ None) → answered_byte (option_or a b) ≡ answered_byte a ++ answered_byte b
one_answer None b alone = refl
one_answer (Some x) b alone = ap (λ (o : Option ℕ). x ∷ answered_byte o) (sym (alone refl))

-- ---- levels

-- the next level of a byte
pub next_level : (b i : ℕ) → i < 8 → take (i + 1) (byte_bits b) ≡ take i (byte_bits b) ++ (b / 2 ^ i % 2 == 1) ∷ []
next_level b i within =
    let bit = λ (j : ℕ). b / 2 ^ j % 2 == 1 in
    take-map-range_with_len bit 0 8 (i + 1) (omega arith) ∙ map-range_with_len_more bit 0 i i (omega arith)
    ∙ ap (λ (xs : List Bool). xs ++ bit i ∷ []) (sym (take-map-range_with_len bit 0 8 i (omega arith)))

-- all levels of a byte
pub all_levels : (came : List ℕ) (b : ℕ) → bits_of_bytes came ++ take 8 (byte_bits b) ≡ bits_of_bytes (came ++ b ∷ [])
all_levels came b = ap (λ (xs : List Bool). bits_of_bytes came ++ xs) (sym (one_byte b)) ∙ sym (bits_of_more came b)

-- the first of them, and the rest
pub first_levels : (came : List ℕ) (b n : ℕ) → bits_of_bytes (came ++ b ∷ []) ≡ (bits_of_bytes came ++ take n (byte_bits b)) ++ drop n (byte_bits b)
first_levels came b n =
    bits_of_more came b ∙ ap (λ (xs : List Bool). bits_of_bytes came ++ xs) (one_byte b ∙ sym (take-append-drop n (byte_bits b)))
    ∙ sym (append_assoc (bits_of_bytes came) (take n (byte_bits b)) (drop n (byte_bits b)))

-- a missing place stays
pub misses_later : (r : LevelReader) (levels more : List Bool) (bytes : List ℕ) (at : ℕ) → MissesLevel r levels bytes at
    → MissesLevel r (levels ++ more) bytes at
misses_later r levels more bytes at misses = record {
  bits = misses.bits;
  place = λ rest. ap missing_place (append_assoc levels more rest) ∙ misses.place (more ++ rest);
  decoded = λ rest. ap cell_bits (append_assoc levels more rest) ∙ misses.decoded (more ++ rest);
  ended = misses.ended;
  packs = misses.packs;
}

-- one more level
pub reads_next : (r : LevelReader) (came : List ℕ) (b i : ℕ) (level : Bool) (bytes : List ℕ) (byte complete : Option ℕ) → i < 8
    → level ≡ (b / 2 ^ i % 2 == 1) → (IsSome byte → complete ≡ None)
    → ReadsLevels r ((bits_of_bytes came ++ take i (byte_bits b)) ++ level ∷ []) ((bytes ++ answered_byte byte) ++ answered_byte complete)
    → ReadsLevels r (bits_of_bytes came ++ take (i + 1) (byte_bits b)) (bytes ++ answered_byte (option_or byte complete))
reads_next r came b i level bytes byte complete within is alone reads =
    let levels : (bits_of_bytes came ++ take i (byte_bits b)) ++ level ∷ [] ≡ bits_of_bytes came ++ take (i + 1) (byte_bits b) =
    append_assoc (bits_of_bytes came) (take i (byte_bits b)) (level ∷ [])
    ∙ ap (λ (x : Bool). bits_of_bytes came ++ (take i (byte_bits b) ++ x ∷ [])) is
    ∙ ap (λ (xs : List Bool). bits_of_bytes came ++ xs) (sym (next_level b i within)) in
    let answers : (bytes ++ answered_byte byte) ++ answered_byte complete ≡ bytes ++ answered_byte (option_or byte complete) =
    append_assoc bytes (answered_byte byte) (answered_byte complete)
    ∙ ap (λ (xs : List ℕ). bytes ++ xs) (sym (one_answer byte complete alone)) in
    subst (λ (xs : List Bool). ReadsLevels r xs (bytes ++ answered_byte (option_or byte complete))) levels
    (subst (λ (ys : List ℕ). ReadsLevels r ((bits_of_bytes came ++ take i (byte_bits b)) ++ level ∷ []) ys) answers reads)

-- one more level, and a place is missing
pub misses_next : (r : LevelReader) (came : List ℕ) (b i : ℕ) (level : Bool) (bytes : List ℕ) (at : ℕ) → i < 8
    → level ≡ (b / 2 ^ i % 2 == 1) → MissesLevel r ((bits_of_bytes came ++ take i (byte_bits b)) ++ level ∷ []) bytes at
    → MissesLevel r (bits_of_bytes (came ++ b ∷ [])) bytes at
misses_next r came b i level bytes at within is misses =
    let levels : (bits_of_bytes came ++ take i (byte_bits b)) ++ level ∷ [] ≡ bits_of_bytes came ++ take (i + 1) (byte_bits b) =
    append_assoc (bits_of_bytes came) (take i (byte_bits b)) (level ∷ [])
    ∙ ap (λ (x : Bool). bits_of_bytes came ++ (take i (byte_bits b) ++ x ∷ [])) is
    ∙ ap (λ (xs : List Bool). bits_of_bytes came ++ xs) (sym (next_level b i within)) in
    let later = misses_later r ((bits_of_bytes came ++ take i (byte_bits b)) ++ level ∷ []) (drop (i + 1) (byte_bits b)) bytes at misses in
    subst (λ (xs : List Bool). MissesLevel r xs bytes at)
    (ap (λ (xs : List Bool). xs ++ drop (i + 1) (byte_bits b)) levels ∙ sym (first_levels came b (i + 1))) later

-- where a byte was completed, fewer bits wait than levels came since
pub few_waiting : (byte complete : Option ℕ) (before now i : ℕ) → (IsSome byte → before < i) → now ≤ before + 1 → (IsSome complete → now ≡ 0)
    → IsSome (option_or byte complete) → now < i + 1
few_waiting (Some x) complete before now i few next emptied some = omega (arith, few refl, next)
few_waiting None complete before now i few next emptied some = omega (arith, emptied some)

pub length-levels : (came : List ℕ) (b i : ℕ) → length (bits_of_bytes came ++ take i (byte_bits b)) ≤ 8 * length came + i
length-levels came b i = omega (
  arith,
  length-append (bits_of_bytes came) (take i (byte_bits b)),
  length-map-range_with_len (λ p. bit_at came p == 1) 0 (bits_in came),
  length-take i (byte_bits b),
)

pub none_where : (o : Option ℕ) → (IsSome o → ⊥) → o ≡ None
none_where None never = refl
none_where (Some x) never = absurd (never refl)
