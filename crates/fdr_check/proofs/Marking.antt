-- Marks on the bits of a place, slot by slot.
use Rattle.std.proofs.Common.{◌≡◌, ℕ, ◌+◌, ◌-◌, ◌*◌, ◌/◌, ◌%◌, ◌^◌, ◌<◌, ◌≤◌, ◌≢◌, min, max, Bool, true, false, ◌&&◌, ◌||◌, ◌==◌, nat_le, nat_lt, cond, List}
use Rattle.std.proofs.Common.{◌∷◌}
use Rattle.std.proofs.Common.{length, get_or, set, take, Some, None, inl, inr, sym, ap, ◌∙◌, refl, zero, suc, zero-add, arith}
use Rattle.std.specs.Int.{bit_at, trailing_zeros, w16}
use Rattle.std.specs.Int.RustNames.{bit_or, bit_and}
use Rattle.std.specs.List.{find, range_with_len, filter, list_any, All, AllPairs}
use Rattle.std.specs.List.Sorted.{IsStrictlyIncreasing}
use Rattle.std.proofs.Math.Bool.{and-true, or_assoc, and_assoc}
use Rattle.std.proofs.Math.Nat.{mod-eq_of_lt}
use Rattle.std.proofs.Math.Pow.{pow_mono}
use Rattle.std.proofs.lemmas.Nat.{pow_pos}
use Rattle.std.proofs.lemmas.Nat.Bits.{bit_at_or, bit_at_and, bit_at-lt, bit_at-zero, bit_at_above, bit_at-trailing_zeros, bit_at_mask_inside}
use Rattle.std.proofs.lemmas.Nat.Bits.{bit_at_mask_below}
use Rattle.std.proofs.lemmas.Nat.Bits.{bit_at_mask_above}
use Rattle.std.proofs.lemmas.Bool.Decides.{nat_tests}
use Rattle.std.proofs.lemmas.Bool.{and_from, and_left, and_right, and_parts, cases_eq, cases_lt, false_from_ne_true, eq-eqb, eqb-true}
use Rattle.std.proofs.lemmas.Bool.{ne_eqb}
use Rattle.std.proofs.lemmas.Bool.{le-leb, lt-leb, lt-ltb, le-ltb}
use Rattle.std.proofs.lemmas.List.{get_or-set_same, get_or-set_other, get_or_default, take_all}
use Rattle.std.proofs.lemmas.Map.Views.{any-filter_same}
use Rattle.std.proofs.lemmas.Nat.{and_le_r}
use Rattle.std.proofs.lemmas.List.Elements.{filter_passes, All-filter}
use Rattle.std.proofs.lemmas.List.Folds.{list_any_more, list_any_at}
use Rattle.std.proofs.lemmas.List.FromFn.{length-range_with_len, get_or-range_with_len}
use Rattle.std.proofs.lemmas.List.Kept.{AllPairs-from_increasing, IsStrictlyIncreasing-filter}
use Rattle.fdr_table.specs.Rows.{PlaceRow}
use Rattle.fdr_check.specs.Occurrences.{occurs, slots_of}
use Rattle.fdr_check.specs.Soundness.{covers}
use Rattle.fdr_check.specs.Walks.{takes_bit, AreItsBits, is_marked}
use Rattle.fdr_check.proofs.Ranges.{find_first, find_no}
use Rattle.fdr_lists.proofs.Ranges.{All-range}

pub same_bool : (a b : Bool) → (a ≡ true → b ≡ true) → (b ≡ true → a ≡ true) → a ≡ b
same_bool true true f g = refl
same_bool true false f g = sym (f refl)
same_bool false true f g = g refl
same_bool false false f g = refl

pub covers_by_bit : (w : ℕ) (p : PlaceRow) (b : ℕ) → covers w p b ≡ (occurs w p (b / 12) && takes_bit p (b % 12))
covers_by_bit w p b = and_assoc (occurs w p (b / 12)) (nat_le p.lsb (b % 12 + 1)) (nat_lt (b % 12 + 1) (p.lsb + p.width))

-- ---- the slots of a place

kept_index : (b : Bool) (x k : ℕ) (xs : List ℕ) → (j : ℕ) × (j < length xs) × (get_or xs j 0 ≡ k)
    → (j : ℕ) × (j < length (cond b (x ∷ xs) xs)) × (get_or (cond b (x ∷ xs) xs) j 0 ≡ k)
kept_index true x k xs at = (suc at.0, omega (arith, at.1), at.2)
kept_index false x k xs at = at

index_of : (t : ℕ → Bool) (a n k : ℕ) → a ≤ k → k < a + n → t k ≡ true
    → (j : ℕ) × (j < length (filter t (range_with_len a n))) × (get_or (filter t (range_with_len a n)) j 0 ≡ k)
index_of t a zero k low high passes = absurd (omega arith)
index_of t a (suc n) k low high passes = elim (cases_eq a k) [
  | inl e ↦
      let here : filter t (range_with_len a (suc n)) ≡ a ∷ filter t (range_with_len (a + 1) n) =
      ap (λ b. cond b (a ∷ filter t (range_with_len (a + 1) n)) (filter t (range_with_len (a + 1) n))) (ap t e ∙ passes) in
      (0, omega (arith, ap length here), ap (λ xs. get_or xs 0 0) here ∙ e)
  | inr apart ↦ kept_index (t a) a k (filter t (range_with_len (a + 1) n)) (index_of t (a + 1) n k (omega arith) (omega arith) passes)
]

-- each slot in which the place occurs is one of its slots
pub slot_index : (w : ℕ) (p : PlaceRow) (k : ℕ) → k < 64 * w → occurs w p k ≡ true → (j : ℕ) × (j < length (slots_of w p)) × (get_or (slots_of w p) j 0 ≡ k)
unfolding slots_of
slot_index w p k within here = index_of (occurs w p) 0 (64 * w) k (omega arith) (omega arith) here

pub slots_occur : (w : ℕ) (p : PlaceRow) → All (λ k. occurs w p k ≡ true) (slots_of w p)
unfolding slots_of
slots_occur w p = filter_passes (occurs w p) (range_with_len 0 (64 * w))

pub slots_within : (w : ℕ) (p : PlaceRow) → All (λ k. k < 64 * w) (slots_of w p)
unfolding slots_of
slots_within w p =
    All-filter (occurs w p) (λ k. k < 64 * w) (range_with_len 0 (64 * w)) (All-range (λ k. k < 64 * w) 0 (64 * w) (λ x low high. omega (arith, high)))

pub slot_inside : (w : ℕ) (p : PlaceRow) (slots : List ℕ) (i : ℕ) → slots ≡ slots_of w p → i < length slots → get_or slots i 0 < 64 * w
slot_inside w p slots i are l =
    let long = ap length are in
    let same : get_or slots i 0 ≡ get_or (slots_of w p) i 0 = ap (λ xs. get_or xs i 0) are in
    omega (arith, same, slots_within w p i 0 (omega (arith, long)))

range_rises : (n : ℕ) → IsStrictlyIncreasing (range_with_len 0 n)
range_rises n = λ k l.
    let long = length-range_with_len 0 n in
    omega (arith, get_or-range_with_len 0 n k 0 (omega (arith, long)), get_or-range_with_len 0 n (k + 1) 0 (omega (arith, long)))

pub slots_rise : (w : ℕ) (p : PlaceRow) → AllPairs (λ j k. j < k) (slots_of w p)
unfolding slots_of
slots_rise w p = AllPairs-from_increasing (slots_of w p) (IsStrictlyIncreasing-filter (occurs w p) (range_with_len 0 (64 * w)) (range_rises (64 * w)))

-- ---- bits of marks

or_test : (x y : ℕ) → x < 2 → y < 2 → (max x y == 1) ≡ ((x == 1) || (y == 1))
or_test x y l m = grind (arith, nat_tests)

and_test : (x y : ℕ) → x < 2 → y < 2 → (min x y == 1) ≡ ((x == 1) && (y == 1))
and_test x y l m = grind (arith, nat_tests)

or_bit : (m bits c : ℕ) → (bit_at (bit_or m bits) c == 1) ≡ ((bit_at m c == 1) || (bit_at bits c == 1))
or_bit m bits c = ap (λ x. x == 1) (bit_at_or m bits c) ∙ or_test (bit_at m c) (bit_at bits c) (bit_at-lt m c) (bit_at-lt bits c)

and_bit : (m bits c : ℕ) → (bit_at (bit_and m bits) c == 1) ≡ ((bit_at m c == 1) && (bit_at bits c == 1))
and_bit m bits c = ap (λ x. x == 1) (bit_at_and m bits c) ∙ and_test (bit_at m c) (bit_at bits c) (bit_at-lt m c) (bit_at-lt bits c)

below_twelve : (b : ℕ) → b % 12 < 12
below_twelve b = omega arith

-- ---- marking

or_none : (a : Bool) → a ≡ (a || false)
or_none true = refl
or_none false = refl

-- the bit is one of the place's in one of the first i of these slots
abbrev pub marked_in : PlaceRow → List ℕ → ℕ → ℕ → Bool
marked_in p slots i b = list_any (λ k. k == b / 12) (take i slots) && takes_bit p (b % 12)

pub none_marked : (p : PlaceRow) (slots marks : List ℕ) (b : ℕ) → is_marked marks b ≡ (is_marked marks b || marked_in p slots 0 b)
none_marked p slots marks b = or_none (is_marked marks b)

and_or : (a b c : Bool) → ((a && c) || (b && c)) ≡ ((a || b) && c)
and_or true true true = refl
and_or true true false = refl
and_or true false true = refl
and_or true false false = refl
and_or false b c = refl

read_other : (xs : List ℕ) (k m : ℕ) → k < length xs → m ≡ get_or xs k m → get_or xs k 0 ≡ m
read_other xs k m within read = get_or_default xs k 0 m within ∙ sym read

-- one more slot is marked
pub marked_next : (p : PlaceRow) (slots : List ℕ) (i slot bits m : ℕ) (old new : List ℕ) (b : ℕ) (before : Bool) → AreItsBits p bits → i < length slots
    → slot ≡ get_or slots i slot → slot < length old → m ≡ get_or old slot m → new ≡ set old slot (bit_or m bits)
    → is_marked old b ≡ (before || marked_in p slots i b) → is_marked new b ≡ (before || marked_in p slots (i + 1) b)
marked_next p slots i slot bits m old new b before its l is within read written so_far =
    let c = b % 12 in
    let t : ℕ → Bool = λ k. k == b / 12 in
    let more : list_any t (take (i + 1) slots) ≡ (list_any t (take i slots) || t slot) =
    list_any_more t slots i slot l ∙ ap (λ k. list_any t (take i slots) || t k) (sym is) in
    let wanted : (before || (marked_in p slots i b || (t slot && takes_bit p c))) ≡ (before || marked_in p slots (i + 1) b) =
    ap (λ x. before || x) (and_or (list_any t (take i slots)) (t slot) (takes_bit p c) ∙ ap (λ x. x && takes_bit p c) (sym more)) in
    let made : is_marked new b ≡ (is_marked old b || (t slot && takes_bit p c)) =
    elim (cases_eq (b / 12) slot) [
      | inl e ↦
          let now : get_or new (b / 12) 0 ≡ bit_or m bits =
          ap (λ xs. get_or xs (b / 12) 0) written ∙ ap (λ k. get_or (set old slot (bit_or m bits)) k 0) e ∙ get_or-set_same old slot (bit_or m bits) 0 within in
          let was : get_or old (b / 12) 0 ≡ m = ap (λ k. get_or old k 0) e ∙ read_other old slot m within read in
          ap (λ x. bit_at x c == 1) now ∙ or_bit m bits c
          ∙ ap (λ x. (bit_at x c == 1) || (bit_at bits c == 1)) (sym was)
          ∙ ap (λ x. is_marked old b || x) (its.each c (below_twelve b) ∙ ap (λ x. x && takes_bit p c) (sym (eq-eqb slot (b / 12) (sym e))))
      | inr apart ↦
          let now : get_or new (b / 12) 0 ≡ get_or old (b / 12) 0 =
          ap (λ xs. get_or xs (b / 12) 0) written ∙ get_or-set_other old slot (b / 12) (bit_or m bits) 0 apart in
          ap (λ x. bit_at x c == 1) now ∙ or_none (is_marked old b)
          ∙ ap (λ x. is_marked old b || x) (sym (and_left (t slot) (takes_bit p c) (ne_eqb slot (b / 12) (λ e. apart (sym e)))))
    ] in
    made ∙ ap (λ x. x || (t slot && takes_bit p c)) so_far ∙ or_assoc before (marked_in p slots i b) (t slot && takes_bit p c) ∙ wanted

slot_found : (w : ℕ) (p : PlaceRow) (k : ℕ) → k < 64 * w → list_any (λ x. x == k) (slots_of w p) ≡ occurs w p k
unfolding slots_of
slot_found w p k within =
    let all = range_with_len 0 (64 * w) in
    let test : (x : ℕ) → (x == k) ≡ true → occurs w p x ≡ occurs w p k = λ x e. ap (occurs w p) (eqb-true x k e) in
    let at : get_or all k 0 ≡ k = get_or-range_with_len 0 (64 * w) k 0 within ∙ zero-add k in
    let any : list_any (λ x. x == k) all ≡ true = list_any_at (λ x. x == k) all k 0 (omega (arith, length-range_with_len 0 (64 * w))) (eq-eqb _ _ at) in
    any-filter_same (λ x. x == k) (occurs w p) (occurs w p k) test all ∙ ap (λ b. occurs w p k && b) any ∙ and-true (occurs w p k)

-- all slots are marked
pub marked_all : (w : ℕ) (p : PlaceRow) (slots : List ℕ) (i b : ℕ) (before new : Bool) → slots ≡ slots_of w p → length slots ≤ i → b < 768 * w
    → new ≡ (before || marked_in p slots i b) → new ≡ (before || covers w p b)
marked_all w p slots i b before new are past within so_far =
    so_far ∙ ap (λ x. before || x)
    (ap (λ ks. list_any (λ k. k == b / 12) ks && takes_bit p (b % 12)) (take_all i slots past ∙ are)
    ∙ ap (λ x. x && takes_bit p (b % 12)) (slot_found w p (b / 12) (omega arith)) ∙ sym (covers_by_bit w p b))

-- ---- the first marked bit

-- a slot whose mark has none of the bits of the place
abbrev pub NoneShared : List ℕ → ℕ → ℕ → Type 0
NoneShared marks bits k = bit_and (get_or marks k 0) bits ≡ 0

-- the place has a marked bit
abbrev pub is_shared : ℕ → PlaceRow → List ℕ → ℕ → Bool
is_shared w p marks b = covers w p b && is_marked marks b

-- its slot is one of the place's, and the mark of that shares the bit
shared_parts : (w : ℕ) (p : PlaceRow) (marks : List ℕ) (bits b : ℕ) → AreItsBits p bits → is_shared w p marks b ≡ true
    → (occurs w p (b / 12) ≡ true) × (bit_at (bit_and (get_or marks (b / 12) 0) bits) (b % 12) ≡ 1)
shared_parts w p marks bits b its shared =
    let m = get_or marks (b / 12) 0 in
    let two = and_parts (covers w p b) (is_marked marks b) shared in
    let own = and_parts (occurs w p (b / 12)) (takes_bit p (b % 12)) (sym (covers_by_bit w p b) ∙ two.0) in
    let bit : (bit_at bits (b % 12) == 1) ≡ true = its.each (b % 12) (below_twelve b) ∙ own.1 in (
      own.0,
      eqb-true _ _ (and_bit m bits (b % 12) ∙ and_from (bit_at m (b % 12) == 1) (bit_at bits (b % 12) == 1) two.1 bit),
    )

none_there : (w : ℕ) (p : PlaceRow) (marks : List ℕ) (bits b k : ℕ) → AreItsBits p bits → is_shared w p marks b ≡ true → k ≡ b / 12
    → NoneShared marks bits k → ⊥
none_there w p marks bits b k its shared here none =
    let zero_is : bit_and (get_or marks (b / 12) 0) bits ≡ 0 = ap (λ j. bit_and (get_or marks j 0) bits) (sym here) ∙ none in
    let bit : bit_at (bit_and (get_or marks (b / 12) 0) bits) (b % 12) ≡ 0 = ap (λ x. bit_at x (b % 12)) zero_is ∙ bit_at-zero (b % 12) in
    omega (arith, bit, (shared_parts w p marks bits b its shared).1)

pub no_marked : (w : ℕ) (p : PlaceRow) (slots marks : List ℕ) (bits i : ℕ) → slots ≡ slots_of w p → AreItsBits p bits → length slots ≤ i
    → ((j : ℕ) → j < i → j < length slots → NoneShared marks bits (get_or slots j 0)) → find (is_shared w p marks) (range_with_len 0 (768 * w)) ≡ None
no_marked w p slots marks bits i are its past none =
    find_no (is_shared w p marks) 0 (768 * w) (λ b low high. false_from_ne_true (is_shared w p marks b) (λ shared.
    let parts = shared_parts w p marks bits b its shared in
    let at = slot_index w p (b / 12) (omega arith) parts.0 in
    let long = ap length are in
    let here : get_or slots at.0 0 ≡ b / 12 = ap (λ xs. get_or xs at.0 0) are ∙ at.2 in
    none_there w p marks bits b _ its shared here (none at.0 (omega (arith, long, at.1)) (omega (arith, long, at.1)))))

-- the lowest bit that a mark shares with the place
pub lowest_shared : (m bits : ℕ) (p : PlaceRow) → AreItsBits p bits → bit_and m bits ≢ 0 →
    (trailing_zeros w16 (bit_and m bits) < 12) × ((bit_at m (trailing_zeros w16 (bit_and m bits)) == 1) ≡ true)
    × (takes_bit p (trailing_zeros w16 (bit_and m bits)) ≡ true)
    × ((c : ℕ) → c < trailing_zeros w16 (bit_and m bits) → bit_at (bit_and m bits) c ≡ 0)
lowest_shared m bits p its some =
    let shared = bit_and m bits in
    let low = and_le_r m bits in
    let fits = its.fits in
    let lowest = bit_at-trailing_zeros w16 shared (omega arith) (omega arith) in
    let c = trailing_zeros w16 shared in
    let few : c < 12 = elim (cases_lt c 12) [
      | inl few ↦ few
      | inr high ↦ absurd (omega (arith, lowest.1, bit_at_above shared 12 c (omega arith) high))
    ] in
    let both = and_parts (bit_at m c == 1) (bit_at bits c == 1) (sym (and_bit m bits c) ∙ eq-eqb _ _ lowest.1) in
    (few, both.0, sym (its.each c few) ∙ both.1, lowest.2)

pub marked_here : (w : ℕ) (p : PlaceRow) (slots marks : List ℕ) (bits i slot m bit : ℕ) → slots ≡ slots_of w p → AreItsBits p bits → i < length slots
    → slot ≡ get_or slots i slot → m ≡ get_or marks slot 0 → ((j : ℕ) → j < i → j < length slots → NoneShared marks bits (get_or slots j 0))
    → bit_and m bits ≢ 0 → bit ≡ 12 * slot + trailing_zeros w16 (bit_and m bits)
    → find (is_shared w p marks) (range_with_len 0 (768 * w)) ≡ Some bit
marked_here w p slots marks bits i slot m bit are its l is read none some bit_is =
    let c = trailing_zeros w16 (bit_and m bits) in
    let lowest = lowest_shared m bits p its some in
    let few = lowest.0 in
    let long = ap length are in
    let own : get_or (slots_of w p) i slot ≡ slot = ap (λ xs. get_or xs i slot) (sym are) ∙ sym is in
    let here : occurs w p slot ≡ true = ap (occurs w p) (sym own) ∙ slots_occur w p i slot (omega (arith, long)) in
    let inside : slot < 64 * w = let h = slots_within w p i slot (omega (arith, long)) in omega (arith, own) in
    let at : bit / 12 ≡ slot = omega (arith, bit_is, few) in
    let place : bit % 12 ≡ c = omega (arith, bit_is, few) in
    let covered : covers w p bit ≡ true =
    covers_by_bit w p bit ∙ and_from (occurs w p (bit / 12)) (takes_bit p (bit % 12)) (ap (occurs w p) at ∙ here) (ap (takes_bit p) place ∙ lowest.2) in
    let marked : is_marked marks bit ≡ true =
    ap (λ k. bit_at (get_or marks k 0) (bit % 12) == 1) at ∙ ap (λ x. bit_at x (bit % 12) == 1) (sym read) ∙ ap (λ k. bit_at m k == 1) place ∙ lowest.1 in
    find_first (is_shared w p marks) 0 (768 * w) bit (omega arith) (omega (arith, bit_is, few, inside))
    (and_from (covers w p bit) (is_marked marks bit) covered marked)
    (λ b low high. false_from_ne_true (is_shared w p marks b) (λ shared.
    let parts = shared_parts w p marks bits b its shared in
    let index = slot_index w p (b / 12) (omega (arith, bit_is, few, inside)) parts.0 in
    let there : get_or slots index.0 0 ≡ b / 12 = ap (λ xs. get_or xs index.0 0) are ∙ index.2 in
    elim (cases_lt index.0 i) [
      | inl before ↦ none_there w p marks bits b _ its shared there (none index.0 before (omega (arith, long, index.1)))
      | inr late ↦ elim (cases_eq index.0 i) [
        | inl e ↦
            let same : b / 12 ≡ slot =
            sym there ∙ ap (λ j. get_or slots j 0) e ∙ get_or_default slots i 0 slot l ∙ sym is in
            let shares : bit_at (bit_and m bits) (b % 12) ≡ 1 =
            ap (λ x. bit_at (bit_and x bits) (b % 12)) (read ∙ ap (λ k. get_or marks k 0) (sym same)) ∙ parts.1 in
            let gone = lowest.3 (b % 12) (omega (arith, bit_is, same, high)) in
            omega (arith, gone, shares)
        | inr apart ↦
            let rises = slots_rise w p i index.0 0 (omega arith) index.1 in
            let first : get_or (slots_of w p) i 0 ≡ slot = get_or_default (slots_of w p) i 0 slot (omega (arith, long)) ∙ own in
            omega (arith, rises, first, index.2, bit_is, few, high)
      ]
    ]))

-- ---- the bits of a place

one_shifted : (n : ℕ) → n ≤ 12 → 1 * 2 ^ n % 65536 ≡ 2 ^ n
one_shifted n few =
    let whole : 1 * 2 ^ n ≡ 2 ^ n = omega arith in
    let most : 2 ^ n ≤ 2 ^ 12 = pow_mono few in
    ap (λ x. x % 65536) whole ∙ mod-eq_of_lt (omega arith)

mask_bit : (p : PlaceRow) (low high c : ℕ) → low + 1 ≡ p.lsb → high ≡ low + p.width → (bit_at (2 ^ high - 2 ^ low) c == 1) ≡ takes_bit p c
mask_bit p low high c low_is high_is = elim (cases_lt c low) [
  | inl below ↦
      ap (λ x. x == 1) (bit_at_mask_below low high c below)
      ∙ sym (and_left (nat_le p.lsb (c + 1)) (nat_lt (c + 1) (p.lsb + p.width)) (lt-leb _ _ (omega arith)))
  | inr from ↦ elim (cases_lt c high) [
    | inl inside ↦
        ap (λ x. x == 1) (bit_at_mask_inside low high c from inside)
        ∙ sym (and_from (nat_le p.lsb (c + 1)) (nat_lt (c + 1) (p.lsb + p.width)) (le-leb _ _ (omega arith)) (lt-ltb _ _ (omega arith)))
    | inr past ↦
        ap (λ x. x == 1) (bit_at_mask_above low high c past)
        ∙ sym (and_right (nat_le p.lsb (c + 1)) (nat_lt (c + 1) (p.lsb + p.width)) (le-ltb _ _ (omega arith)))
  ]
]

pub mask_is : (p : PlaceRow) (low high bits : ℕ) → low + 1 ≡ p.lsb → high ≡ low + p.width → high ≤ 12
    → bits ≡ 1 * 2 ^ high % 65536 - 1 * 2 ^ low % 65536 → AreItsBits p bits
mask_is p low high bits low_is high_is few is =
    let made : bits ≡ 2 ^ high - 2 ^ low = omega (arith, is, one_shifted high few, one_shifted low (omega arith)) in
    let most : 2 ^ high ≤ 2 ^ 12 = pow_mono few in
    let least = pow_pos low in
    record {
      fits = omega (arith, made, most, least);
      each = λ c l. ap (λ x. bit_at x c == 1) made ∙ mask_bit p low high c low_is high_is;
    }

pub mask_order : (low high : ℕ) → low ≤ high → high ≤ 12 → 1 * 2 ^ low % 65536 ≤ 1 * 2 ^ high % 65536
mask_order low high le few =
    let order : 2 ^ low ≤ 2 ^ high = pow_mono le in omega (arith, order, one_shifted high few, one_shifted low (omega arith))
