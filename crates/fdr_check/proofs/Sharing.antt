-- Places that share no bit: at most one of them begins at each bit, so that they occur at most once in each.
use Rattle.std.proofs.Common.{◌≡◌, ℕ, ◌+◌, ◌*◌, ◌<◌, ◌≤◌, ◌/◌, ◌%◌, ◌==◌, nat_le, nat_lt, ◌&&◌, Bool, true, false, cond, List, [], ◌∷◌, None, length, refl, ap}
use Rattle.std.proofs.Common.{zero, suc, arith}
use Rattle.std.specs.List.{range_with_len, filter, count_by, sum_by, All, AllPairs}
use Rattle.std.proofs.lemmas.List.Concat.{length-flat_map}
use Rattle.std.proofs.lemmas.List.Elements.{All-head, All-tail}
use Rattle.std.proofs.lemmas.List.Sums.{sum_by-cons}
use Rattle.std.proofs.lemmas.Bool.{and_parts, and_from, eqb-true, le-leb, lt-ltb, false_from_ne_true}
use Rattle.fdr_frame.proofs.WordCounts.{word_count_bounds}
use Rattle.fdr_table.specs.Rows.{PlaceRow, TableRows}
use Rattle.fdr_table.specs.Ranges.{IsPlaceInRange, IsInRange}
use Rattle.fdr_check.specs.Occurrences.{frame_bits, begins_at, occurs, occurrences_at, occurrences, part_occurrences, is_part}
use Rattle.fdr_check.specs.Soundness.{covers, ShareNoBit}
use Rattle.fdr_check.specs.Faults.{count_of, overlap_fault}
use Rattle.fdr_check.specs.Walks.{starts_of}
use Rattle.fdr_check.proofs.Sounding.{apart_from}
use Rattle.fdr_check.proofs.Counting.{length_at, length_occurrences}
use Rattle.fdr_lists.proofs.Pairs.{AllPairs-head, AllPairs-tail}

-- an occurrence takes the bit at which it begins
begins_covers : (w x : ℕ) (p : PlaceRow) → IsPlaceInRange p → begins_at w x p ≡ true → covers w p x ≡ true
unfolding begins_at
begins_covers w x p in_range begins =
    let parts = and_parts (x % 12 + 1 == p.lsb) (occurs w p (x / 12)) begins in
    let low : x % 12 + 1 ≡ p.lsb = eqb-true _ _ parts.0 in
    and_from (occurs w p (x / 12) && nat_le p.lsb (x % 12 + 1)) (nat_lt (x % 12 + 1) (p.lsb + p.width))
    (and_from (occurs w p (x / 12)) (nat_le p.lsb (x % 12 + 1)) parts.1 (le-leb _ _ (omega (arith, low))))
    (lt-ltb _ _ (omega (arith, low, in_range.width_low)))

none_begins : (w x : ℕ) (p : PlaceRow) (places : List PlaceRow) → x < 16 * frame_bits w → covers w p x ≡ true → All IsPlaceInRange places
    → All (ShareNoBit w p) places → count_by (begins_at w x) places ≡ 0
none_begins w x p [] within here in_range apart = refl
none_begins w x p (q ∷ places) within here in_range apart =
    let own = All-head IsPlaceInRange q places in_range in
    let off : begins_at w x q ≡ false = false_from_ne_true (begins_at w x q)
    (λ begins. All-head (ShareNoBit w p) q places apart x within here (begins_covers w x q own begins)) in
    let more = none_begins w x p places within here (All-tail IsPlaceInRange q places in_range) (All-tail (ShareNoBit w p) q places apart) in
    let one : cond {A = ℕ} (begins_at w x q) 1 0 ≡ 0 = ap (λ b. cond {A = ℕ} b 1 0) off in
    omega (arith, more, one, sum_by-cons (λ (r : PlaceRow). cond (begins_at w x r) 1 0) q places)

one_begins_by : (w x : ℕ) (p : PlaceRow) (places : List PlaceRow) (b : Bool) → begins_at w x p ≡ b → x < 16 * frame_bits w → IsPlaceInRange p
    → All IsPlaceInRange places → All (ShareNoBit w p) places → count_by (begins_at w x) places ≤ 1 → cond b 1 0 + count_by (begins_at w x) places ≤ 1
one_begins_by w x p places true begins within own in_range apart few =
    let none = none_begins w x p places within (begins_covers w x p own begins) in_range apart in omega (arith, none)
one_begins_by w x p places false begins within own in_range apart few = omega (arith, few)

one_begins : (w x : ℕ) (places : List PlaceRow) → x < 16 * frame_bits w → All IsPlaceInRange places → AllPairs (ShareNoBit w) places
    → count_by (begins_at w x) places ≤ 1
one_begins w x [] within in_range apart = omega arith
one_begins w x (p ∷ places) within in_range apart =
    let both = one_begins_by w x p places (begins_at w x p) refl within (All-head IsPlaceInRange p places in_range) (All-tail IsPlaceInRange p places in_range)
    (AllPairs-head (ShareNoBit w) p places apart) (one_begins w x places within (All-tail IsPlaceInRange p places in_range)
    (AllPairs-tail (ShareNoBit w) p places apart)) in
    omega (arith, both, sum_by-cons (λ (r : PlaceRow). cond (begins_at w x r) 1 0) p places)

sum_of_ones : (f : ℕ → ℕ) (a n : ℕ) → ((x : ℕ) → x < a + n → f x ≤ 1) → sum_by f (range_with_len a n) ≤ n
sum_of_ones f a zero each = omega arith
sum_of_ones f a (suc n) each =
    let here = each a (omega arith) in
    let more = sum_of_ones f (a + 1) n (λ x l. each x (omega arith)) in
    omega (arith, sum_by-cons f a (range_with_len (a + 1) n))

-- all places together occur at most once for each bit of a superframe
pub occurrences_few : (w : ℕ) (places : List PlaceRow) → All IsPlaceInRange places → AllPairs (ShareNoBit w) places → length (occurrences w places) ≤ 768 * w
unfolding occurrences
occurrences_few w places in_range apart =
    let each = sum_of_ones (λ x. length (occurrences_at w places x)) 0 (16 * frame_bits w)
    (λ x l. omega (arith, length_at w places x, one_begins w x places (omega arith) in_range apart)) in
    omega (arith, length-flat_map (occurrences_at w places) (range_with_len 0 (16 * frame_bits w)), each)

kept_few : {X : Type 0} (f : X → ℕ) (b : Bool) (x : X) (kept : List X) (n : ℕ) → sum_by f kept ≤ n → sum_by f (cond b (x ∷ kept) kept) ≤ f x + n
kept_few f true x kept n few = omega (arith, few, sum_by-cons f x kept)
kept_few f false x kept n few = omega (arith, few)

sum_of_kept : {X : Type 0} (f : X → ℕ) (t : X → Bool) (xs : List X) → sum_by f (filter t xs) ≤ sum_by f xs
sum_of_kept f t [] = omega arith
sum_of_kept f t (x ∷ xs) =
    omega (arith, kept_few f (t x) x (filter t xs) (sum_by f xs) (sum_of_kept f t xs), sum_by-cons f x xs)

-- some of the places occur no more often than all of them
pub occurrences_kept : (w : ℕ) (t : PlaceRow → Bool) (places : List PlaceRow) → length (occurrences w (filter t places)) ≤ length (occurrences w places)
occurrences_kept w t places =
    omega (arith, length_occurrences w (filter t places), length_occurrences w places, sum_of_kept (starts_of w) t places)

-- a part occurs no more often than all places
pub count_of_few : (w : ℕ) (places : List PlaceRow) (n part : ℕ) → count_of w places n part ≤ length (occurrences w places)
unfolding part_occurrences
count_of_few w places n part = occurrences_kept w (is_part n part) places

-- where no place shares a bit with one above it, a superframe of at most 16 * 4 * 1,024 words of 12 bits bounds them
pub few_by_overlap : (t : TableRows) → IsInRange t → overlap_fault t ≡ None → length (occurrences t.frame.words t.places) ≤ 786432
unfolding overlap_fault
few_by_overlap t in_range none =
    let bounds = word_count_bounds t.frame.words in_range.frame.words in
    omega (arith, bounds.1, occurrences_few t.frame.words t.places in_range.places (apart_from t.frame.words t.places none))
