-- The good prefix is the longest list of good records.
use Rattle.std.proofs.Common.{◌≡◌, ◌≤◌, ◌<◌, inl, inr, ℕ, suc, true, false, List, [], ◌∷◌, ◌++◌, length, map, take, drop}
use Rattle.std.proofs.Common.{refl, sym, ap, ◌∙◌, subst, arith, length-append}
use Rattle.std.specs.Prelude.{All, AllPairs, IsTrue}
use Rattle.std.proofs.lemmas.List.{take-append-drop, take-take}
use Rattle.std.proofs.lemmas.List.Elements.{All-nil, All-cons}
use Rattle.std.proofs.lemmas.List.Kept.{AllPairs-cons}
use Rattle.fdr_bus.specs.declared.BusRecord.{BusRecord}
use Rattle.fdr_bus.specs.Records.{AreGoodRecords, IsGoodPrefix, good_from, good_prefix, has_kind, is_end, is_good, last_time, most_records, record_of}
use Rattle.fdr_bus.specs.Records.{whole_records}
use Rattle.fdr_bus.proofs.GoodRecords.{First, first_cases, good_from_bad, good_from_end, good_from_more, good_from_one, good_from-grows}
use Rattle.fdr_bus.proofs.ParseLemmas.{is_good_yes, is_good_named, is_good_in_order, is_good_in_time}
use Rattle.fdr_bus.proofs.TraceLemmas.{good_prefix_is, length-good_prefix-most}

abbrev InOrder : BusRecord → BusRecord → Type 0
InOrder earlier later = earlier.time ≤ later.time

abbrev GoesOn : BusRecord → BusRecord → Type 0
GoesOn earlier later = is_end earlier ≡ false

-- what records say that are good together, the first of them at this time or later
record AreGoodFrom (before : ℕ) (whole : List (List ℕ)) (good : List BusRecord) : Type 0 where
  pub first : good ≡ map record_of (take (length good) whole)
  pub kinds : All (λ r. IsTrue (has_kind r)) (take (length good) whole)
  pub after : All (λ (r : BusRecord). before ≤ r.time) good
  pub in_order : AllPairs InOrder good
  pub in_time : All (λ (r : BusRecord). r.time ≤ last_time) good
  pub end_is_last : AllPairs GoesOn good

no_records : (before : ℕ) (whole : List (List ℕ)) → AreGoodFrom before whole []
no_records before whole = record {
  first = refl;
  kinds = All-nil (λ r. IsTrue (has_kind r));
  after = All-nil (λ (r : BusRecord). before ≤ r.time);
  in_order = λ i j d below within. absurd (omega arith);
  in_time = All-nil (λ (r : BusRecord). r.time ≤ last_time);
  end_is_last = λ i j d below within. absurd (omega arith);
}

one_more : (before : ℕ) (bytes : List ℕ) (rest : List (List ℕ)) (good : List BusRecord) → is_good before bytes ≡ true
    → (0 < length good → is_end (record_of bytes) ≡ false) → AreGoodFrom (record_of bytes).time rest good
    → AreGoodFrom before (bytes ∷ rest) (record_of bytes ∷ good)
one_more before bytes rest good is goes_on later = record {
  first = ap (λ rs. record_of bytes ∷ rs) later.first;
  kinds = All-cons (λ r. IsTrue (has_kind r)) bytes (take (length good) rest) (is_good_named before bytes is) later.kinds;
  after = All-cons (λ (r : BusRecord). before ≤ r.time) (record_of bytes) good order
      (λ k d within. omega (arith, order, later.after k d within));
  in_order = AllPairs-cons InOrder (record_of bytes) good later.after later.in_order;
  in_time = All-cons (λ (r : BusRecord). r.time ≤ last_time) (record_of bytes) good (is_good_in_time before bytes is) later.in_time;
  end_is_last = AllPairs-cons GoesOn (record_of bytes) good (λ k d within. goes_on (omega (arith, within))) later.end_is_last;
}
  where
    order : before ≤ (record_of bytes).time
    order = is_good_in_order before bytes is

good_from-good : (before : ℕ) (whole : List (List ℕ)) → AreGoodFrom before whole (good_from before whole)
unfolding First
good_from-good before [] = no_records before []
good_from-good before (bytes ∷ rest) = elim (first_cases before bytes) [
  | inl bad ↦ subst (AreGoodFrom before (bytes ∷ rest)) (sym (good_from_bad before bytes rest bad)) (no_records before (bytes ∷ rest))
  | inr (inl last) ↦ subst (AreGoodFrom before (bytes ∷ rest)) (sym (good_from_end before bytes rest last.0 last.1))
      (one_more before bytes rest [] last.0 (λ some. absurd (omega (arith, some))) (no_records (record_of bytes).time rest))
  | inr (inr more) ↦ subst (AreGoodFrom before (bytes ∷ rest)) (sym (good_from_more before bytes rest more.0 more.1))
      (one_more before bytes rest (good_from (record_of bytes).time rest) more.0 (λ some. more.1) (good_from-good (record_of bytes).time rest))
]

-- records that are all good are read to the last
all_good : (before : ℕ) (front : List (List ℕ)) → All (λ r. IsTrue (has_kind r)) front
    → All (λ (r : BusRecord). before ≤ r.time) (map record_of front) → AllPairs InOrder (map record_of front)
    → All (λ (r : BusRecord). r.time ≤ last_time) (map record_of front) → AllPairs GoesOn (map record_of front)
    → good_from before front ≡ map record_of front
all_good before [] kinds after in_order in_time end_is_last = refl
all_good before (bytes ∷ []) kinds after in_order in_time end_is_last =
    good_from_one before bytes
    (is_good_yes before bytes (kinds 0 bytes (omega arith)) (after 0 (record_of bytes) (omega arith)) (in_time 0 (record_of bytes) (omega arith)))
all_good before (bytes ∷ next ∷ rest) kinds after in_order in_time end_is_last =
    let good = is_good_yes before bytes (kinds 0 bytes (omega arith)) (after 0 (record_of bytes) (omega arith))
    (in_time 0 (record_of bytes) (omega arith)) in
    good_from_more before bytes (next ∷ rest) good (end_is_last 0 1 (record_of bytes) (omega arith) (omega arith))
    ∙ ap (λ rs. record_of bytes ∷ rs)
    (all_good (record_of bytes).time (next ∷ rest)
    (λ k d within. kinds (suc k) d (omega (arith, within)))
    (λ k d within. in_order 0 (suc k) d (omega arith) (omega (arith, within)))
    (λ i j d below within. in_order (suc i) (suc j) d (omega (arith, below)) (omega (arith, within)))
    (λ k d within. in_time (suc k) d (omega (arith, within)))
    (λ i j d below within. end_is_last (suc i) (suc j) d (omega (arith, below)) (omega (arith, within))))

good_prefix-are_good : (bytes : List ℕ) → AreGoodRecords bytes (good_prefix bytes)
good_prefix-are_good bytes =
    let few = length-good_prefix-most bytes in
    let all = subst (AreGoodFrom 0 (take most_records (whole_records bytes))) (sym (good_prefix_is bytes))
    (good_from-good 0 (take most_records (whole_records bytes))) in
    let same = take-take (length (good_prefix bytes)) most_records (whole_records bytes) few in
    record {
      first = all.first ∙ ap (map record_of) same;
      kinds = subst (All (λ r. IsTrue (has_kind r))) same all.kinds;
      in_order = all.in_order;
      in_time = all.in_time;
      end_is_last = all.end_is_last;
      few = few;
    }

-- what good records are read from
read_whole : (bytes : List ℕ) (records : List BusRecord) → AreGoodRecords bytes records
    → good_from 0 (take (length records) (whole_records bytes)) ≡ records
read_whole bytes records are =
    all_good 0 (take (length records) (whole_records bytes)) are.kinds (λ k d within. omega arith)
    (subst (AllPairs InOrder) are.first are.in_order)
    (subst (All (λ (r : BusRecord). r.time ≤ last_time)) are.first are.in_time)
    (subst (AllPairs GoesOn) are.first are.end_is_last)
    ∙ sym are.first

good_prefix-longest : (bytes : List ℕ) (other : List BusRecord) → AreGoodRecords bytes other → length other ≤ length (good_prefix bytes)
good_prefix-longest bytes other are =
    let n = length other in
    let front = take n (whole_records bytes) in
    let rest = drop n (take most_records (whole_records bytes)) in
    let split : front ++ rest ≡ take most_records (whole_records bytes) =
    ap (λ xs. xs ++ rest) (sym (take-take n most_records (whole_records bytes) are.few))
    ∙ take-append-drop n (take most_records (whole_records bytes)) in
    let grown = good_from-grows 0 front rest in
    let same : good_prefix bytes ≡ other ++ grown.0 =
    good_prefix_is bytes ∙ ap (good_from 0) (sym split) ∙ grown.1 ∙ ap (λ xs. xs ++ grown.0) (read_whole bytes other are) in
    omega (arith, ap length same, length-append other grown.0)

pub good_prefix-is_longest : (bytes : List ℕ) → IsGoodPrefix bytes (good_prefix bytes)
good_prefix-is_longest bytes = record { are_good = good_prefix-are_good bytes; longest = good_prefix-longest bytes }

-- there is one longest list
pub IsGoodPrefix-one : (bytes : List ℕ) (xs ys : List BusRecord) → IsGoodPrefix bytes xs → IsGoodPrefix bytes ys → xs ≡ ys
IsGoodPrefix-one bytes xs ys one two =
    let long : length xs ≡ length ys = omega (arith, one.longest ys two.are_good, two.longest xs one.are_good) in
    one.are_good.first ∙ ap (λ n. map record_of (take n (whole_records bytes))) long ∙ sym two.are_good.first

pub IsGoodPrefix-only : (bytes : List ℕ) (records : List BusRecord) → IsGoodPrefix bytes records → records ≡ good_prefix bytes
IsGoodPrefix-only bytes records is = IsGoodPrefix-one bytes records (good_prefix bytes) is (good_prefix-is_longest bytes)
