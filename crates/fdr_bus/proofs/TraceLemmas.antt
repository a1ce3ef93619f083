-- The good prefix of a trace that is read a record at a time, and its fault.
use Rattle.std.proofs.Common.{◌≡◌, ◌≤◌, ◌<◌, ◌⊎◌, inl, inr, ⊎_elim, ℕ, ◌+◌, ◌-◌, ◌*◌, Bool, true, false, List, [], ◌∷◌, ◌++◌, Some, None, length}
use Rattle.std.proofs.Common.{take, refl, sym, ap, ◌∙◌, arith, length-append, eq-eqb}
use Rattle.std.proofs.lemmas.Bool.{cases_lt}
use Rattle.std.proofs.lemmas.Bool.Decides.{nat_tests}
use Rattle.std.specs.Prelude.{◌==◌, ◌||◌, nat_lt}
use Rattle.std.proofs.lemmas.List.{append-nil, take-append-le, take_all, length-take}
use Rattle.std.proofs.lemmas.List.Folds.{list_any-append}
use Rattle.std.proofs.Math.Seq.{take-append-add}
use Rattle.fdr_bus.specs.Records.{record_bytes, whole_records, record_of, is_good, is_end, good_from, good_prefix, time_of, has_end, most_records}
use Rattle.fdr_bus.specs.Records.{IsDecided, IsOpen, record_fault, fault_after, trace_fault}
use Rattle.fdr_bus.specs.declared.BusRecord.{BusRecord}
use Rattle.fdr_bus.specs.declared.TraceFault.{TraceFault}
use Rattle.fdr_bus.specs.declared.TraceFault.TheVariants as fault
use Rattle.fdr_bus.proofs.GoodRecords.{good_from_one, good_from_bad, length-good_from, good_from-append, good_from-ended, good_from-stopped}
use Rattle.fdr_bus.proofs.GoodRecords.{good_from-grows}
use Rattle.fdr_bus.proofs.WholeRecords.{length-whole_records, record_bytes-next, whole_records-append, whole_records-rest}
use Rattle.fdr_bus.proofs.WholeRecords.{whole_records-next}
use Rattle.std.proofs.lemmas.List.Sums.{fold_push}

-- no bytes
pub good_prefix_none : good_prefix [] ≡ []
unfolding good_prefix whole_records most_records
good_prefix_none = refl

pub IsOpen_none : IsOpen []
IsOpen_none = record { whole = ap (λ good. 16 * length good) (sym good_prefix_none); unended = ap has_end good_prefix_none }

pub length-good_prefix-most : (bytes : List ℕ) → length (good_prefix bytes) ≤ most_records
unfolding good_prefix
length-good_prefix-most bytes = omega (arith, length-good_from 0 (take most_records (whole_records bytes)), length-take most_records (whole_records bytes))

count_whole : (bytes : List ℕ) → IsOpen bytes → length (whole_records bytes) ≡ length (good_prefix bytes)
count_whole bytes open_so_far = omega (arith, length-whole_records bytes, open_so_far.whole)

pub good_prefix_is : (bytes : List ℕ) → good_prefix bytes ≡ good_from 0 (take most_records (whole_records bytes))
unfolding good_prefix
good_prefix_is bytes = refl

-- the records of open bytes are all looked at
open_prefix : (bytes : List ℕ) → IsOpen bytes → good_prefix bytes ≡ good_from 0 (whole_records bytes)
open_prefix bytes so_far =
    let few : length (whole_records bytes) ≤ most_records = omega (arith, count_whole bytes so_far, length-good_prefix-most bytes) in
    good_prefix_is bytes ∙ ap (good_from 0) (take_all most_records (whole_records bytes) few)

-- what open bytes and more records give
open_append : (bytes : List ℕ) (later : List (List ℕ)) → IsOpen bytes
    → good_from 0 (whole_records bytes ++ later) ≡ good_prefix bytes ++ good_from (time_of (good_prefix bytes)) later
open_append bytes later so_far =
    let same = open_prefix bytes so_far in
    let unended : has_end (good_from 0 (whole_records bytes)) ≡ false = ap has_end (sym same) ∙ so_far.unended in
    let full : length (good_from 0 (whole_records bytes)) ≡ length (whole_records bytes) = ap length (sym same) ∙ sym (count_whole bytes so_far) in
    good_from-append 0 (whole_records bytes) later unended full ∙ ap (λ good. good ++ good_from (time_of good) later) (sym same)

-- one more record
good_prefix_one : (bytes next : List ℕ) → IsOpen bytes → length (good_prefix bytes) < most_records → length next ≡ 16
    → good_prefix (bytes ++ next) ≡ good_prefix bytes ++ good_from (time_of (good_prefix bytes)) (next ∷ [])
good_prefix_one bytes next so_far few sixteen =
    let records : whole_records (bytes ++ next) ≡ whole_records bytes ++ next ∷ [] =
    whole_records-next bytes next (length (good_prefix bytes)) so_far.whole sixteen in
    let fits : length (whole_records bytes ++ next ∷ []) ≤ most_records =
    omega (arith, length-append (whole_records bytes) (next ∷ []), count_whole bytes so_far) in
    good_prefix_is (bytes ++ next)
    ∙ ap (λ xs. good_from 0 (take most_records xs)) records
    ∙ ap (good_from 0) (take_all most_records (whole_records bytes ++ next ∷ []) fits)
    ∙ open_append bytes (next ∷ []) so_far

-- one more good record, the end record or another
pub good_prefix-next : (bytes next : List ℕ) → IsOpen bytes → length (good_prefix bytes) < most_records → length next ≡ 16
    → is_good (time_of (good_prefix bytes)) next ≡ true → good_prefix (bytes ++ next) ≡ good_prefix bytes ++ record_of next ∷ []
good_prefix-next bytes next so_far few sixteen good =
    good_prefix_one bytes next so_far few sixteen ∙ ap (λ rs. good_prefix bytes ++ rs) (good_from_one (time_of (good_prefix bytes)) next good)

-- and the trace may go on after one that isn't the end
pub IsOpen-next : (bytes next : List ℕ) → IsOpen bytes → length (good_prefix bytes) < most_records → length next ≡ 16
    → is_good (time_of (good_prefix bytes)) next ≡ true → is_end (record_of next) ≡ false → IsOpen (bytes ++ next)
IsOpen-next bytes next so_far few sixteen good goes_on =
    let more = good_prefix-next bytes next so_far few sixteen good in
    record {
      whole = omega (arith, length-append bytes next, so_far.whole, ap length more, length-append (good_prefix bytes) (record_of next ∷ []));
      unended = ap has_end more ∙ list_any-append is_end (good_prefix bytes) (record_of next ∷ []) ∙ rw (so_far.unended, goes_on) refl;
    }

-- fewer than 16 bytes more change nothing
pub good_prefix-rest : (bytes rest : List ℕ) → IsOpen bytes → length rest < 16 → good_prefix (bytes ++ rest) ≡ good_prefix bytes
unfolding good_prefix
good_prefix-rest bytes rest so_far few =
    ap (λ xs. good_from 0 (take most_records xs)) (whole_records-rest bytes rest (length (good_prefix bytes)) so_far.whole few)

-- bytes that settle the trace settle it whatever follows
decided_records : (most : ℕ) (xs later : List (List ℕ))
    → (has_end (good_from 0 (take most xs)) ≡ true) ⊎ ((length (good_from 0 (take most xs)) ≡ most) ⊎ (length (good_from 0 (take most xs)) < length xs))
    → good_from 0 (take most (xs ++ later)) ≡ good_from 0 (take most xs)
decided_records most xs later decided = ⊎_elim
    (λ short. let n = most - length xs in
    let count : most ≡ length xs + n = omega arith in
    let all : take most xs ≡ xs = take_all most xs (omega arith) in
    let longer : take most (xs ++ later) ≡ xs ++ take n later = ap (λ k. take k (xs ++ later)) count ∙ take-append-add xs later n in
    ap (good_from 0) longer ∙ stays n short all decided ∙ sym (ap (good_from 0) all))
    (λ within. ap (good_from 0) (take-append-le most xs later within))
    (cases_lt (length xs) most)
  where
    stays : (n : ℕ) → length xs < most → take most xs ≡ xs
        → (has_end (good_from 0 (take most xs)) ≡ true) ⊎ ((length (good_from 0 (take most xs)) ≡ most) ⊎ (length (good_from 0 (take most xs)) < length xs))
        → good_from 0 (xs ++ take n later) ≡ good_from 0 xs
    stays n short all (inl ended) = good_from-ended 0 xs (take n later) (ap (λ ys. has_end (good_from 0 ys)) (sym all) ∙ ended)
    stays n short all (inr (inl full)) = absurd (omega (arith, ap (λ ys. length (good_from 0 ys)) all, length-good_from 0 xs))
    stays n short all (inr (inr fewer)) = good_from-stopped 0 xs (take n later) (omega (arith, ap (λ ys. length (good_from 0 ys)) all))

pub good_prefix-decided : (bytes more : List ℕ) → IsDecided bytes → good_prefix (bytes ++ more) ≡ good_prefix bytes
unfolding good_prefix
good_prefix-decided bytes more decided =
    let later = whole_records-append bytes more in
    let records = whole_records bytes in
    ap (λ xs. good_from 0 (take most_records xs)) later.1 ∙ decided_records most_records records later.0 (
    elim decided [ inl ended ↦ inl ended | inr (inl full) ↦ inr (inl full) | inr (inr bad) ↦ inr (inr (omega (arith, length-whole_records bytes))) ])

any_or_true : (b : Bool) → (b || (true || false)) ≡ true
any_or_true true = refl
any_or_true false = refl

-- the list ends with an end record
pub has_end-push : (good : List BusRecord) (r : BusRecord) → is_end r ≡ true → has_end (good ++ r ∷ []) ≡ true
has_end-push good r ends =
    let both : (has_end good || has_end (r ∷ [])) ≡ true = rw ends (any_or_true (has_end good)) in
    list_any-append is_end good (r ∷ []) ∙ both

IsEnded-next : (bytes next : List ℕ) → good_prefix (bytes ++ next) ≡ good_prefix bytes ++ record_of next ∷ [] → is_end (record_of next) ≡ true
    → has_end (good_prefix (bytes ++ next)) ≡ true
IsEnded-next bytes next here ends = ap has_end here ∙ has_end-push (good_prefix bytes) (record_of next) ends

-- one record more that isn't good
pub good_prefix_stays : (bytes next : List ℕ) → IsOpen bytes → length next ≡ 16 → is_good (time_of (good_prefix bytes)) next ≡ false
    → good_prefix (bytes ++ next) ≡ good_prefix bytes
good_prefix_stays bytes next so_far sixteen bad = ⊎_elim
    (λ few. good_prefix_one bytes next so_far few sixteen
    ∙ ap (λ rs. good_prefix bytes ++ rs) (good_from_bad (time_of (good_prefix bytes)) next [] bad)
    ∙ append-nil (good_prefix bytes))
    (λ full. good_prefix-decided bytes next (inr (inl (omega (arith, length-good_prefix-most bytes)))))
    (cases_lt (length (good_prefix bytes)) most_records)

-- what follows the end record changes nothing
pub good_prefix-end : (bytes next more : List ℕ) → IsOpen bytes → length (good_prefix bytes) < most_records → length next ≡ 16
    → is_good (time_of (good_prefix bytes)) next ≡ true → is_end (record_of next) ≡ true
    → good_prefix ((bytes ++ next) ++ more) ≡ good_prefix bytes ++ record_of next ∷ []
good_prefix-end bytes next more so_far few sixteen good ends =
    let here = good_prefix-next bytes next so_far few sixteen good in
    good_prefix-decided (bytes ++ next) more (inl (IsEnded-next bytes next here ends)) ∙ here

-- a record that isn't good, and what follows it, change nothing
pub good_prefix-bad : (bytes next more : List ℕ) → IsOpen bytes → length next ≡ 16 → is_good (time_of (good_prefix bytes)) next ≡ false
    → good_prefix ((bytes ++ next) ++ more) ≡ good_prefix bytes
good_prefix-bad bytes next more so_far sixteen bad =
    let here = good_prefix_stays bytes next so_far sixteen bad in
    good_prefix-decided (bytes ++ next) more (inr (inr (omega (arith, ap length here, length-append bytes next, so_far.whole)))) ∙ here

-- nothing follows 2 ^ 32 good records
pub good_prefix-many : (bytes more : List ℕ) → length (good_prefix bytes) ≡ most_records → good_prefix (bytes ++ more) ≡ good_prefix bytes
good_prefix-many bytes more many = good_prefix-decided bytes more (inr (inl many))

-- the faults of a whole line

fault_after_end : (good : List BusRecord) (bytes : List ℕ) → has_end good ≡ true → fault_after good bytes ≡ None
unfolding fault_after
fault_after_end good bytes ended = rw ended refl

pub fault_after_many : (good : List BusRecord) (bytes : List ℕ) → has_end good ≡ false → length good ≡ most_records
    → fault_after good bytes ≡ Some (length good, fault.Many)
unfolding fault_after
fault_after_many good bytes unended many =
    let test : (length good == most_records) ≡ true = eq-eqb (length good) most_records many in
    rw (unended, test) refl

pub fault_after_truncated : (good : List BusRecord) (bytes : List ℕ) → has_end good ≡ false → length good < most_records → length bytes < 16 * length good + 16
    → fault_after good bytes ≡ Some (length good, fault.Truncated)
unfolding fault_after
fault_after_truncated good bytes unended few short =
    let test : (length good == most_records) ≡ false = grind (arith, nat_tests) in
    let cut : nat_lt (length bytes) (16 * length good + 16) ≡ true = grind (arith, nat_tests) in
    rw (unended, test, cut) refl

pub fault_after_bad : (good : List BusRecord) (bytes : List ℕ) (why : TraceFault) → has_end good ≡ false → length good < most_records
    → 16 * length good + 16 ≤ length bytes → record_fault (time_of good) (record_bytes bytes (length good)) ≡ Some why
    → fault_after good bytes ≡ Some (length good, why)
unfolding fault_after
fault_after_bad good bytes why unended few long faulty =
    let test : (length good == most_records) ≡ false = grind (arith, nat_tests) in
    let cut : nat_lt (length bytes) (16 * length good + 16) ≡ false = grind (arith, nat_tests) in
    rw (unended, test, cut, faulty) refl

pub trace_fault_is : (bytes : List ℕ) → trace_fault bytes ≡ fault_after (good_prefix bytes) bytes
unfolding trace_fault
trace_fault_is bytes = refl

-- a line with an end record has none
pub trace_fault-ended : (bytes : List ℕ) → has_end (good_prefix bytes) ≡ true → trace_fault bytes ≡ None
trace_fault-ended bytes ended = trace_fault_is bytes ∙ fault_after_end (good_prefix bytes) bytes ended

-- the fault of the record that isn't good
pub trace_fault-bad : (bytes next more : List ℕ) (why : TraceFault) → IsOpen bytes → length (good_prefix bytes) < most_records → length next ≡ 16
    → is_good (time_of (good_prefix bytes)) next ≡ false → record_fault (time_of (good_prefix bytes)) next ≡ Some why
    → trace_fault ((bytes ++ next) ++ more) ≡ Some (length (good_prefix bytes), why)
trace_fault-bad bytes next more why so_far few sixteen bad faulty =
    let all = (bytes ++ next) ++ more in
    let same = good_prefix-bad bytes next more so_far sixteen bad in
    let long : 16 * length (good_prefix bytes) + 16 ≤ length all = omega (arith, length-append (bytes ++ next) more, length-append bytes next, so_far.whole) in
    let here : record_bytes all (length (good_prefix bytes)) ≡ next = record_bytes-next bytes next more (length (good_prefix bytes)) so_far.whole sixteen in
    trace_fault_is all ∙ ap (λ good. fault_after good all) same
    ∙ fault_after_bad (good_prefix bytes) all why so_far.unended few long (ap (record_fault (time_of (good_prefix bytes))) here ∙ faulty)

-- too many records
pub trace_fault-many : (bytes more : List ℕ) → IsOpen bytes → length (good_prefix bytes) ≡ most_records
    → trace_fault (bytes ++ more) ≡ Some (length (good_prefix bytes), fault.Many)
trace_fault-many bytes more so_far many =
    trace_fault_is (bytes ++ more) ∙ ap (λ good. fault_after good (bytes ++ more)) (good_prefix-many bytes more many)
    ∙ fault_after_many (good_prefix bytes) (bytes ++ more) so_far.unended many

-- the line stops in or before a record
pub trace_fault-truncated : (bytes rest : List ℕ) → IsOpen bytes → length (good_prefix bytes) < most_records → length rest < 16
    → trace_fault (bytes ++ rest) ≡ Some (length (good_prefix bytes), fault.Truncated)
trace_fault-truncated bytes rest so_far few cut =
    let short : length (bytes ++ rest) < 16 * length (good_prefix bytes) + 16 = omega (arith, length-append bytes rest, so_far.whole) in
    trace_fault_is (bytes ++ rest) ∙ ap (λ good. fault_after good (bytes ++ rest)) (good_prefix-rest bytes rest so_far cut)
    ∙ fault_after_truncated (good_prefix bytes) (bytes ++ rest) so_far.unended few short

-- whether bytes settle the trace, by the same steps

-- open bytes and fewer than 16 more settle nothing
pub IsDecided-rest : (bytes rest : List ℕ) → IsOpen bytes → length (good_prefix bytes) < most_records → length rest < 16 → IsDecided (bytes ++ rest) → ⊥
IsDecided-rest bytes rest so_far few cut decided =
    let same = good_prefix-rest bytes rest so_far cut in
    let unended : has_end (good_prefix (bytes ++ rest)) ≡ false = ap has_end same ∙ so_far.unended in
    elim decided [
      | inl ended ↦ absurd (cc)
      | inr (inl many) ↦ omega (arith, ap length same)
      | inr (inr long) ↦ omega (arith, ap length same, length-append bytes rest, so_far.whole)
    ]

take_grows : (most : ℕ) (xs ys : List (List ℕ)) → (later : List (List ℕ)) × (take most (xs ++ ys) ≡ take most xs ++ later)
take_grows most xs ys = ⊎_elim
    (λ short. let n = most - length xs in
    let count : most ≡ length xs + n = omega arith in
    let all : take most xs ≡ xs = take_all most xs (omega arith) in
    (take n ys, ap (λ k. take k (xs ++ ys)) count ∙ take-append-add xs ys n ∙ sym (ap (λ zs. zs ++ take n ys) all)))
    (λ within. ([], take-append-le most xs ys within ∙ sym (append-nil (take most xs))))
    (cases_lt (length xs) most)

-- bytes that follow can only add good records
pub good_prefix-append : (bytes more : List ℕ) → (later : List BusRecord) × (good_prefix (bytes ++ more) ≡ good_prefix bytes ++ later)
unfolding good_prefix
good_prefix-append bytes more =
    let records = whole_records-append bytes more in
    let taken = take_grows most_records (whole_records bytes) records.0 in
    let grown = good_from-grows 0 (take most_records (whole_records bytes)) taken.0 in
    (grown.0, ap (λ xs. good_from 0 (take most_records xs)) records.1 ∙ ap (good_from 0) taken.1 ∙ grown.1)

pub time_of-push : (records : List BusRecord) (r : BusRecord) → time_of (records ++ r ∷ []) ≡ r.time
time_of-push records r = fold_push (λ time (r : BusRecord). r.time) 0 records r

-- no record comes before the one before it, nor the first before this time
abbrev pub Rises : ℕ → List BusRecord → Type 0
Rises before [] = Unit {0}
Rises before (r ∷ rs) = (before ≤ r.time) × Rises r.time rs
