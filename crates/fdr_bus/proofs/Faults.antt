-- A trace without an end record among its good ones has a fault, and its number is how many good ones there are.
use Rattle.std.proofs.Common.{◌≡◌, ◌≤◌, ◌<◌, inl, inr, ⊎_elim, ℕ, ◌+◌, ◌*◌, ◌/◌, true, false, List, [], ◌∷◌, length, take, get_or, Option, Some, None}
use Rattle.std.proofs.Common.{sym, ap, ◌∙◌, arith}
use Rattle.std.specs.Prelude.{◌↔◌}
use Rattle.std.proofs.lemmas.Bool.{cases_Bool, cases_lt}
use Rattle.std.proofs.lemmas.List.{get_or-take, length-take}
use Rattle.std.proofs.lemmas.List.FromFn.{get_or-map-range_with_len}
use Rattle.fdr_bus.specs.declared.TraceFault.{TraceFault}
use Rattle.fdr_bus.specs.Records.{good_from, good_prefix, has_end, has_kind, is_good, last_time, most_records, record_bytes, record_fault}
use Rattle.fdr_bus.specs.Records.{record_of, time_after, time_of, trace_fault, whole_records}
use Rattle.fdr_bus.proofs.GoodRecords.{First, first_cases}
use Rattle.fdr_bus.proofs.ParseLemmas.{is_good_yes, record_fault_early, record_fault_late, record_fault_unnamed}
use Rattle.fdr_bus.proofs.TraceLemmas.{fault_after_bad, fault_after_many, fault_after_truncated, good_prefix_is, length-good_prefix-most}
use Rattle.fdr_bus.proofs.TraceLemmas.{trace_fault-ended, trace_fault_is}
use Rattle.fdr_bus.proofs.WholeRecords.{length-whole_records}

-- the record after the good ones isn't good, where none of them is an end
after_good : (before : ℕ) (whole : List (List ℕ)) (d : List ℕ) → has_end (good_from before whole) ≡ false
    → length (good_from before whole) < length whole
    → is_good (time_after before (good_from before whole)) (get_or whole (length (good_from before whole)) d) ≡ false
unfolding First
after_good before [] d unended fewer = absurd (omega (arith, fewer))
after_good before (bytes ∷ rest) d unended fewer = elim (first_cases before bytes) [
  | inl bad ↦ rw bad bad
  | inr (inl last) ↦ (let h = rw (last.0, last.1) at unended in absurd (cc))
  | inr (inr more) ↦ (let unended_rest = rw (more.0, more.1) at unended in
      let fewer_rest = rw (more.0, more.1) at fewer in
      rw (more.0, more.1) (after_good (record_of bytes).time rest d unended_rest (omega (arith, fewer_rest))))
]

-- the same of the bytes of a trace
record_after_good : (bytes : List ℕ) → has_end (good_prefix bytes) ≡ false → length (good_prefix bytes) < most_records
    → 16 * length (good_prefix bytes) + 16 ≤ length bytes
    → is_good (time_of (good_prefix bytes)) (record_bytes bytes (length (good_prefix bytes))) ≡ false
unfolding whole_records
record_after_good bytes unended few long =
    let n = length (good_prefix bytes) in
    let front = take most_records (whole_records bytes) in
    let same = good_prefix_is bytes in
    let more : length (good_from 0 front) < length front =
    omega (arith, ap length same, few, long, length-take most_records (whole_records bytes), length-whole_records bytes) in
    let here : get_or front n [] ≡ record_bytes bytes n =
    get_or-take most_records (whole_records bytes) n [] few
    ∙ get_or-map-range_with_len (record_bytes bytes) 0 (length bytes / 16) n n [] (omega (arith, long)) (omega arith) in
    let bad = after_good 0 front [] (ap has_end (sym same) ∙ unended) more in
    ap (λ r. is_good (time_of (good_prefix bytes)) r) (sym here)
    ∙ ap (λ good. is_good (time_of good) (get_or front (length good) [])) same ∙ bad

-- a record that isn't good has a fault
has_fault : (before : ℕ) (bytes : List ℕ) → is_good before bytes ≡ false → (why : TraceFault) × (record_fault before bytes ≡ Some why)
has_fault before bytes bad = ⊎_elim
    (λ named. ⊎_elim
    (λ early. (_, record_fault_early before bytes named early))
    (λ order. ⊎_elim
    (λ late. (_, record_fault_late before bytes named order late))
    (λ in_time. (let good = is_good_yes before bytes named order in_time in absurd (cc)))
    (cases_lt last_time (record_of bytes).time))
    (cases_lt (record_of bytes).time before))
    (λ unnamed. (_, record_fault_unnamed before bytes unnamed))
    (cases_Bool (has_kind bytes))

-- the fault of a trace without an end
unended_fault : (bytes : List ℕ) → has_end (good_prefix bytes) ≡ false → (why : TraceFault) × (trace_fault bytes ≡ Some (length (good_prefix bytes), why))
unended_fault bytes unended =
    let good = good_prefix bytes in
    ⊎_elim
    (λ few. ⊎_elim
    (λ cut. (_, trace_fault_is bytes ∙ fault_after_truncated good bytes unended few cut))
    (λ long. let found = has_fault (time_of good) (record_bytes bytes (length good)) (record_after_good bytes unended few long) in
    (found.0, trace_fault_is bytes ∙ fault_after_bad good bytes found.0 unended few long found.1))
    (cases_lt (length bytes) (16 * length good + 16)))
    (λ full. let many : length good ≡ most_records = omega (arith, full, length-good_prefix-most bytes) in
    (_, trace_fault_is bytes ∙ fault_after_many good bytes unended many))
    (cases_lt (length good) most_records)

number_in : Option (ℕ × TraceFault) → ℕ
number_in None = 0
number_in (Some found) = found.0

pub fault_none : (bytes : List ℕ) → trace_fault bytes ≡ None ↔ has_end (good_prefix bytes) ≡ true
fault_none bytes = (
  λ none. ⊎_elim (λ ended. ended) (λ unended. (let found = unended_fault bytes unended in absurd (cc))) (cases_Bool (has_end (good_prefix bytes))),
  λ ended. trace_fault-ended bytes ended,
)

pub fault_number : (bytes : List ℕ) (index : ℕ) (why : TraceFault) → trace_fault bytes ≡ Some (index, why) → index ≡ length (good_prefix bytes)
unfolding number_in
fault_number bytes index why is = ⊎_elim
    (λ ended. (let none = trace_fault-ended bytes ended in absurd (cc)))
    (λ unended. let found = unended_fault bytes unended in ap number_in (sym is) ∙ ap number_in found.1)
    (cases_Bool (has_end (good_prefix bytes)))
