-- Which records of a trace were read, as bytes are pulled and records taken.
use Rattle.std.proofs.Common.{◌≡◌, ℕ, ◌+◌, ◌<◌, ◌≤◌, ◌≢◌, true, false, List, [], ◌∷◌, ◌++◌, length, Option, Some, ap, sym, ◌∙◌, subst, append_assoc}
use Rattle.std.proofs.Common.{length-append, arith}
use Rattle.fdr_bus.specs.declared.BusRecord.{BusRecord}
use Rattle.fdr_bus.specs.declared.TraceFault.{TraceFault}
use Rattle.fdr_bus.specs.declared.TraceFault.TheVariants as fault
use Rattle.fdr_bus.specs.Records.{IsDecided, good_prefix, is_end, is_good, last_time, most_records, record_fault, record_of, time_of, trace_fault}
use Rattle.fdr_bus.proofs.ParseLemmas.{is_good_in_order, is_good_in_time}
use Rattle.fdr_bus.proofs.TraceLemmas.{good_prefix_none, IsOpen_none, length-good_prefix-most, good_prefix-next, IsOpen-next, good_prefix-rest}
use Rattle.fdr_bus.proofs.TraceLemmas.{good_prefix-end, good_prefix-bad, good_prefix-many, trace_fault-bad, trace_fault-many, trace_fault-truncated}
use Rattle.fdr_bus.proofs.TraceLemmas.{IsDecided-rest, time_of-push}
use Rattle.fdr_trace.specs.Kept.{TraceKept}
use Rattle.fdr_trace.specs.Reading.{RepresentsTrace, IsNextRecord}

-- nothing was pulled or read yet
pub Reads-none : (k : TraceKept) → k.waiting ≡ [] → k.time ≡ 0 → k.count ≡ 0 → RepresentsTrace k [] []
Reads-none k waiting time count = record {
  read = [];
  split = sym waiting;
  unended = IsOpen_none;
  good = sym good_prefix_none;
  time = time;
  count = count;
}

-- fewer than the most records were read, where the count isn't the most
pub Reads-few : (k : TraceKept) (n : ℕ) → n ≡ k.count → n ≢ 4294967296 → (bytes : List ℕ) (records : List BusRecord) → RepresentsTrace k bytes records
    → length records < most_records
unfolding most_records
Reads-few k n is not_most bytes records reads = omega (arith, reads.count, ap length reads.good, length-good_prefix-most reads.read, not_most, is)

module _ (k : TraceKept) (bytes : List ℕ) (records : List BusRecord) (reads : RepresentsTrace k bytes records) where
  -- a piece more
  pub Reads-pull : (k' : TraceKept) (piece : List ℕ) → k'.waiting ≡ k.waiting ++ piece → k'.time ≡ k.time → k'.count ≡ k.count
      → RepresentsTrace k' (bytes ++ piece) records
  Reads-pull k' piece waiting time count = record {
    read = reads.read;
    split = ap (λ (x : List ℕ). x ++ piece) reads.split ∙ append_assoc reads.read k.waiting piece ∙ ap (λ (x : List ℕ). reads.read ++ x) (sym waiting);
    unended = reads.unended;
    good = reads.good;
    time = time ∙ reads.time;
    count = count ∙ reads.count;
  }

  few_good : length records < most_records → length (good_prefix reads.read) < most_records
  few_good few = subst (λ (x : List BusRecord). length x < most_records) reads.good few

  pub Reads-counts : k.count ≤ 4294967296
  unfolding most_records
  Reads-counts = omega (arith, reads.count, ap length reads.good, length-good_prefix-most reads.read)

  -- where less than a record waits, the records are all the good ones
  pub Reads-good : length k.waiting < 16 → good_prefix bytes ≡ records
  Reads-good waits = ap good_prefix reads.split ∙ good_prefix-rest reads.read k.waiting reads.unended waits ∙ sym reads.good

  pub Reads-undecided : length k.waiting < 16 → length records < most_records → IsDecided bytes → ⊥
  Reads-undecided waits few decided =
      IsDecided-rest reads.read k.waiting reads.unended (few_good few) waits (subst IsDecided reads.split decided)

  counted : (why : TraceFault) → ◌≡◌ {A = Option (ℕ × TraceFault)} (Some (length (good_prefix reads.read), why)) (Some (k.count, why))
  counted why = ap (λ n. let fault : Option (ℕ × TraceFault) = Some (n, why) in fault) (ap length (sym reads.good) ∙ sym reads.count)

  pub Reads-truncated : length k.waiting < 16 → length records < most_records → trace_fault bytes ≡ Some (k.count, fault.Truncated)
  Reads-truncated waits few =
      ap trace_fault reads.split ∙ trace_fault-truncated reads.read k.waiting reads.unended (few_good few) waits ∙ counted fault.Truncated

  -- where the most records were read
  pub Reads-many : k.count ≡ most_records → (good_prefix bytes ≡ records) × (trace_fault bytes ≡ Some (k.count, fault.Many))
  Reads-many many =
      let all : length (good_prefix reads.read) ≡ most_records = ap length (sym reads.good) ∙ sym reads.count ∙ many in (
        ap good_prefix reads.split ∙ good_prefix-many reads.read k.waiting all ∙ sym reads.good,
        ap trace_fault reads.split ∙ trace_fault-many reads.read k.waiting reads.unended all ∙ counted fault.Many,
      )

  same_time : k.time ≡ time_of (good_prefix reads.read)
  same_time = reads.time ∙ ap time_of reads.good

  split_next : (k' : TraceKept) (next : List ℕ) → k.waiting ≡ next ++ k'.waiting → bytes ≡ (reads.read ++ next) ++ k'.waiting
  split_next k' next waiting = reads.split ∙ ap (λ (x : List ℕ). reads.read ++ x) waiting ∙ sym (append_assoc reads.read next k'.waiting)

  -- a good record more
  pub Reads-next : (k' : TraceKept) (next : List ℕ) (r : BusRecord) → length records < most_records → length next ≡ 16
      → k.waiting ≡ next ++ k'.waiting → is_good k.time next ≡ true → r ≡ record_of next → k'.time ≡ r.time → k'.count ≡ k.count + 1
      → IsNextRecord k' bytes records r
  Reads-next k' next r few sixteen waiting good is time count =
      let good_next = subst (λ n. is_good n next ≡ true) same_time good in
      let here = split_next k' next waiting in
      record {
        order = subst (λ (x : BusRecord). time_of records ≤ x.time) (sym is)
            (subst (λ n. n ≤ (record_of next).time) reads.time (is_good_in_order k.time next good));
        in_time = subst (λ (x : BusRecord). x.time ≤ last_time) (sym is) (is_good_in_time k.time next good);
        more = λ goes_on.
            let goes = subst (λ (x : BusRecord). is_end x ≡ false) is goes_on in
            record {
              read = reads.read ++ next;
              split = here;
              unended = IsOpen-next reads.read next reads.unended (few_good few) sixteen good_next goes;
              good = ap (λ (x : List BusRecord). x ++ r ∷ []) reads.good ∙ ap (λ (x : BusRecord). good_prefix reads.read ++ x ∷ []) is
                  ∙ sym (good_prefix-next reads.read next reads.unended (few_good few) sixteen good_next);
              time = time ∙ sym (time_of-push records r);
              count = omega (arith, count, reads.count, length-append records (r ∷ []));
            };
        ends = λ ended.
            let ends = subst (λ (x : BusRecord). is_end x ≡ true) is ended in
            ap good_prefix here ∙ good_prefix-end reads.read next k'.waiting reads.unended (few_good few) sixteen good_next ends
            ∙ ap (λ (x : BusRecord). good_prefix reads.read ++ x ∷ []) (sym is) ∙ ap (λ (x : List BusRecord). x ++ r ∷ []) (sym reads.good);
      }

  -- a record that isn't good
  pub Reads-bad : (k' : TraceKept) (next : List ℕ) (why : TraceFault) → length records < most_records → length next ≡ 16
      → k.waiting ≡ next ++ k'.waiting → is_good k.time next ≡ false → record_fault k.time next ≡ Some why
      → (good_prefix bytes ≡ records) × (trace_fault bytes ≡ Some (k.count, why))
  Reads-bad k' next why few sixteen waiting bad first =
      let bad_next = subst (λ n. is_good n next ≡ false) same_time bad in
      let why_next = subst (λ n. record_fault n next ≡ Some why) same_time first in
      let here = split_next k' next waiting in (
        ap good_prefix here ∙ good_prefix-bad reads.read next k'.waiting reads.unended sixteen bad_next ∙ sym reads.good,
        ap trace_fault here ∙ trace_fault-bad reads.read next k'.waiting why reads.unended (few_good few) sixteen bad_next why_next ∙ counted why,
      )
