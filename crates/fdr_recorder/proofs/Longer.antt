-- The stream as further good records come.
use Rattle.std.proofs.Common.{◌≡◌, ℕ, ◌*◌, ◌/◌, ◌≤◌, ⊎_elim, true, false, List, [], ◌∷◌, ◌++◌, length, take, ap, refl, sym, ◌∙◌, subst, append_assoc, arith}
use Rattle.std.proofs.lemmas.Bool.{cases_Bool}
use Rattle.std.proofs.lemmas.List.{append-nil}
use Rattle.fdr_bus.specs.declared.BusRecord.{BusRecord}
use Rattle.fdr_bus.specs.Records.{good_from, good_prefix, is_end, is_good, most_records, record_of, time_after, time_of, whole_records}
use Rattle.fdr_bus.proofs.ParseLemmas.{is_good_in_order}
use Rattle.fdr_table.specs.Rows.{TableRows}
use Rattle.fdr_sampler.specs.Stream.{slot_count, stream_of, stream_words}
use Rattle.fdr_stream.proofs.Later.{stream_of-later}
use Rattle.fdr_stream.proofs.Standing.{slot_count-later}
use Rattle.fdr_sampler.proofs.StreamWords.{length-stream_words}
use Rattle.fdr_bus.proofs.TraceLemmas.{time_of-push, Rises}

InOrder-good_from : (before : ℕ) (xs : List (List ℕ)) → Rises before (good_from before xs)
InOrder-good_from before [] = tt
InOrder-good_from before (bytes ∷ rest) = ⊎_elim
    (λ (good : is_good before bytes ≡ true). ⊎_elim
    (λ (ends : is_end (record_of bytes) ≡ true). rw (good, ends) (is_good_in_order before bytes good, tt))
    (λ (goes_on : is_end (record_of bytes) ≡ false). rw (good, goes_on) (is_good_in_order before bytes good, InOrder-good_from (record_of bytes).time rest))
    (cases_Bool (is_end (record_of bytes))))
    (λ (bad : is_good before bytes ≡ false). rw bad tt)
    (cases_Bool (is_good before bytes))

pub InOrder-good_prefix : (bytes : List ℕ) → Rises 0 (good_prefix bytes)
unfolding good_prefix
InOrder-good_prefix bytes = InOrder-good_from 0 (take most_records (whole_records bytes))

InOrder-rest : (before : ℕ) (records later : List BusRecord) → Rises before (records ++ later) → Rises (time_after before records) later
InOrder-rest before [] later order = order
InOrder-rest before (r ∷ records) later order = InOrder-rest r.time records later order.1

-- further records in order change none of the bytes that the words before them fill
stream_of-longer : (t : TableRows) (records later : List BusRecord) (n : ℕ) → Rises (time_of records) later → n ≤ 3 * length (stream_words t records) / 2
    → take n (stream_of t (records ++ later)) ≡ take n (stream_of t records)
stream_of-longer t records [] n order few = ap (λ (x : List BusRecord). take n (stream_of t x)) (append-nil records)
stream_of-longer t records (r ∷ later) n order few =
    let w = t.frame.words in
    let more = records ++ r ∷ [] in
    let time : time_of more ≡ r.time = time_of-push records r in
    let longer : slot_count w (time_of records) ≤ slot_count w r.time = slot_count-later w (time_of records) r.time order.0 in
    let count : length (stream_words t more) ≡ slot_count w r.time = length-stream_words t more ∙ ap (slot_count w) time in
    let few_more : n ≤ 3 * length (stream_words t more) / 2 = omega (arith, few, count, length-stream_words t records, longer) in
    ap (λ (x : List BusRecord). take n (stream_of t x)) (sym (append_assoc records (r ∷ []) later))
    ∙ stream_of-longer t more later n (subst (λ m. Rises m later) (sym time) order.1) few_more
    ∙ stream_of-later t records r n order.0 few

-- so the first bytes of the stream of the first records are those of the stream of all
pub stream_of-good : (t : TableRows) (all records later : List BusRecord) (n : ℕ) → Rises 0 all → all ≡ records ++ later
    → n ≤ 3 * length (stream_words t records) / 2 → take n (stream_of t all) ≡ take n (stream_of t records)
stream_of-good t all records later n rises good few =
    let order : Rises 0 (records ++ later) = subst (Rises 0) good rises in
    ap (λ (x : List BusRecord). take n (stream_of t x)) good ∙ stream_of-longer t records later n (InOrder-rest 0 records later order) few

time_after-append : (before : ℕ) (records later : List BusRecord)
    → time_after before (records ++ later) ≡ time_after (time_after before records) later
time_after-append before [] later = refl
time_after-append before (r ∷ records) later = time_after-append r.time records later

later-grows : (before : ℕ) (later : List BusRecord) → Rises before later → before ≤ time_after before later
later-grows before [] order = omega arith
later-grows before (r ∷ later) order = omega (arith, order.0, later-grows r.time later order.1)

-- so the first records end no later than all
pub time-grows : (all records later : List BusRecord) → Rises 0 all → all ≡ records ++ later → time_of records ≤ time_of all
time-grows all records later rises good =
    let order : Rises 0 (records ++ later) = subst (Rises 0) good rises in
    omega (arith, later-grows (time_of records) later (InOrder-rest 0 records later order), time_after-append 0 records later, ap time_of good)
