-- The blocks of a recording as further records come.
use Rattle.std.proofs.Common.{◌≡◌, ℕ, ◌+◌, ◌-◌, ◌*◌, ◌/◌, ◌≤◌, List, ◌++◌, length, take, drop, ap, sym, ◌∙◌, length-take}
use Rattle.std.proofs.Common.{arith}
use Rattle.std.proofs.lemmas.List.{drop-take, take-append-drop}
use Rattle.std.proofs.lemmas.List.FromFn.{length-map-range_with_len, take-map-range_with_len}
use Rattle.std.proofs.lemmas.Nat.{le-div, mul-le}
use Rattle.std.proofs.Math.Nat.{div-mul-le_self, mul_comm}
use Rattle.fdr_lists.proofs.Ranges.{map-range-agree}
use Rattle.fdr_bus.specs.declared.BusRecord.{BusRecord}
use Rattle.fdr_bus.specs.Records.{good_prefix, time_of}
use Rattle.fdr_bus.proofs.TraceLemmas.{Rises}
use Rattle.fdr_slot.specs.Limits.{IsInLimits}
use Rattle.fdr_recover.specs.Blocks.{Block}
use Rattle.fdr_sampler.specs.Stream.{slot_count, stream_of, stream_words}
use Rattle.fdr_sampler.proofs.Packing.{length-packed}
use Rattle.fdr_stream.specs.Blocks.{cut_block, blocks_of}
use Rattle.fdr_stream.proofs.Later.{due_blocks-fill}
use Rattle.fdr_stream.proofs.Standing.{slot_count-later}
use Rattle.fdr_recorder.specs.Past.{RecordingPast, all_blocks, due_count, numbered_block, recorded_of}
use Rattle.fdr_recorder.specs.Supplied.{past_fed}
use Rattle.fdr_recorder.proofs.Longer.{InOrder-good_prefix, stream_of-good, time-grows}
use Rattle.fdr_sampler.proofs.StreamWords.{length-stream_words}

-- as many as are due are recorded
pub recorded-long : (past : RecordingPast) → length (recorded_of past) ≡ due_count past
recorded-long past = length-map-range_with_len (numbered_block past) 0 (due_count past)

module _ (past : RecordingPast) (all records later : List BusRecord) (order : Rises 0 all) (good : all ≡ records ++ later)
    (limits : IsInLimits past.header)
  where
    p : ℕ
    p = past.header.payload

    fill : p * due_count (past_fed past records) ≤ 3 * length (stream_words past.table records) / 2
    unfolding p
    fill = due_blocks-fill past.table past.header.payload records

    same_block : (i : ℕ) → i + 1 ≤ due_count (past_fed past records)
        → numbered_block (past_fed past all) i ≡ numbered_block (past_fed past records) i
    unfolding p
    same_block i before =
        let n = p * i + p in
        let within : p * (i + 1) ≤ p * due_count (past_fed past records) = mul-le p (i + 1) p (due_count (past_fed past records)) (omega arith) before in
        let few : n ≤ 3 * length (stream_words past.table records) / 2 = omega (arith, fill, within) in
        let same = stream_of-good past.table all records later n order good few in
        let is : cut_block p (stream_of past.table all) i ≡ cut_block p (stream_of past.table records) i =
        sym (drop-take (p * i) p (stream_of past.table all)) ∙ ap (λ (l : List ℕ). drop (p * i) l) same
        ∙ drop-take (p * i) p (stream_of past.table records) in
        ap (λ (l : List ℕ). record { number = past.first + i; session = past.session; payload = l }) is

    -- the stream of all records has this many blocks at least
    enough : due_count (past_fed past records) ≤ length (blocks_of p (stream_of past.table all))
    unfolding p
    enough =
        let n = p * due_count (past_fed past records) in
        let whole = stream_of past.table all in
        let some = stream_of past.table records in
        let long = length-packed (stream_words past.table records) in
        let same = ap length (stream_of-good past.table all records later n order good fill) in
        let cut : n ≤ length whole = omega (arith, same, length-take n whole, length-take n some, long, fill) in
        let count : length (blocks_of p whole) ≡ (length whole + p - 1) / p = length-map-range_with_len (cut_block p whole) 0 ((length whole + p - 1) / p) in
        let turned : due_count (past_fed past records) * p ≡ n = mul_comm (due_count (past_fed past records)) p in
        let least = limits.least_payload in
        let most = le-div (due_count (past_fed past records)) (length whole + p - 1) p (omega (arith, least)) (omega (arith, turned, cut, least)) in
        omega (arith, count, most)

    -- what is recorded of the first records is a front part of what is recorded of all
    pub new_blocks-begin : (rest : List Block) × (all_blocks (past_fed past all) ≡ recorded_of (past_fed past records) ++ rest)
    unfolding p
    new_blocks-begin =
        let n = due_count (past_fed past records) in
        let f = numbered_block (past_fed past all) in
        let blocks = all_blocks (past_fed past all) in
        let front : take n blocks ≡ recorded_of (past_fed past records) =
        take-map-range_with_len f 0 (length (blocks_of p (stream_of past.table all))) n enough
        ∙ map-range-agree f (numbered_block (past_fed past records)) 0 n (λ i low high. same_block i (omega (arith, high))) in
        (drop n blocks, sym (take-append-drop n blocks) ∙ ap (λ (l : List Block). l ++ drop n blocks) front)

-- fewer good records give no more blocks
pub blocks-fewer : (past : RecordingPast) (bytes more : List ℕ) (later : List BusRecord) → IsInLimits past.header
    → good_prefix (bytes ++ more) ≡ good_prefix bytes ++ later
    → length (all_blocks (past_fed past (good_prefix bytes))) ≤ length (all_blocks (past_fed past (good_prefix (bytes ++ more))))
blocks-fewer past bytes more later limits good =
    let t = past.table in
    let p = past.header.payload in
    let a = good_prefix bytes in
    let b = good_prefix (bytes ++ more) in
    let time : time_of a ≤ time_of b = time-grows b a later (InOrder-good_prefix (bytes ++ more)) good in
    let words : slot_count t.frame.words (time_of a) ≤ slot_count t.frame.words (time_of b) =
    slot_count-later t.frame.words (time_of a) (time_of b) time in
    let la = length-packed (stream_words t a) in
    let lb = length-packed (stream_words t b) in
    let long : length (stream_of t a) ≤ length (stream_of t b) = omega (arith, la, lb, words, length-stream_words t a, length-stream_words t b) in
    let count : (length (stream_of t a) + p - 1) / p ≤ (length (stream_of t b) + p - 1) / p =
    le-div ((length (stream_of t a) + p - 1) / p) (length (stream_of t b) + p - 1) p (omega (arith, limits.least_payload))
    (omega (arith, div-mul-le_self (length (stream_of t a) + p - 1) p, long)) in
    let na = length-map-range_with_len (numbered_block (past_fed past a)) 0 (length (blocks_of p (stream_of t a))) in
    let nb = length-map-range_with_len (numbered_block (past_fed past b)) 0 (length (blocks_of p (stream_of t b))) in
    let ma = length-map-range_with_len (cut_block p (stream_of t a)) 0 ((length (stream_of t a) + p - 1) / p) in
    let mb = length-map-range_with_len (cut_block p (stream_of t b)) 0 ((length (stream_of t b) + p - 1) / p) in
    omega (arith, na, nb, ma, mb, count)
