-- The blocks that the calls of a session record, one call's after another's.
use Rattle.std.proofs.Common.{◌≡◌, ℕ, zero, suc, ◌+◌, ◌-◌, ◌*◌, ◌/◌, ◌≤◌, min, List, [], ◌∷◌, ◌++◌, length, map, drop, ap, sym, refl, ◌∙◌, arith, append_assoc}
use Rattle.std.specs.List.{range_with_len}
use Rattle.std.proofs.lemmas.List.{drop-take, append-nil}
use Rattle.std.proofs.lemmas.List.FromFn.{length-map-range_with_len, map-range_with_len_more}
use Rattle.std.proofs.lemmas.Nat.{mul-le}
use Rattle.std.proofs.Math.Nat.{mul_comm}
use Rattle.std.proofs.lemmas.Nat.{le-div}
use Rattle.fdr_lists.proofs.Ranges.{map-range-agree}
use Rattle.fdr_bus.specs.declared.BusRecord.{BusRecord}
use Rattle.fdr_bus.specs.Records.{time_of}
use Rattle.fdr_slot.specs.Limits.{IsInLimits}
use Rattle.fdr_recover.specs.Blocks.{Block}
use Rattle.fdr_sampler.specs.SlotWord.{slot_word}
use Rattle.fdr_sampler.specs.Stream.{slot_count, stream_words}
use Rattle.fdr_stream.specs.Blocks.{cut_block, blocks_of}
use Rattle.fdr_stream.proofs.Later.{due_blocks-fill, stream_of-later}
use Rattle.fdr_stream.proofs.Standing.{slot_count-later}
use Rattle.fdr_recorder.specs.Past.{RecordingPast, MayFeedRecording, recording_with_record, recorded_bytes}
use Rattle.fdr_recorder.specs.Past.{due_count, numbered_block, blocks_from, blocks_due_at, recorded_of}
use Rattle.fdr_recorder.specs.Past.{all_blocks, rest_of}
use Rattle.fdr_bus.proofs.TraceLemmas.{time_of-push}

map_join : (f : ℕ → Block) (a n k : ℕ) → map f (range_with_len a (n + k)) ≡ map f (range_with_len a n) ++ map f (range_with_len (a + n) k)
map_join f a n zero = let none : n + zero ≡ n = omega arith in ap (λ m. map f (range_with_len a m)) none ∙ sym (append-nil (map f (range_with_len a n)))
map_join f a n (suc k) =
    let up : n + suc k ≡ n + k + 1 = omega arith in
    let one : k + 1 ≡ suc k = omega arith in
    let b : List Block = f (a + n + k) ∷ [] in
    let at : a + (n + k) ≡ a + n + k = omega arith in
    ap (λ m. map f (range_with_len a m)) up ∙ map-range_with_len_more f a (n + k) (a + n + k) at
    ∙ ap (λ (l : List Block). l ++ b) (map_join f a n k)
    ∙ append_assoc (map f (range_with_len a n)) (map f (range_with_len (a + n) k)) b
    ∙ ap (λ (l : List Block). map f (range_with_len a n) ++ l) (sym (map-range_with_len_more f (a + n) k (a + n + k) refl)
    ∙ ap (λ m. map f (range_with_len (a + n) m)) one)

-- a block that was due is the same with a further record
same_block : (past : RecordingPast) (r : BusRecord) → MayFeedRecording past r → (i : ℕ) → i + 1 ≤ due_count past
    → numbered_block (recording_with_record past r) i ≡ numbered_block past i
same_block past r may i before =
    let p = past.header.payload in
    let whole = p * i + p in
    let fill = due_blocks-fill past.table p past.records in
    let within : p * (i + 1) ≤ p * due_count past = mul-le p (i + 1) p (due_count past) (omega arith) before in
    let few : whole ≤ 3 * length (stream_words past.table past.records) / 2 = omega (arith, fill, within) in
    let same = stream_of-later past.table past.records r whole may.order few in
    let is : cut_block p (recorded_bytes (recording_with_record past r)) i ≡ cut_block p (recorded_bytes past) i =
    sym (drop-take (p * i) p (recorded_bytes (recording_with_record past r))) ∙ ap (λ (l : List ℕ). drop (p * i) l) same
    ∙ drop-take (p * i) p (recorded_bytes past) in
    ap (λ (l : List ℕ). record { number = past.first + i; session = past.session; payload = l }) is

-- no block is due less with a further record
pub due_count-grows : (past : RecordingPast) (r : BusRecord) → IsInLimits past.header → MayFeedRecording past r → due_count past ≤ due_count
    (recording_with_record past r)
due_count-grows past r limits may =
    let t = past.table in
    let p = past.header.payload in
    let w = t.frame.words in
    let more = past.records ++ r ∷ [] in
    let was : length (stream_words t past.records) ≡ slot_count w (time_of past.records) =
    length-map-range_with_len (slot_word t past.records) 0 (slot_count w (time_of past.records)) in
    let is : length (stream_words t more) ≡ slot_count w r.time =
    length-map-range_with_len (slot_word t more) 0 (slot_count w (time_of more)) ∙ ap (slot_count w) (time_of-push past.records r) in
    let longer = slot_count-later w (time_of past.records) r.time may.order in
    let fill = due_blocks-fill t p past.records in
    let room : 3 * length (stream_words t past.records) / 2 ≤ 3 * length (stream_words t more) / 2 = omega (arith, was, is, longer) in
    let turned : due_count past * p ≡ p * due_count past = mul_comm (due_count past) p in
    le-div (due_count past) (3 * length (stream_words t more) / 2) p (omega (arith, limits.least_payload)) (omega (arith, turned, fill, room))

-- all blocks so far are those before the record, and those due at it
pub recorded_of-fed : (past : RecordingPast) (r : BusRecord) → IsInLimits past.header → MayFeedRecording past r
    → recorded_of (recording_with_record past r) ≡ recorded_of past ++ blocks_due_at past r
recorded_of-fed past r limits may =
    let grows = due_count-grows past r limits may in
    let count : due_count past + (due_count (recording_with_record past r) - due_count past) ≡ due_count (recording_with_record past r) = omega
    (arith, grows) in
    let zero_on : 0 + due_count past ≡ due_count past = omega arith in
    ap (λ m. blocks_from (recording_with_record past r) 0 m) (sym count)
    ∙ map_join (numbered_block (recording_with_record past r)) 0 (due_count past) (due_count (recording_with_record past r) - due_count past)
    ∙ ap (λ (l : List Block). l ++ map (numbered_block (recording_with_record past r))
    (range_with_len (0 + due_count past) (due_count (recording_with_record past r) - due_count past)))
    (map-range-agree (numbered_block (recording_with_record past r)) (numbered_block past) 0 (due_count past)
    (λ i low high. same_block past r may i (omega (arith, high))))
    ∙ ap (λ m. recorded_of past ++ map (numbered_block (recording_with_record past r)) (range_with_len m (due_count
    (recording_with_record past r) - due_count past))) zero_on

-- and with the rest they are all blocks of the stream
pub all_blocks-rest : (past : RecordingPast) (n : ℕ) → length (blocks_of past.header.payload (recorded_bytes past)) ≡ due_count past + min n 1
    → all_blocks past ≡ recorded_of past ++ rest_of past
all_blocks-rest past n count =
    let whole = length (blocks_of past.header.payload (recorded_bytes past)) in
    let long : due_count past + (whole - due_count past) ≡ whole = omega (arith, count) in
    let zero_on : 0 + due_count past ≡ due_count past = omega arith in
    ap (λ m. blocks_from past 0 m) (sym long) ∙ map_join (numbered_block past) 0 (due_count past) (whole - due_count past)
    ∙ ap (λ m. recorded_of past ++ map (numbered_block past) (range_with_len m (whole - due_count past))) zero_on
