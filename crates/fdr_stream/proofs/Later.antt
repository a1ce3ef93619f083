-- What stands of a stream as further records come: the blocks of the first records are blocks of the whole.
use Rattle.std.proofs.Common.{◌≡◌, ℕ, ◌+◌, ◌*◌, ◌/◌, ◌≤◌, List, [], ◌∷◌, ◌++◌, None, length, take, drop, sym, ap, ◌∙◌, arith}
use Rattle.std.proofs.lemmas.List.{take-append-le}
use Rattle.std.proofs.Math.Nat.{mul-div-le}
use Rattle.std.proofs.Math.Seq.{take-add}
use Rattle.fdr_bus.specs.declared.BusRecord.{BusRecord}
use Rattle.fdr_bus.specs.Records.{time_of}
use Rattle.fdr_table.specs.Rows.{TableRows}
use Rattle.fdr_sampler.specs.Stream.{packed, slot_count, stream_words, stream_of}
use Rattle.fdr_sampler.proofs.Streaming.{stream_words-push}
use Rattle.fdr_stream.specs.Blocks.{cut_block, due_blocks}
use Rattle.fdr_stream.specs.Packing.{unpaired, whole_bytes, last_byte}
use Rattle.fdr_stream.specs.Past.{StreamPast, words_to}
use Rattle.fdr_stream.proofs.PackingLemmas.{bytes_after, packed-last}
use Rattle.fdr_stream.proofs.Drawn.{length-words_to, length-whole_to, words_to-fit, packed-words_to}
use Rattle.fdr_stream.proofs.Standing.{slot_count-later}

-- a further block
pub take-block : (payload : ℕ) (bytes : List ℕ) (i : ℕ) → take (payload * (i + 1)) bytes ≡ take (payload * i) bytes ++ cut_block payload bytes i
take-block payload bytes i =
    let more : payload * (i + 1) ≡ payload * i + payload = omega arith in
    ap (λ n. take n bytes) more ∙ take-add (payload * i) payload bytes

-- the blocks that are due lie in the bytes that the words fill
pub due_blocks-fill : (t : TableRows) (payload : ℕ) (records : List BusRecord)
    → payload * due_blocks t payload records ≤ 3 * length (stream_words t records) / 2
due_blocks-fill t payload records = mul-div-le (3 * length (stream_words t records) / 2) payload

past_of : TableRows → List BusRecord → StreamPast
past_of t records = record { table = t; payload = 0; records = records; begun = None; blocks = 0 }

-- a further record changes none of the bytes that the words before it fill
pub stream_of-later : (t : TableRows) (records : List BusRecord) (r : BusRecord) (n : ℕ) → time_of records ≤ r.time
    → n ≤ 3 * length (stream_words t records) / 2 →
    take n (stream_of t (records ++ r ∷ [])) ≡ take n (stream_of t records)
unfolding past_of
stream_of-later t records r n order few =
    let past = past_of t records in
    let first = slot_count t.frame.words (time_of records) in
    let all = slot_count t.frame.words r.time in
    let words = words_to past first in
    let rest = drop first (words_to past all) in
    let whole = whole_bytes words in
    let count : 3 * length (stream_words t records) / 2 ≡ 3 * first / 2 = ap (λ m. 3 * m / 2) (length-words_to past first) in
    let within : n ≤ length whole = omega (arith, few, count, length-whole_to past first) in
    ap (λ ws. take n (packed ws)) (stream_words-push t records r)
    ∙ ap (take n) (packed-words_to past first all (slot_count-later t.frame.words (time_of records) r.time order))
    ∙ take-append-le n whole (bytes_after (unpaired words) rest) within
    ∙ sym (take-append-le n whole (last_byte (unpaired words)) within) ∙ ap (take n) (sym (packed-last words (words_to-fit past first)))
