-- What stands while words are drawn.
use Rattle.std.proofs.Common.{◌≡◌, ℕ, ◌+◌, ◌-◌, ◌*◌, ◌/◌, ◌<◌, ◌≤◌, List, [], ◌∷◌, ◌++◌, length, take, drop, sym, ap, ◌∙◌, subst, arith}
use Rattle.std.specs.List.{All}
use Rattle.std.proofs.lemmas.List.{length-drop, drop-append-le, take-append-drop, take-append-le}
use Rattle.std.proofs.lemmas.List.FromFn.{length-map-range_with_len, map-range_with_len_more, take-map-range_with_len}
use Rattle.std.proofs.lemmas.Nat.{le-div, div_below}
use Rattle.fdr_bus.specs.declared.BusRecord.{BusRecord}
use Rattle.fdr_sampler.specs.SlotWord.{slot_word}
use Rattle.fdr_sampler.specs.Stream.{packed, slot_count, stream_of}
use Rattle.fdr_sampler.proofs.Packing.{IsWord}
use Rattle.fdr_sampler.proofs.Streaming.{slot_words-below, stream_words-push}
use Rattle.fdr_stream.specs.Blocks.{cut_block, due_blocks}
use Rattle.fdr_stream.specs.Packing.{unpaired, whole_bytes, filled_by, unpaired_after}
use Rattle.fdr_stream.specs.Kept.{StreamKept}
use Rattle.fdr_stream.specs.Past.{StreamPast, words_to, IsPacked}
use Rattle.fdr_stream.proofs.PackingLemmas.{unpaired-append, whole_bytes-append, length-whole_bytes, bytes_after, packed-whole}

pub length-words_to : (past : StreamPast) (n : ℕ) → length (words_to past n) ≡ n
length-words_to past n = length-map-range_with_len (slot_word past.table past.records) 0 n

pub words_to-more : (past : StreamPast) (n : ℕ) → words_to past (n + 1) ≡ words_to past n ++ slot_word past.table past.records n ∷ []
words_to-more past n = map-range_with_len_more (slot_word past.table past.records) 0 n n (omega arith)

pub length-whole_to : (past : StreamPast) (n : ℕ) → length (whole_bytes (words_to past n)) ≡ 3 * n / 2
length-whole_to past n = length-whole_bytes (words_to past n) ∙ ap (λ m. 3 * m / 2) (length-words_to past n)

-- how many bytes wait
pub length-waiting : (k : StreamKept) (past : StreamPast) → IsPacked k past → length k.bytes + past.payload * past.blocks ≡ 3 * k.sampler.slots_drawn / 2
length-waiting k past at =
    let given = past.payload * past.blocks in
    let whole = whole_bytes (words_to past k.sampler.slots_drawn) in
    let len : length k.bytes ≡ length whole - given = ap (λ (bytes : List ℕ). length bytes) at.bytes ∙ length-drop given whole in
    let all = length-whole_to past k.sampler.slots_drawn in
    let low = at.given in
    omega (arith, len, all, low)

three_halves : (m n : ℕ) → m ≤ n → 3 * m / 2 ≤ 3 * n / 2
three_halves m n le = omega arith

-- after n further words
pub IsPacked-words : (k k' : StreamKept) (past : StreamPast) (n : ℕ) (words : List ℕ) → IsPacked k past
    → words_to past (k.sampler.slots_drawn + n) ≡ words_to past k.sampler.slots_drawn ++ words → k'.sampler.slots_drawn ≡ k.sampler.slots_drawn + n
    → k'.payload ≡ k.payload
    → k'.odd ≡ unpaired_after k.odd words → k'.bytes ≡ k.bytes ++ filled_by k.odd words → IsPacked k' past
IsPacked-words k k' past n words at drawn_words drawn payload odd bytes =
    let d = k.sampler.slots_drawn in
    let given = past.payload * past.blocks in
    let before = words_to past d in
    let more : words_to past k'.sampler.slots_drawn ≡ before ++ words = ap (words_to past) drawn ∙ drawn_words in
    let low : given ≤ length (whole_bytes before) = omega (arith, at.given, length-whole_to past d) in
    record {
      payload = payload ∙ at.payload;
      words = at.words;
      given = omega (arith, at.given, drawn, three_halves d (d + n) (omega arith));
      odd = odd ∙ ap (λ o. unpaired_after o words) at.odd ∙ sym (unpaired-append before words) ∙ ap unpaired (sym more);
      bytes = bytes ∙ ap (λ xs. xs ++ filled_by k.odd words) at.bytes ∙ ap (λ o. drop given (whole_bytes before) ++ filled_by o words) at.odd
          ∙ sym (drop-append-le given (whole_bytes before) (filled_by (unpaired before) words) low)
          ∙ ap (drop given) (sym (whole_bytes-append before words)) ∙ ap (λ ws. drop given (whole_bytes ws)) (sym more);
    }

-- the words up to a later slot begin with those up to an earlier one
pub words_to-later : (past : StreamPast) (n m : ℕ) → n ≤ m → words_to past m ≡ words_to past n ++ drop n (words_to past m)
words_to-later past n m le =
    sym (take-append-drop n (words_to past m))
    ∙ ap (λ ws. ws ++ drop n (words_to past m)) (take-map-range_with_len (slot_word past.table past.records) 0 m n le)

pub words_to-fit : (past : StreamPast) (n : ℕ) → All IsWord (words_to past n)
words_to-fit past n = slot_words-below past.table past.records n

-- the bytes of the words up to a later slot begin with those that the words up to an earlier one fill
pub packed-words_to : (past : StreamPast) (n m : ℕ) → n ≤ m →
    packed (words_to past m) ≡ whole_bytes (words_to past n) ++ bytes_after (unpaired (words_to past n)) (drop n (words_to past m))
packed-words_to past n m le =
    let later = words_to-later past n m le in
    ap packed later ∙ packed-whole (words_to past n) (drop n (words_to past m)) (subst (All IsWord) later (words_to-fit past m))

-- the bytes that wait begin the rest of the stream
pub waiting_is : (k : StreamKept) (past : StreamPast) (m : ℕ) → IsPacked k past → k.sampler.slots_drawn ≤ m →
    (more : List ℕ) × (drop (past.payload * past.blocks) (packed (words_to past m)) ≡ k.bytes ++ more)
waiting_is k past m at le =
    let n = k.sampler.slots_drawn in
    let given = past.payload * past.blocks in
    let words = words_to past n in
    let more = bytes_after (unpaired words) (drop n (words_to past m)) in
    let low : given ≤ length (whole_bytes words) = omega (arith, at.given, length-whole_to past n) in (
      more,
      ap (drop given) (packed-words_to past n m le)
          ∙ drop-append-le given (whole_bytes words) more low ∙ ap (λ xs. xs ++ more) (sym at.bytes),
    )

-- so a whole block of them is the next block
pub block_is : (k : StreamKept) (past : StreamPast) (r : BusRecord) → IsPacked k past → k.sampler.slots_drawn ≤ slot_count past.table.frame.words r.time
    → past.payload ≤ length k.bytes →
    take past.payload k.bytes ≡ cut_block past.payload (stream_of past.table (past.records ++ r ∷ [])) past.blocks
block_is k past r at le whole =
    let t = past.table in
    let given = past.payload * past.blocks in
    let rest = waiting_is k past (slot_count t.frame.words r.time) at le in
    sym (take-append-le past.payload k.bytes rest.0 whole) ∙ ap (take past.payload) (sym rest.1)
    ∙ ap (λ ws. take past.payload (drop given (packed ws))) (sym (stream_words-push t past.records r))

-- ---- how many blocks are due

pub due_blocks-push : (past : StreamPast) (r : BusRecord)
    → due_blocks past.table past.payload (past.records ++ r ∷ []) ≡ 3 * slot_count past.table.frame.words r.time / 2 / past.payload
due_blocks-push past r =
    let n = slot_count past.table.frame.words r.time in
    ap (λ (ws : List ℕ). 3 * length ws / 2 / past.payload) (stream_words-push past.table past.records r)
    ∙ ap (λ m. 3 * m / 2 / past.payload) (length-words_to past n)

-- where a whole block waits, one is due
pub is_due : (k : StreamKept) (past : StreamPast) (r : BusRecord) → IsPacked k past → 0 < past.payload
    → k.sampler.slots_drawn ≤ slot_count past.table.frame.words r.time → past.payload ≤ length k.bytes →
    past.blocks < due_blocks past.table past.payload (past.records ++ r ∷ [])
is_due k past r at some le whole =
    let n = slot_count past.table.frame.words r.time in
    let low : (past.blocks + 1) * past.payload ≤ 3 * n / 2 = omega (arith, length-waiting k past at, three_halves k.sampler.slots_drawn n le) in
    let fits = le-div (past.blocks + 1) (3 * n / 2) past.payload some low in
    omega (arith, fits, due_blocks-push past r)

-- where all words were drawn and no whole block waits, all that are due were given
pub none_due : (k : StreamKept) (past : StreamPast) (r : BusRecord) → IsPacked k past → 0 < past.payload
    → k.sampler.slots_drawn ≡ slot_count past.table.frame.words r.time → length k.bytes < past.payload →
    past.blocks ≡ due_blocks past.table past.payload (past.records ++ r ∷ [])
none_due k past r at some is few =
    let n = slot_count past.table.frame.words r.time in
    let same : 3 * k.sampler.slots_drawn / 2 ≡ 3 * n / 2 = ap (λ m. 3 * m / 2) is in
    let waiting = length-waiting k past at in
    let low : past.blocks * past.payload ≤ 3 * n / 2 = omega (arith, waiting, same) in
    let high : 3 * n / 2 < (past.blocks + 1) * past.payload = omega (arith, waiting, same) in
    let fits = le-div past.blocks (3 * n / 2) past.payload some low in
    let below = div_below (3 * n / 2) past.payload (past.blocks + 1) some high in
    omega (arith, fits, below, due_blocks-push past r)
