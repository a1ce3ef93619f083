-- For which past a stream stands.
use Rattle.std.proofs.Common.{◌≡◌, ℕ, ◌+◌, ◌-◌, ◌*◌, ◌/◌, ◌<◌, ◌≤◌, ⊎_elim, false, List, [], ◌∷◌, ◌++◌, Some, None, zero, suc, min, length, drop, refl, sym, ap}
use Rattle.std.proofs.Common.{◌∙◌, subst, arith, length-append}
use Rattle.std.proofs.lemmas.List.{length-drop, drop-drop, drop-append-le}
use Rattle.std.proofs.lemmas.List.FromFn.{length-map-range_with_len}
use Rattle.std.proofs.lemmas.Nat.{div-mul-add}
use Rattle.std.proofs.Math.Nat.{mul-le-mul_right}
use Rattle.fdr_bus.specs.declared.BusRecord.{BusRecord}
use Rattle.fdr_bus.specs.declared.RecordKind.TheVariants.{Word}
use Rattle.fdr_bus.specs.Records.{time_of, has_end}
use Rattle.fdr_table.specs.Rows.{TableRows}
use Rattle.fdr_sampler.specs.SlotTimes.{slot_time}
use Rattle.fdr_sampler.specs.Stream.{packed, slot_count, stream_of}
use Rattle.fdr_sampler.specs.Past.{MayTake, RepresentsSampler, sampler_made}
use Rattle.fdr_sampler.specs.Kept.{SamplerKept}
use Rattle.fdr_sampler.proofs.Packing.{length-packed}
use Rattle.fdr_sampler.proofs.Counting.{slot_count-below, slot_count-above}
use Rattle.fdr_sampler.proofs.Streaming.{words-late, stream_words-none}
use Rattle.fdr_stream.specs.Blocks.{cut_block, blocks_of}
use Rattle.fdr_stream.specs.Packing.{unpaired, whole_bytes, last_byte}
use Rattle.fdr_stream.specs.Kept.{StreamKept, stream_at_start, with_packed_words}
use Rattle.fdr_stream.specs.Past.{StreamPast, stream_made, with_block, stream_with_record, MayFeedStream, words_to, time_from, IsPacked, IsSampled, IsDrawing}
use Rattle.fdr_stream.specs.Past.{RepresentsStream}
use Rattle.fdr_stream.proofs.PackingLemmas.{packed-last, length-last_byte}
use Rattle.fdr_stream.proofs.Drawn.{length-words_to, length-whole_to, words_to-fit, length-waiting, IsPacked-words, none_due}
use Rattle.fdr_bus.proofs.TraceLemmas.{time_of-push, has_end-push}
use Rattle.fdr_sampler.specs.Past.{SamplerPast}
use Rattle.fdr_sampler.proofs.Standing.{Stands-held}
use Rattle.std.proofs.Common.{◌⊎◌, inl, inr, true}
use Rattle.std.proofs.lemmas.Bool.{false≢true}
use Rattle.fdr_bus.specs.Records.{is_end}
use Rattle.fdr_bus.specs.declared.RecordKind.TheVariants.{End}
use Rattle.fdr_stream.specs.Kept.{HasSampled}

pub slot_count-later : (w a b : ℕ) → a ≤ b → slot_count w a ≤ slot_count w b
slot_count-later w a b le = let more : a * w ≤ b * w = mul-le-mul_right w le in omega (arith, more)

-- a record that is fed finds a stream in which slots before its time were drawn, and no others
pub IsDrawing-fed : (k : StreamKept) (past : StreamPast) (r : BusRecord) → RepresentsStream k past → MayFeedStream past r
    → IsDrawing k past (slot_time past.table.frame.words r.time)
unfolding time_from
IsDrawing-fed k past r st may =
    let w = past.table.frame.words in
    record {
      sampler = st.sampler may.unended;
      packed = st.packed;
      no_later_slots = ⊎_elim
          (λ (none : past.begun ≡ None).
          let high : k.sampler.slots_drawn ≤ slot_count w (time_of past.records) =
          subst (λ b. k.sampler.slots_drawn ≤ slot_count w (time_from past.records b)) none st.no_later_slots in
          omega (arith, high, slot_count-later w (time_of past.records) r.time may.order))
          (λ (begun : past.begun ≡ Some r). subst (λ b. k.sampler.slots_drawn ≤ slot_count w (time_from past.records b)) begun st.no_later_slots)
          may.same;
    }

some_is_not_none : {X : Type 0} (x : X) → (Some x ≡ None) → ⊥
some_is_not_none x is = cc

-- after a block was given
pub Stands-block : (k k1 k2 : StreamKept) (past : StreamPast) (r : BusRecord) → RepresentsStream k past
    → IsDrawing k1 past (slot_time past.table.frame.words r.time)
    → k.sampler.slots_drawn ≤ k1.sampler.slots_drawn →
    k1.payload ≤ length k1.bytes → length k1.bytes ≤ k1.payload + 1 → k2 ≡ record k1 { bytes = drop k1.payload k1.bytes }
    → RepresentsStream k2 (with_block past r)
unfolding time_from
Stands-block k k1 k2 past r st at on whole few is =
    let P : StreamKept → Type 0 = λ x. RepresentsStream x (with_block past r) in
    let given = past.payload * past.blocks in
    let bytes = whole_bytes (words_to past k1.sampler.slots_drawn) in
    let len = length-drop k1.payload k1.bytes in
    let more : given + k1.payload ≡ past.payload * (past.blocks + 1) = omega (arith, at.packed.payload) in
    subst P (sym is)
    (record {
      low = st.low;
      high = st.high;
      sampler = λ unended. at.sampler;
      packed = record {
        payload = at.packed.payload;
        words = at.packed.words;
        given = omega (arith, at.packed.payload, length-waiting k1 past at.packed);
        odd = at.packed.odd;
        bytes = ap (drop k1.payload) at.packed.bytes ∙ drop-drop k1.payload given bytes ∙ ap (λ n. drop n bytes) more;
      };
      within_payload = omega (arith, len, st.low, at.packed.payload);
      slots_drawn = omega (arith, st.slots_drawn, on);
      no_later_slots = at.no_later_slots;
      blocks = λ none. absurd (some_is_not_none r none);
    })

-- after the record was taken
pub Stands-record : (k k1 k2 : StreamKept) (past : StreamPast) (r : BusRecord) → RepresentsStream k past
    → IsDrawing k1 past (slot_time past.table.frame.words r.time)
    → length k1.bytes < k1.payload →
    k1.sampler.slots_drawn ≡ slot_count past.table.frame.words r.time → k2.sampler.slots_drawn ≡ k1.sampler.slots_drawn → k2.payload ≡ k1.payload
    → k2.odd ≡ k1.odd
    → k2.bytes ≡ k1.bytes →
    (has_end (past.records ++ r ∷ []) ≡ false → IsSampled k2 (stream_with_record past r)) → RepresentsStream k2 (stream_with_record past r)
unfolding time_from
Stands-record k k1 k2 past r st at few all drawn payload odd bytes sampled =
    let w = past.table.frame.words in
    let n = slot_count w r.time in
    let is : k2.sampler.slots_drawn ≡ n = drawn ∙ all in
    let time = time_of-push past.records r in
    let words : words_to past k1.sampler.slots_drawn ≡ words_to (stream_with_record past r) k2.sampler.slots_drawn =
    ap (words_to past) all ∙ sym (words-late past.table past.records r) ∙ ap (words_to (stream_with_record past r)) (sym is) in
    let count : slot_count w (time_of (past.records ++ r ∷ [])) ≡ n = ap (slot_count w) time in
    let room : length k1.bytes < past.payload = omega (arith, at.packed.payload) in
    record {
      low = st.low;
      high = st.high;
      sampler = sampled;
      packed = record {
        payload = payload ∙ at.packed.payload;
        words = at.packed.words;
        given = subst (λ m. past.payload * past.blocks ≤ 3 * m / 2) (sym drawn) at.packed.given;
        odd = odd ∙ at.packed.odd ∙ ap unpaired words;
        bytes = bytes ∙ at.packed.bytes ∙ ap (λ ws. drop (past.payload * past.blocks) (whole_bytes ws)) words;
      };
      within_payload = subst (λ (bytes : List ℕ). length bytes < past.payload) (sym bytes) room;
      slots_drawn = omega (arith, is, count);
      no_later_slots = omega (arith, is, count);
      blocks = λ none. none_due k1 past r at.packed (omega (arith, st.low)) all room;
    }

-- all words before the record's time were drawn, so the sampler may take it
pub MayTake-fed : (k : StreamKept) (past : StreamPast) (r : BusRecord) → MayFeedStream past r → k.sampler.slots_drawn ≡ slot_count past.table.frame.words r.time
    → r.kind ≡ Word →
    MayTake (record { table = past.table; records = past.records; slots_drawn = k.sampler.slots_drawn }) r
MayTake-fed k past r may is kind =
    let w = past.table.frame.words in
    record {
      kind = kind;
      order = may.order;
      in_time = may.in_time;
      none_due = slot_count-above w r.time k.sampler.slots_drawn (omega (arith, is));
      counts_for_none = λ i below. slot_count-below w r.time i (omega (arith, is));
    }

-- a sampler stands for as many slots as it counts
pub sampled_here : (s : SamplerKept) (past : StreamPast) (n : ℕ)
    → RepresentsSampler s (record { table = past.table; records = past.records; slots_drawn = n }) →
    RepresentsSampler s (record { table = past.table; records = past.records; slots_drawn = s.slots_drawn })
sampled_here s past n st = subst (λ m. RepresentsSampler s (record { table = past.table; records = past.records; slots_drawn = m })) (sym st.slots_drawn) st

is_word_or_end : (r : BusRecord) → (r.kind ≡ Word) ⊎ (is_end r ≡ true)
is_word_or_end r = elim r.kind as (λ kind. (kind ≡ Word) ⊎ ((elim kind [ Word ↦ false | End ↦ true ]) ≡ true)) [ Word ↦ inl refl | End ↦ inr refl ]

-- after it was
pub Stands-taken : (k k1 k2 : StreamKept) (past : StreamPast) (r : BusRecord) → RepresentsStream k past → MayFeedStream past r
    → IsDrawing k1 past (slot_time past.table.frame.words r.time)
    → k1.sampler.slots_drawn ≡ slot_count past.table.frame.words r.time → length k1.bytes < k1.payload → HasSampled k1 k2 r
    → RepresentsStream k2 (stream_with_record past r)
Stands-taken k k1 k2 past r st may at all few taken =
    let here : SamplerPast = record { table = past.table; records = past.records; slots_drawn = k1.sampler.slots_drawn } in
    Stands-record k k1 k2 past r st at few all (ap (λ (x : StreamKept). x.sampler.slots_drawn) taken.others) (ap (λ (x : StreamKept). x.payload) taken.others)
    (ap (λ (x : StreamKept). x.odd) taken.others) (ap (λ (x : StreamKept). x.bytes) taken.others)
    (λ unended. elim (is_word_or_end r) [
      | inl word ↦
          sampled_here k2.sampler (stream_with_record past r) k1.sampler.slots_drawn
          (Stands-held k1.sampler k2.sampler here r at.sampler (MayTake-fed k1 past r may all word) (taken.word word))
      | inr ends ↦ absurd (false≢true (sym unended ∙ has_end-push past.records r ends))
    ])

-- ---- at the start

pub Stands-made : (sampler : SamplerKept) (t : TableRows) (payload : ℕ) → 64 ≤ payload → payload ≤ 4096 → t.frame.words ≤ 1024
    → RepresentsSampler sampler (sampler_made t) →
    RepresentsStream (stream_at_start sampler payload) (stream_made t payload)
unfolding time_from unpaired whole_bytes
Stands-made sampler t payload low high few st =
    let none : sampler.slots_drawn ≡ 0 = st.slots_drawn in
    let zero_time : slot_count t.frame.words 0 ≡ 0 = omega arith in
    let start : words_to (stream_made t payload) sampler.slots_drawn ≡ [] = ap (words_to (stream_made t payload)) none in
    let none_given : payload * 0 ≡ 0 = omega arith in
    let nothing : 3 * 0 / 2 / payload ≡ 0 = omega arith in
    record {
      low = low;
      high = high;
      sampler = λ unended. subst (λ n. RepresentsSampler sampler (record { table = t; records = []; slots_drawn = n })) (sym none) st;
      packed = record {
        payload = refl;
        words = few;
        given = omega arith;
        odd = ap unpaired (sym start);
        bytes = sym (ap (λ n. drop n []) none_given) ∙ ap (λ ws. drop (payload * 0) (whole_bytes ws)) (sym start);
      };
      within_payload = omega arith;
      slots_drawn = omega (arith, none, zero_time);
      no_later_slots = omega (arith, none, zero_time);
      blocks = λ b. sym (ap (λ (ws : List ℕ). 3 * length ws / 2 / payload) (stream_words-none t) ∙ nothing);
    }

-- ---- the sampler

-- after n further words were drawn and packed
pub IsSampled-words : (k k1 : StreamKept) (s : SamplerKept) (past : StreamPast) (n : ℕ) (words : List ℕ)
    → k1 ≡ with_packed_words (record k { sampler = s }) words →
    RepresentsSampler s (record { table = past.table; records = past.records; slots_drawn = k.sampler.slots_drawn + n }) → IsSampled k1 past
IsSampled-words k k1 s past n words is st = subst (λ (x : StreamKept). IsSampled x past) (sym is) (sampled_here s past (k.sampler.slots_drawn + n) st)

pub IsPacked-drawn : (k k1 : StreamKept) (s : SamplerKept) (past : StreamPast) (n : ℕ) (words : List ℕ)
    → k1 ≡ with_packed_words (record k { sampler = s }) words →
    RepresentsSampler s (record { table = past.table; records = past.records; slots_drawn = k.sampler.slots_drawn + n }) →
    words_to past (k.sampler.slots_drawn + n) ≡ words_to past k.sampler.slots_drawn ++ words → IsPacked k past → IsPacked k1 past
IsPacked-drawn k k1 s past n words is st drawn at =
    subst (λ (x : StreamKept). IsPacked x past) (sym is)
    (IsPacked-words k (with_packed_words (record k { sampler = s }) words) past n words at drawn st.slots_drawn refl refl refl)

-- ---- at the end

-- the bytes that wait, and the byte that a waiting word begins, are the rest of the stream
pub rest_is : (k : StreamKept) (past : StreamPast) → RepresentsStream k past → past.begun ≡ None →
    k.bytes ++ last_byte k.odd ≡ drop (past.payload * past.blocks) (stream_of past.table past.records)
unfolding time_from
rest_is k past st none =
    let w = past.table.frame.words in
    let n = k.sampler.slots_drawn in
    let given = past.payload * past.blocks in
    let words = words_to past n in
    let high : n ≤ slot_count w (time_of past.records) = subst (λ b. n ≤ slot_count w (time_from past.records b)) none st.no_later_slots in
    let is : n ≡ slot_count w (time_of past.records) = omega (arith, st.slots_drawn) in
    let low : given ≤ length (whole_bytes words) = omega (arith, st.packed.given, length-whole_to past n) in
    ap (λ xs. xs ++ last_byte k.odd) st.packed.bytes ∙ ap (λ o. drop given (whole_bytes words) ++ last_byte o) st.packed.odd
    ∙ sym (drop-append-le given (whole_bytes words) (last_byte (unpaired words)) low)
    ∙ ap (drop given) (sym (packed-last words (words_to-fit past n))) ∙ ap (λ m. drop given (packed (words_to past m))) is

given_low : (k : StreamKept) (past : StreamPast) → RepresentsStream k past → past.begun ≡ None
    → past.payload * past.blocks ≤ length (stream_of past.table past.records)
unfolding time_from
given_low k past st none =
    let w = past.table.frame.words in
    let n = slot_count w (time_of past.records) in
    let high : k.sampler.slots_drawn ≤ n = subst (λ b. k.sampler.slots_drawn ≤ slot_count w (time_from past.records b)) none st.no_later_slots in
    let is : k.sampler.slots_drawn ≡ n = omega (arith, st.slots_drawn) in
    let len : length (stream_of past.table past.records) ≡ (3 * n + 1) / 2 =
    length-packed (words_to past n) ∙ ap (λ m. (3 * m + 1) / 2) (length-words_to past n) in
    omega (arith, st.packed.given, is, len)

-- they fit a block
pub few_left : (k : StreamKept) (past : StreamPast) (items : List ℕ) → RepresentsStream k past → items ≡ k.bytes ++ last_byte k.odd
    → length items ≤ past.payload
few_left k past items st is =
    let len = ap (λ (xs : List ℕ). length xs) is ∙ length-append k.bytes (last_byte k.odd) in
    omega (arith, len, length-last_byte k.odd, st.within_payload)

-- how many blocks there are, where n bytes follow the whole ones
blocks_and_rest : (payload blocks rest len : ℕ) → 0 < payload → rest ≤ payload → len ≡ payload * blocks + rest
    → (len + payload - 1) / payload ≡ blocks + min rest 1
blocks_and_rest payload blocks zero len some few is =
    let at : len + payload - 1 ≡ blocks * payload + (payload - 1) = omega arith in
    let all : blocks ≡ blocks + min 0 1 = omega arith in
    ap (λ n. n / payload) at ∙ div-mul-add blocks payload (payload - 1) (omega arith) ∙ all
blocks_and_rest payload blocks (suc rest) len some few is =
    let at : len + payload - 1 ≡ (blocks + 1) * payload + rest = omega arith in
    let all : blocks + 1 ≡ blocks + min (suc rest) 1 = omega arith in
    ap (λ n. n / payload) at ∙ div-mul-add (blocks + 1) payload rest (omega arith) ∙ all

-- the blocks of the stream are those that were given, and one more where a byte is left
pub blocks_left : (k : StreamKept) (past : StreamPast) (items : List ℕ) → RepresentsStream k past → past.begun ≡ None → items ≡ k.bytes ++ last_byte k.odd →
    length (blocks_of past.payload (stream_of past.table past.records)) ≡ past.blocks + min (length items) 1
blocks_left k past items st none is =
    let stream = stream_of past.table past.records in
    let given = past.payload * past.blocks in
    let rest = rest_is k past st none in
    let len : length items ≡ length stream - given = ap (λ (xs : List ℕ). length xs) (is ∙ rest) ∙ length-drop given stream in
    let low : given ≤ length stream = given_low k past st none in
    length-map-range_with_len (cut_block past.payload stream) 0 ((length stream + past.payload - 1) / past.payload)
    ∙ blocks_and_rest past.payload past.blocks (length items) (length stream) (omega (arith, st.low)) (few_left k past items st is) (omega (arith, len, low))
