-- Empty slots that are drawn late: after records that come after them are taken.
use Rattle.std.proofs.Common.{◌≡◌, ℕ, ◌+◌, ◌-◌, ◌*◌, ◌/◌, ◌<◌, ◌≤◌, List, [], ◌++◌, Option, Some, None, length, replicate, refl, sym, ap, ◌∙◌, subst, arith}
use Rattle.std.proofs.Common.{append_assoc, append-nil, length-append, ⊎_elim}
use Rattle.std.proofs.lemmas.List.{replicate-append-replicate, length-replicate}
use Rattle.std.proofs.lemmas.Bool.{cases_lt}
use Rattle.std.proofs.Math.Nat.{mul-le-mul}
use Rattle.fdr_bus.specs.declared.BusRecord.{BusRecord}
use Rattle.fdr_bus.specs.Records.{last_time}
use Rattle.fdr_table.specs.Rows.{FrameRow}
use Rattle.fdr_sampler.specs.Empty.{HasEmptyRun, IsEmptyRun}
use Rattle.fdr_sampler.specs.Kept.{SamplerKept, most_word_slots}
use Rattle.fdr_sampler.specs.SlotTimes.{slot_time, time_of_slot, slots_before}
use Rattle.fdr_sampler.specs.SlotWord.{slot_within}
use Rattle.fdr_sampler.specs.Stream.{slot_count}
use Rattle.fdr_sampler.specs.Past.{SamplerPast}
use Rattle.fdr_sampler.proofs.EmptyRuns.{HasEmptyRun-rest, Stands-empty, words_empty}
use Rattle.fdr_stream.specs.Packing.{whole_bytes, unpaired, filled_by, unpaired_after}
use Rattle.fdr_stream.specs.Kept.{StreamKept, with_empty_slots, late_slots, with_late_slots, HasEmptySlots, HasLateSlots, HasSampled}
use Rattle.fdr_stream.specs.Past.{StreamPast, IsSampled, IsPacked, IsDrawing}
use Rattle.fdr_stream.proofs.PackingLemmas.{unpaired_after-append, filled_by-append, length-filled_by}
use Rattle.fdr_stream.proofs.Drawn.{IsPacked-words}
use Rattle.fdr_stream.proofs.Zeros.{words_to-zeros}

-- ---- zeros in two goes

made : StreamKept → ℕ → Option ℕ → List ℕ → StreamKept
made k drawn odd bytes = record k { sampler = record k.sampler { slots_drawn = drawn }; odd = odd; bytes = bytes }

pub with_empty_slots-more : (k : StreamKept) (a b : ℕ) → with_empty_slots (with_empty_slots k a) b ≡ with_empty_slots k (a + b)
unfolding made
with_empty_slots-more k a b =
    let first : List ℕ = replicate a 0 in
    let more : List ℕ = replicate b 0 in
    let words : first ++ more ≡ replicate (a + b) 0 = replicate-append-replicate a b 0 in
    let drawn : k.sampler.slots_drawn + a + b ≡ k.sampler.slots_drawn + (a + b) = omega arith in
    let odd : unpaired_after (unpaired_after k.odd first) more ≡ unpaired_after k.odd (replicate (a + b) 0) =
    sym (unpaired_after-append k.odd first more) ∙ ap (unpaired_after k.odd) words in
    let bytes : (k.bytes ++ filled_by k.odd first) ++ filled_by (unpaired_after k.odd first) more ≡ k.bytes ++ filled_by k.odd (replicate (a + b) 0) =
    append_assoc k.bytes (filled_by k.odd first) (filled_by (unpaired_after k.odd first) more)
    ∙ ap (λ xs. k.bytes ++ xs) (sym (filled_by-append k.odd first more) ∙ ap (filled_by k.odd) words) in
    let twice = (k.bytes ++ filled_by k.odd first) ++ filled_by (unpaired_after k.odd first) more in
    ap (λ n. made k n (unpaired_after (unpaired_after k.odd first) more) twice) drawn
    ∙ ap (λ o. made k (k.sampler.slots_drawn + (a + b)) o twice) odd
    ∙ ap (made k (k.sampler.slots_drawn + (a + b)) (unpaired_after k.odd (replicate (a + b) 0))) bytes

none_filled : (odd : Option ℕ) → filled_by odd [] ≡ []
unfolding filled_by whole_bytes
none_filled None = refl
none_filled (Some bits) = refl

none_after : (odd : Option ℕ) → unpaired_after odd [] ≡ odd
unfolding unpaired_after unpaired
none_after None = refl
none_after (Some bits) = refl

pub with_empty_slots-none : (k : StreamKept) → with_empty_slots k 0 ≡ k
unfolding made
with_empty_slots-none k =
    let drawn : k.sampler.slots_drawn + 0 ≡ k.sampler.slots_drawn = omega arith in
    let bytes : k.bytes ++ filled_by k.odd [] ≡ k.bytes = ap (λ xs. k.bytes ++ xs) (none_filled k.odd) ∙ append-nil k.bytes in
    ap (λ n. made k n (unpaired_after k.odd []) (k.bytes ++ filled_by k.odd [])) drawn
    ∙ ap (λ o. made k k.sampler.slots_drawn o (k.bytes ++ filled_by k.odd [])) (none_after k.odd) ∙ ap (made k k.sampler.slots_drawn k.odd) bytes

-- nothing comes before the start
pub with_late_slots-none : (k : StreamKept) → with_late_slots k 0 ≡ k
with_late_slots-none k =
    let none : late_slots k 0 ≡ 0 = omega arith in
    ap (with_empty_slots k) none ∙ with_empty_slots-none k

-- ---- what is after empty slots

-- what comes next of k is empty
EmptyNext : StreamKept → ℕ → Type 0
EmptyNext k n = HasEmptyRun k.sampler.frame k.sampler.laid (slot_within k.sampler.frame.words k.sampler.slots_drawn) n

IsSampled-zeros : (k : StreamKept) (past : StreamPast) (n : ℕ) → IsSampled k past → EmptyNext k n → IsSampled (with_empty_slots k n) past
unfolding EmptyNext
IsSampled-zeros k past n st run = Stands-empty k.sampler (record { table = past.table; records = past.records; slots_drawn = k.sampler.slots_drawn }) n st run

IsPacked-zeros : (k : StreamKept) (past : StreamPast) (n : ℕ) → IsSampled k past → IsPacked k past → EmptyNext k n → IsPacked (with_empty_slots k n) past
unfolding EmptyNext
IsPacked-zeros k past n st at run =
    let here : SamplerPast = record { table = past.table; records = past.records; slots_drawn = k.sampler.slots_drawn } in
    IsPacked-words k (with_empty_slots k n) past n (replicate n 0) at
    (words_to-zeros past k.sampler.slots_drawn n (λ j less. words_empty k.sampler here n j st run less)) refl refl refl refl

-- of empty slots that come next, the first do
pub HasEmptySlots-fewer : (k : StreamKept) (n ahead : ℕ) → HasEmptySlots k ahead → n ≤ ahead → HasEmptySlots k n
HasEmptySlots-fewer k n ahead is le =
    let first = with_empty_slots k n in
    let zeros : List ℕ = replicate (ahead - n) 0 in
    let all : n + (ahead - n) ≡ ahead = omega (arith, le) in
    let same : length (with_empty_slots first (ahead - n)).bytes ≡ length (with_empty_slots k ahead).bytes =
    ap (λ (x : StreamKept). length x.bytes) (with_empty_slots-more k n (ahead - n) ∙ ap (with_empty_slots k) all) in
    record {
      empty = λ j less. is.empty j (omega (arith, less, le));
      room = omega (arith, same, length-append first.bytes (filled_by first.odd zeros), is.room);
    }

pub HasEmptySlots-none : (k : StreamKept) → length k.bytes < k.payload → HasEmptySlots k 0
HasEmptySlots-none k room = record {
  empty = λ j less. absurd (omega (arith, less));
  room = subst (λ (x : StreamKept). length x.bytes < k.payload) (sym (with_empty_slots-none k)) room;
}

-- a record finds words drawn so far, and some more empty slots
pub IsDrawing-zeros : (k : StreamKept) (past : StreamPast) (time n m : ℕ) → IsDrawing (with_empty_slots k n) past time → n ≤ m → HasEmptySlots k m
    → k.sampler.slots_drawn + m ≤ slots_before time → IsDrawing (with_empty_slots k m) past time
unfolding EmptyNext
IsDrawing-zeros k past time n m at le is within =
    let now = with_empty_slots k n in
    let all : n + (m - n) ≡ m = omega (arith, le) in
    let run : EmptyNext now (m - n) = HasEmptyRun-rest k.sampler.frame k.sampler.laid k.sampler.slots_drawn m n (m - n) is.empty (omega (arith, all)) in
    let then : with_empty_slots now (m - n) ≡ with_empty_slots k m = with_empty_slots-more k n (m - n) ∙ ap (with_empty_slots k) all in
    record {
      sampler = subst (λ (x : StreamKept). IsSampled x past) then (IsSampled-zeros now past (m - n) at.sampler run);
      packed = subst (λ (x : StreamKept). IsPacked x past) then (IsPacked-zeros now past (m - n) at.sampler at.packed run);
      no_later_slots = within;
    }

-- all slots before a time are among those, where no more come before it
pub late_slots-few : (k : StreamKept) (time count : ℕ) → time ≤ time_of_slot (k.sampler.slots_drawn + count) → late_slots k time ≤ count
late_slots-few k time count le = omega (arith, le)

-- a time in the frame of the table, where a record comes at it
pub time_in_frame : (k : StreamKept) (past : StreamPast) (time at : ℕ) → IsSampled k past → at ≡ slot_time k.sampler.frame.words time
    → at ≡ slot_time past.table.frame.words time
time_in_frame k past time at st is = is ∙ ap (λ (f : FrameRow). slot_time f.words time) st.frame

-- a stream that waits for no slots of data finds a record as if all slots before it had been drawn
pub record FindsDrawn (k : StreamKept) (past : StreamPast) (r : BusRecord) : Type 0 where
  pub at : IsDrawing k past (slot_time past.table.frame.words r.time)
  pub all : k.sampler.slots_drawn ≡ slot_count past.table.frame.words r.time
  pub few : length k.bytes < k.payload

pub FindsDrawn-late : (k : StreamKept) (counted_to time count : ℕ) (past : StreamPast) (r : BusRecord)
    → IsDrawing (with_late_slots k counted_to) past (slot_time past.table.frame.words r.time) → time ≡ slot_time k.sampler.frame.words r.time
    → HasEmptySlots k count → late_slots k counted_to ≤ count → late_slots k time ≤ count → FindsDrawn (with_late_slots k time) past r
FindsDrawn-late k counted_to time count past r at time_is is within le =
    let same : time ≡ slot_time past.table.frame.words r.time = time_in_frame (with_late_slots k counted_to) past r.time time at.sampler time_is in
    let slots : slots_before time ≡ slot_count past.table.frame.words r.time = ap slots_before same in
    let later : late_slots k counted_to ≤ late_slots k time = omega (arith, at.no_later_slots, slots) in
    let fewer = HasEmptySlots-fewer k (late_slots k time) count is le in
    record {
      at = IsDrawing-zeros k past (slot_time past.table.frame.words r.time) (late_slots k counted_to) (late_slots k time) at later fewer
          (omega (arith, at.no_later_slots, slots));
      all = omega (arith, at.no_later_slots, slots);
      few = fewer.room;
    }

-- a record that is taken changes nothing that empty slots need
pub HasSampled-with_late_slots : (k k' : StreamKept) (time : ℕ) (r : BusRecord) → HasSampled k k' r
    → HasSampled (with_late_slots k time) (with_late_slots k' time) r
HasSampled-with_late_slots k k' time r taken =
    let After : StreamKept = record k { sampler = record k.sampler { held = k'.sampler.held } } in
    subst (λ (x : StreamKept). HasSampled (with_late_slots k time) (with_late_slots x time) r) (sym taken.others) (record {
      others = refl;
      word = λ word. record { others = refl; words = (taken.word word).words };
    })

pub HasLateSlots-taken : (k k' : StreamKept) (counted_to time count data_time : ℕ) (r : BusRecord) → HasSampled k k' r
    → HasLateSlots k count data_time counted_to → late_slots k time ≤ count → slots_before time ≤ most_word_slots → HasLateSlots k' count data_time time
HasLateSlots-taken k k' counted_to time count data_time r taken is within in_time =
    subst (λ (x : StreamKept). HasLateSlots x count data_time time) (sym taken.others) (record {
      empty = record { empty = is.empty.empty; room = is.empty.room };
      data_time_is = is.data_time_is;
      within = within;
      in_time = in_time;
      words = is.words;
      slots = is.slots;
    })

-- ---- what comes next

-- a run of empty slots begins with this many
pub HasEmptySlots-run : (k : StreamKept) (run n : ℕ) → IsEmptyRun k.sampler.frame k.sampler.laid (slot_within k.sampler.frame.words k.sampler.slots_drawn) run
    → n ≤ run → n ≤ 2 * (k.payload - 1 - length k.bytes) / 3 → length k.bytes < k.payload → HasEmptySlots k n
HasEmptySlots-run k run n is few fits room =
    let zeros : List ℕ = replicate n 0 in
    let filled = length-filled_by k.odd zeros in
    let many : length zeros ≡ n = length-replicate {A = ℕ} n 0 in
    record {
      empty = λ j less. is.slots j (omega (arith, less, few));
      room = omega (arith, length-append k.bytes (filled_by k.odd zeros), filled, many, fits, room);
    }

-- no slot comes after the last
pub slots_before-most : (w time at : ℕ) → w ≤ 1024 → time ≤ last_time → at ≡ slot_time w time → slots_before at ≤ most_word_slots
slots_before-most w time at words in_time is =
    let most : time * w ≤ 1440000000000 * 1024 = mul-le-mul in_time words in
    omega (arith, most, is)

-- where no slot counts as drawn that wasn't
pub HasLateSlots-none : (k at : StreamKept) (past : StreamPast) (time count data_time : ℕ) → IsDrawing at past time → k.sampler ≡ at.sampler
    → slots_before time ≤ most_word_slots → HasEmptySlots k count → data_time ≡ time_of_slot (at.sampler.slots_drawn + count)
    → HasLateSlots k count data_time 0
HasLateSlots-none k at past time count data_time drawn same in_time is data_time_is =
    let frame : k.sampler.frame.words ≡ past.table.frame.words =
    ap (λ (s : SamplerKept). s.frame.words) same ∙ ap (λ (f : FrameRow). f.words) drawn.sampler.frame in
    let slots : k.sampler.slots_drawn ≡ at.sampler.slots_drawn = ap (λ (s : SamplerKept). s.slots_drawn) same in
    record {
      empty = is;
      data_time_is = data_time_is ∙ ap (λ n. time_of_slot (n + count)) (sym slots);
      within = omega arith;
      in_time = omega arith;
      words = omega (arith, frame, drawn.packed.words);
      slots = omega (arith, slots, drawn.no_later_slots, in_time);
    }

-- the zeros fit
pub zeros_fit : (k : StreamKept) (n : ℕ) → HasEmptySlots k n → 3 * n / 2 + length k.bytes < k.payload
zeros_fit k n is =
    let zeros : List ℕ = replicate n 0 in
    let many : length zeros ≡ n = length-replicate {A = ℕ} n 0 in
    omega (arith, is.room, length-append k.bytes (filled_by k.odd zeros), length-filled_by k.odd zeros, many)

-- where this many slots come next at the least, no fewer are drawn
pub all_drawn : (k : SamplerKept) (n count : ℕ) → HasEmptyRun k.frame k.laid (slot_within k.frame.words k.slots_drawn) n → count ≤ n
    → (count < n → IsEmptyRun k.frame k.laid (slot_within k.frame.words k.slots_drawn) count) → count ≡ n
all_drawn k n count run few all =
    ⊎_elim
    (λ (less : count < n). let at = run count less in absurd ((all less).ends at.0 at.1))
    (λ (le : n ≤ count). omega (arith, le, few))
    (cases_lt count n)
