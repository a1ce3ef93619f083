-- The words of a stream, as records are given.
use Rattle.std.proofs.Common.{◌≡◌, ℕ, zero, suc, ◌-◌, ◌*◌, ◌%◌, ◌<◌, slice_index, List, [], ◌∷◌, ◌++◌, map, get_or, sym, ap, ◌∙◌, arith}
use Rattle.std.specs.List.{All, range_with_len}
use Rattle.std.proofs.lemmas.Nat.{mod_below}
use Rattle.std.proofs.lemmas.List.Elements.{All-map}
use Rattle.std.proofs.lemmas.List.Sums.{fold_push}
use Rattle.fdr_bus.specs.declared.BusRecord.{BusRecord}
use Rattle.fdr_bus.specs.Records.{time_of}
use Rattle.fdr_frame.specs.declared.SlotKind.TheVariants.{Sync, Counter, Plain}
use Rattle.fdr_frame.specs.Slots.{sync_words, sync_word, subframe_of, frame_of, kind_of}
use Rattle.fdr_table.specs.Rows.{TableRows}
use Rattle.fdr_layout.specs.Samples.{samples, first_at}
use Rattle.fdr_layout.specs.SlotParts.{parts_among, parts_in}
use Rattle.fdr_sampler.specs.SlotWord.{numbered_value, data_word, slot_within, start_of, word_with, slot_word}
use Rattle.fdr_sampler.specs.Stream.{slot_count, stream_words}
use Rattle.fdr_sampler.proofs.DataWords.{data_of-below, data_of-agree}
use Rattle.fdr_sampler.proofs.Packing.{IsWord}
use Rattle.fdr_sampler.proofs.SlotFacts.{IsOfSample, parts_in_of, parts_of_slot_in}
use Rattle.fdr_sampler.proofs.Standing.{raw_value-late, numbered_value_at, start_and_within, first_below}
use Rattle.fdr_sampler.proofs.Counting.{slot_count-below}
use Rattle.fdr_lists.proofs.Ranges.{map-range-agree}

sync_below : (n : ℕ) → slice_index sync_words n < 4096
sync_below zero = omega arith
sync_below (suc zero) = omega arith
sync_below (suc (suc zero)) = omega arith
sync_below (suc (suc (suc zero))) = omega arith
sync_below (suc (suc (suc (suc n)))) = omega arith

-- the word of each slot has twelve bits
pub slot_word-below : (t : TableRows) (records : List BusRecord) (k : ℕ) → slot_word t records k < 4096
slot_word-below t records k =
    let f = t.frame in
    let word = data_word t records (start_of f.words k) (slot_within f.words k) in
    elim (kind_of f.words f.cword f.csub k) as (λ kind. elim kind [
      | Sync ↦ sync_word (subframe_of f.words k)
      | Counter ↦ frame_of f.words k % 4096
      | Plain ↦
          word
    ] < 4096) [
      | Sync ↦ sync_below (subframe_of f.words k - 1)
      | Counter ↦ mod_below (frame_of f.words k) 4096 (omega arith)
      | Plain ↦ data_of-below (numbered_value t records (start_of f.words k)) (parts_in t (slot_within f.words k))
    ]

pub slot_words-below : (t : TableRows) (records : List BusRecord) (n : ℕ) → All IsWord (map (slot_word t records) (range_with_len 0 n))
slot_words-below t records n = All-map IsWord (slot_word t records) (range_with_len 0 n) (λ i d l. slot_word-below t records _)

-- a record that comes after a slot's time doesn't change the slot's word
pub slot_word-late : (t : TableRows) (records : List BusRecord) (r : BusRecord) (k : ℕ) → k * 1000000 < r.time * t.frame.words
    → slot_word t (records ++ r ∷ []) k ≡ slot_word t records k
slot_word-late t records r k late =
    let w = t.frame.words in
    let slot = slot_within w k in
    let start = start_of w k in
    let after = numbered_value t (records ++ r ∷ []) start in
    let before = numbered_value t records start in
    ap (word_with t.frame k)
    (data_of-agree after before (parts_in t slot)
    (λ i d l.
    let a = get_or (parts_in t slot) i d in
    let of : IsOfSample (samples t) a = parts_in_of t slot i d l in
    let at = parts_of_slot_in (parts_among (samples t)) slot i d l in
    let low = first_below (first_at of.sample.parts) slot a.part.at of.first at in
    let s = of.sample in
    numbered_value_at t (records ++ r ∷ []) start a.sample s of.numbered
    ∙ raw_value-late t records start a.sample s r of.numbered (omega (arith, low, start_and_within w k))
    ∙ sym (numbered_value_at t records start a.sample s of.numbered)))

-- nor do the words of all slots before its time
pub words-late : (t : TableRows) (records : List BusRecord) (r : BusRecord)
    → map (slot_word t (records ++ r ∷ [])) (range_with_len 0 (slot_count t.frame.words r.time)) ≡ map (slot_word t records)
    (range_with_len 0 (slot_count t.frame.words r.time))
words-late t records r =
    let w = t.frame.words in
    map-range-agree (slot_word t (records ++ r ∷ [])) (slot_word t records) 0 (slot_count w r.time)
    (λ k low high. slot_word-late t records r k (slot_count-below w r.time k (omega arith)))

-- so the stream with a further record is the words up to its time, of the records before it
pub stream_words-push : (t : TableRows) (records : List BusRecord) (r : BusRecord)
    → stream_words t (records ++ r ∷ []) ≡ map (slot_word t records) (range_with_len 0 (slot_count t.frame.words r.time))
stream_words-push t records r =
    let time : time_of (records ++ r ∷ []) ≡ r.time = fold_push (λ time (r : BusRecord). r.time) 0 records r in
    ap (λ n. map (slot_word t (records ++ r ∷ [])) (range_with_len 0 (slot_count t.frame.words n))) time ∙ words-late t records r

-- no records make no words
pub stream_words-none : (t : TableRows) → stream_words t [] ≡ []
stream_words-none t =
    let none : slot_count t.frame.words 0 ≡ 0 = omega arith in
    ap (λ n. map (slot_word t []) (range_with_len 0 n)) none
