-- Two bus words that came at one time may be in either order.
use Rattle.std.proofs.Common.{◌≡◌, ℕ, ◌+◌, ⊎_elim, Bool, true, false, List, [], ◌∷◌, ◌++◌, Option, Some, None, fold, map, reverse, refl, sym, ap, ◌∙◌, get_or}
use Rattle.std.specs.Prelude.{◌&&◌, slice_get}
use Rattle.std.specs.Option.{option_or, option_map, option_map_or}
use Rattle.std.specs.List.{find, range_with_len}
use Rattle.std.proofs.lemmas.Bool.{and_parts}
use Rattle.std.proofs.lemmas.List.{reverse-append}
use Rattle.std.proofs.lemmas.List.Folds.{find-append}
use Rattle.std.proofs.lemmas.List.Sums.{fold-append}
use Rattle.fdr_bus.specs.declared.BusRecord.{BusRecord}
use Rattle.fdr_bus.specs.Records.{time_of}
use Rattle.fdr_table.specs.Rows.{TableRows}
use Rattle.fdr_layout.specs.Samples.{Sample, samples}
use Rattle.fdr_layout.specs.SlotParts.{parts_in}
use Rattle.fdr_sampler.specs.Held.{Source, source_of, is_from, counts_for, held_record, word_and_time, raw_of_held, raw_value, first_part_slot}
use Rattle.fdr_sampler.specs.SlotWord.{numbered_value, slot_within, start_of, word_with, slot_word}
use Rattle.fdr_sampler.specs.Stream.{slot_count, packed, stream_of}
use Rattle.fdr_sampler.specs.Exchange.{AreTogether, AreExchanged}
use Rattle.fdr_sampler.proofs.HeldFacts.{from_is}
use Rattle.fdr_sampler.proofs.DataWords.{data_of-agree}
use Rattle.fdr_lists.proofs.Ranges.{map-range-agree}

-- where a test passes at most one of two elements, a search finds the same in either order
find_one : {X : Type 0} (p : X → Bool) (a b : X) (m n : Bool) → p a ≡ m → p b ≡ n → (m ≡ true → n ≡ true → ⊥) → find p (b ∷ a ∷ []) ≡ find p (a ∷ b ∷ [])
find_one p a b true true at_a at_b one = absurd (one refl refl)
find_one p a b true false at_a at_b one = rw (at_a, at_b) refl
find_one p a b false n at_a at_b one = rw at_a refl

-- a search from the end, by three stretches
find_around : {X : Type 0} (p : X → Bool) (before mid after : List X)
    → find p (reverse (before ++ (mid ++ after))) ≡ option_or (option_or (find p (reverse after)) (find p (reverse mid))) (find p (reverse before))
find_around p before mid after =
    ap (find p) (reverse-append before (mid ++ after)) ∙ find-append p (reverse (mid ++ after)) (reverse before)
    ∙ ap (λ o. option_or o (find p (reverse before))) (ap (find p) (reverse-append mid after) ∙ find-append p (reverse after) (reverse mid))

-- one source doesn't send words of different buses or labels
from_one : (s : Source) (a b : BusRecord) → AreTogether a b → is_from s a ≡ true → is_from s b ≡ true → ⊥
from_one s a b together of_a of_b =
    let a_is = from_is s a of_a in
    let b_is = from_is s b of_b in
    ⊎_elim (λ bus. bus (a_is.0 ∙ sym b_is.0)) (λ label. label (a_is.1 ∙ sym b_is.1)) together.apart

-- and the same record is held for it
held_record-exchanged : (w k : ℕ) (s : Source) (before : List BusRecord) (a b : BusRecord) (after : List BusRecord) → AreTogether a b →
    held_record w s (before ++ a ∷ b ∷ after) k ≡ held_record w s (before ++ b ∷ a ∷ after) k
unfolding held_record
held_record-exchanged w k s before a b after together =
    let p : BusRecord → Bool = λ r. is_from s r && counts_for w k r in
    let two : find p (b ∷ a ∷ []) ≡ find p (a ∷ b ∷ []) =
    find_one p a b (p a) (p b) refl refl
    (λ at_a at_b. from_one s a b together (and_parts (is_from s a) (counts_for w k a) at_a).0 (and_parts (is_from s b) (counts_for w k b) at_b).0) in
    find_around p before (a ∷ b ∷ []) after
    ∙ ap (λ o. option_or (option_or (find p (reverse after)) o) (find p (reverse before))) two
    ∙ sym (find_around p before (b ∷ a ∷ []) after)

map_or_agree : {X Y : Type 0} (f g : X → Y) (o : Option X) (d : Y) → ((x : X) → f x ≡ g x) → option_map_or f o d ≡ option_map_or g o d
map_or_agree f g None d same = refl
map_or_agree f g (Some x) d same = same x

-- the raw value of each sample is the same
raw_value-exchanged : (t : TableRows) (start : ℕ) (before : List BusRecord) (a b : BusRecord) (after : List BusRecord) (s : Sample) → AreTogether a b →
    raw_value t (before ++ a ∷ b ∷ after) start s ≡ raw_value t (before ++ b ∷ a ∷ after) start s
unfolding raw_value
raw_value-exchanged t start before a b after s together =
    let w = t.frame.words in
    let k = start + first_part_slot s in
    map_or_agree _ _ (slice_get t.params s.param) 0
    (λ p. ap (λ o. raw_of_held w (source_of p) k (option_map word_and_time o)) (held_record-exchanged w k (source_of p) before a b after together))

numbered_value-exchanged : (t : TableRows) (start n : ℕ) (before : List BusRecord) (a b : BusRecord) (after : List BusRecord) → AreTogether a b →
    numbered_value t (before ++ a ∷ b ∷ after) start n ≡ numbered_value t (before ++ b ∷ a ∷ after) start n
unfolding numbered_value
numbered_value-exchanged t start n before a b after together =
    map_or_agree _ _ (slice_get (samples t) n) 0 (λ s. raw_value-exchanged t start before a b after s together)

-- so is the word of each slot
slot_word-exchanged : (t : TableRows) (k : ℕ) (before : List BusRecord) (a b : BusRecord) (after : List BusRecord) → AreTogether a b →
    slot_word t (before ++ a ∷ b ∷ after) k ≡ slot_word t (before ++ b ∷ a ∷ after) k
slot_word-exchanged t k before a b after together =
    let start = start_of t.frame.words k in
    let one = numbered_value t (before ++ a ∷ b ∷ after) start in
    let other = numbered_value t (before ++ b ∷ a ∷ after) start in
    let parts = parts_in t (slot_within t.frame.words k) in
    ap (word_with t.frame k)
    (data_of-agree one other parts (λ i d l. numbered_value-exchanged t start (get_or parts i d).sample before a b after together))

-- and the time of the last record
time_of-exchanged : (before : List BusRecord) (a b : BusRecord) (after : List BusRecord) → AreTogether a b
    → time_of (before ++ a ∷ b ∷ after) ≡ time_of (before ++ b ∷ a ∷ after)
time_of-exchanged before a b after together =
    let last : ℕ → BusRecord → ℕ = λ time r. r.time in
    fold-append last 0 before (a ∷ b ∷ after)
    ∙ ap (λ time. fold last time after) (sym together.time)
    ∙ sym (fold-append last 0 before (b ∷ a ∷ after))

stream_of-swapped : (t : TableRows) (before : List BusRecord) (a b : BusRecord) (after : List BusRecord) → AreTogether a b →
    stream_of t (before ++ a ∷ b ∷ after) ≡ stream_of t (before ++ b ∷ a ∷ after)
stream_of-swapped t before a b after together =
    let one = before ++ a ∷ b ∷ after in
    let other = before ++ b ∷ a ∷ after in
    let count = slot_count t.frame.words (time_of one) in
    ap packed
    (map-range-agree (slot_word t one) (slot_word t other) 0 count (λ k low high. slot_word-exchanged t k before a b after together)
    ∙ ap (λ time. map (slot_word t other) (range_with_len 0 (slot_count t.frame.words time))) (time_of-exchanged before a b after together))

-- two bus words that came at one time, on different buses or with different labels, make one recording in either order
pub stream_of-exchanged : (t : TableRows) (records others : List BusRecord) → AreExchanged records others → stream_of t records ≡ stream_of t others
stream_of-exchanged t records others ex =
    ap (stream_of t) ex.one ∙ stream_of-swapped t ex.before ex.a ex.b ex.after ex.together ∙ sym (ap (stream_of t) ex.other)
