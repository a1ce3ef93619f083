-- The record that is held, as records are given and slots are drawn.
use Rattle.std.proofs.Common.{◌≡◌, ℕ, ◌+◌, ◌*◌, ◌<◌, Bool, true, false, List, [], ◌∷◌, ◌++◌, Some, None, reverse, refl, sym, ap, ◌∙◌, arith}
use Rattle.std.specs.Prelude.{◌&&◌, if◌then◌else◌, IsTrue}
use Rattle.std.specs.List.{All, find}
use Rattle.std.proofs.lemmas.Bool.{leb-true, le-leb, lt-leb, and_parts, and_right, cond-false, eqb-true}
use Rattle.std.proofs.lemmas.List.{reverse-append}
use Rattle.std.proofs.lemmas.List.Elements.{All-weaker}
use Rattle.fdr_bus.specs.declared.BusRecord.{BusRecord}
use Rattle.fdr_bus.specs.Words.{label_of}
use Rattle.fdr_sampler.specs.Held.{Source, is_from, counts_for, held_record}
use Rattle.fdr_sampler.proofs.Lists.{All-reverse}
use Rattle.fdr_check.proofs.Searches.{find_agree}

-- a word that is from a source has its bus and its label
pub from_is : (s : Source) (r : BusRecord) → is_from s r ≡ true → (r.bus ≡ s.bus) × (label_of r.word ≡ s.label)
from_is s r from =
    let with_label = (and_parts _ _ from).0 in
    let with_bus = (and_parts _ _ with_label).0 in
    (eqb-true r.bus s.bus (and_parts _ _ with_bus).1, eqb-true (label_of r.word) s.label (and_parts _ _ with_label).1)

and_true : (b c : Bool) → c ≡ true → (b && c) ≡ b
and_true true c holds = holds
and_true false c holds = refl

-- where all records count for a slot, the one that is held is the last one of the source
all_count : (w k : ℕ) (s : Source) (records : List BusRecord) → All (λ (r : BusRecord). IsTrue (counts_for w k r)) records
    → held_record w s records k ≡ find (is_from s) (reverse records)
unfolding held_record
all_count w k s records count =
    find_agree (λ r. is_from s r && counts_for w k r) (is_from s) (reverse records)
    (All-weaker (λ (r : BusRecord). IsTrue (counts_for w k r)) (λ (r : BusRecord). (is_from s r && counts_for w k r) ≡ is_from s r)
    (λ r holds. and_true (is_from s r) (counts_for w k r) holds) (reverse records)
    (All-reverse (λ (r : BusRecord). IsTrue (counts_for w k r)) records count))

pub counts_later : (w k : ℕ) (r : BusRecord) → IsTrue (counts_for w k r) → IsTrue (counts_for w (k + 1) r)
counts_later w k r holds = le-leb (r.time * w) ((k + 1) * 1000000) (omega (arith, leb-true (r.time * w) (k * 1000000) holds))

-- then the same record is held at the next slot
pub held_record-next : (w k : ℕ) (s : Source) (records : List BusRecord) → All (λ (r : BusRecord). IsTrue (counts_for w k r)) records
    → held_record w s records (k + 1) ≡ held_record w s records k
held_record-next w k s records count =
    all_count w (k + 1) s records (All-weaker (λ (r : BusRecord). IsTrue (counts_for w k r)) (λ (r : BusRecord). IsTrue (counts_for w (k + 1) r))
    (counts_later w k) records count)
    ∙ sym (all_count w k s records count)

held_record_push : (w k : ℕ) (s : Source) (records : List BusRecord) (r : BusRecord)
    → held_record w s (records ++ r ∷ []) k ≡ (if is_from s r && counts_for w k r then Some r else held_record w s records k)
unfolding held_record
held_record_push w k s records r = ap (find (λ r. is_from s r && counts_for w k r)) (reverse-append records (r ∷ []))

-- a further record that counts for the slot
pub held_record-counted : (w k : ℕ) (s : Source) (records : List BusRecord) (r : BusRecord) → IsTrue (counts_for w k r)
    → held_record w s (records ++ r ∷ []) k ≡ (if is_from s r then Some r else held_record w s records k)
held_record-counted w k s records r holds =
    held_record_push w k s records r ∙ ap (λ b. if b then Some r else held_record w s records k) (and_true (is_from s r) (counts_for w k r) holds)

-- one that comes too late for the slot changes nothing there
pub held_record-late : (w k : ℕ) (s : Source) (records : List BusRecord) (r : BusRecord) → k * 1000000 < r.time * w
    → held_record w s (records ++ r ∷ []) k ≡ held_record w s records k
held_record-late w k s records r late =
    held_record_push w k s records r ∙ cond-false _ _ _ (and_right (is_from s r) (counts_for w k r) (lt-leb (r.time * w) (k * 1000000) late))

-- none is held of no records
pub held_record-none : (w k : ℕ) (s : Source) → held_record w s [] k ≡ None
unfolding held_record
held_record-none w k s = refl
