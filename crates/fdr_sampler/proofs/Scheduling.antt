-- The steps of the slots of a superframe, one slot after another.
use Rattle.std.proofs.Common.{◌≡◌, ℕ, ◌+◌, ◌<◌, List, [], ◌∷◌, ◌++◌, length, get_or, take, map, sym, ap, ◌∙◌, append_assoc, zero-add}
use Rattle.std.specs.List.{flat_map, range_with_len}
use Rattle.std.proofs.lemmas.List.{take_more, map_push}
use Rattle.std.proofs.lemmas.List.FromFn.{length-map-range_with_len, map-range_with_len_more}
use Rattle.fdr_check.proofs.Stretches.{flat_map-range_more}
use Rattle.fdr_layout.specs.Flat.{segment, AreStarts}
use Rattle.fdr_layout.specs.SlotParts.{SlotPart, Laid}
use Rattle.fdr_layout.proofs.Flats.{segment_is, starts_are, ends}
use Rattle.fdr_sampler.specs.Schedule.{SlotStep, slot_steps, IsSchedule}

-- ---- making them

-- one more part of a slot
pub steps_more : (f : SlotPart → SlotStep) (before : List SlotStep) (parts : List SlotPart) (i : ℕ) (a : SlotPart) (x : SlotStep) → i < length parts
    → a ≡ get_or parts i a → x ≡ f a → (before ++ map f (take i parts)) ++ x ∷ [] ≡ before ++ map f (take (i + 1) parts)
steps_more f before parts i a x l is x_is =
    append_assoc before (map f (take i parts)) (x ∷ [])
    ∙ ap (λ y. before ++ (map f (take i parts) ++ y ∷ [])) x_is
    ∙ ap (λ xs. before ++ xs) (sym (map_push f (take i parts) a) ∙ ap (λ b. map f (take i parts ++ b ∷ [])) is ∙ sym (ap (map f) (take_more parts i a l)))

-- one more slot
pub steps_on : (l : Laid) (steps added : List SlotStep) (slot : ℕ) → steps ≡ flat_map (slot_steps l) (range_with_len 0 slot) → added ≡ slot_steps l slot
    → steps ++ added ≡ flat_map (slot_steps l) (range_with_len 0 (slot + 1))
steps_on l steps added slot are is =
    ap (λ xs. xs ++ added) are ∙ ap (λ xs. flat_map (slot_steps l) (range_with_len 0 slot) ++ xs) is
    ∙ sym (flat_map-range_more (slot_steps l) 0 slot slot (zero-add slot))

pub starts_on : (l : Laid) (starts : List ℕ) (steps : List SlotStep) (slot count : ℕ) → starts ≡ map (ends (slot_steps l)) (range_with_len 0 (slot + 1))
    → steps ≡ flat_map (slot_steps l) (range_with_len 0 (slot + 1)) → count ≡ length steps
    → starts ++ count ∷ [] ≡ map (ends (slot_steps l)) (range_with_len 0 (slot + 1 + 1))
starts_on l starts steps slot count begins are is =
    ap (λ xs. xs ++ count ∷ []) begins
    ∙ ap (λ n. map (ends (slot_steps l)) (range_with_len 0 (slot + 1)) ++ n ∷ []) (is ∙ ap length are)
    ∙ sym (map-range_with_len_more (ends (slot_steps l)) 0 (slot + 1) (slot + 1) (zero-add (slot + 1)))

-- ---- reading them

pub schedule_starts : (l : Laid) (begins : List ℕ) (flat : List SlotStep) → IsSchedule l begins flat → AreStarts begins (length flat)
schedule_starts l begins flat is = starts_are (slot_steps l) (length l.slots) begins flat is.starts is.steps

pub schedule_long : (l : Laid) (begins : List ℕ) (flat : List SlotStep) → IsSchedule l begins flat → length begins ≡ length l.slots + 1
schedule_long l begins flat is = ap length is.starts ∙ length-map-range_with_len (ends (slot_steps l)) 0 (length l.slots + 1)

pub schedule_slot : (l : Laid) (begins : List ℕ) (flat : List SlotStep) (k : ℕ) → IsSchedule l begins flat → k < length l.slots
    → segment begins flat k ≡ slot_steps l k
schedule_slot l begins flat k is below = segment_is (slot_steps l) (length l.slots) k begins flat is.starts is.steps below
