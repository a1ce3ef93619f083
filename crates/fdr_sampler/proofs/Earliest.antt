-- The slot of the earliest of some parts.
use Rattle.std.proofs.Common.{◌≡◌, ℕ, ◌+◌, ◌*◌, ◌/◌, ◌<◌, ◌≤◌, min, List, [], ◌∷◌, ◌++◌, length, get_or, take, refl, sym, ap, ◌∙◌, arith, ⊎_elim}
use Rattle.std.proofs.lemmas.Bool.{cases_lt}
use Rattle.std.proofs.lemmas.List.{take_more, map_push}
use Rattle.fdr_layout.specs.Samples.{Part, earliest_of}
use Rattle.fdr_layout.specs.SlotParts.{SlotPart, plain_parts}

-- the slot of a bit that is given by its slot
pub slot_is : (slot low at : ℕ) → 12 * slot + low ≡ at → low < 12 → slot ≡ at / 12
slot_is slot low at is few = omega (arith, is, few)

earliest_slots : (a b : ℕ) → min (a / 12) (b / 12) ≡ min a b / 12
earliest_slots a b =
    ⊎_elim
    (λ (lt : a < b). let is : min a b ≡ a = omega arith in let le : a / 12 ≤ b / 12 = omega arith in omega (arith, ap (λ x. x / 12) is, le))
    (λ (ge : b ≤ a). let is : min a b ≡ b = omega arith in let le : b / 12 ≤ a / 12 = omega arith in omega (arith, ap (λ x. x / 12) is, le))
    (cases_lt a b)

earliest_of_push : (at : ℕ) (parts : List Part) (p : Part) → earliest_of at (parts ++ p ∷ []) ≡ min (earliest_of at parts) p.at
earliest_of_push at [] p = refl
earliest_of_push at (q ∷ parts) p = earliest_of_push (min at q.at) parts p

-- one more part
pub earliest_slot_more : (at slot earliest : ℕ) (parts : List SlotPart) (i : ℕ) (a : SlotPart) → i < length parts → a ≡ get_or parts i a → slot ≡ a.part.at / 12
    → earliest ≡ earliest_of at (plain_parts (take i parts)) / 12 → min earliest slot ≡ earliest_of at (plain_parts (take (i + 1) parts)) / 12
earliest_slot_more at slot earliest parts i a l is slot_is so_far =
    let before = plain_parts (take i parts) in
    let more : plain_parts (take (i + 1) parts) ≡ before ++ a.part ∷ [] =
    ap plain_parts (take_more parts i a l ∙ ap (λ x. take i parts ++ x ∷ []) (sym is)) ∙ map_push (λ (b : SlotPart). b.part) (take i parts) a in
    ap (λ e. min e slot) so_far ∙ ap (min (earliest_of at before / 12)) slot_is ∙ earliest_slots (earliest_of at before) a.part.at
    ∙ sym (ap (λ x. x / 12) (ap (earliest_of at) more ∙ earliest_of_push at before a.part))
