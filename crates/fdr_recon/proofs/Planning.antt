-- Rows that are planned, and their raw values.
use Rattle.std.proofs.Common.{◌≡◌, ℕ, ◌+◌, ◌-◌, ◌*◌, ◌/◌, ◌%◌, ◌^◌, ◌<◌, ◌≤◌, List, [], ◌∷◌, ◌++◌, length, map, refl, sym, ap, ◌∙◌, subst, arith}
use Rattle.std.proofs.Common.{zero-add}
use Rattle.std.specs.List.{All, flat_map, range_with_len}
use Rattle.std.proofs.lemmas.List.Elements.{All-head, All-tail}
use Rattle.std.proofs.lemmas.List.FromFn.{length-map-range_with_len, map-range_with_len_more}
use Rattle.std.proofs.lemmas.List.Sums.{sum_by-cons}
use Rattle.std.proofs.lemmas.Nat.{and_mask, mod_below}
use Rattle.fdr_check.specs.Occurrences.{cycle_of}
use Rattle.fdr_check.proofs.Stretches.{flat_map-range_more}
use Rattle.fdr_layout.specs.Flat.{segment, AreStarts}
use Rattle.fdr_layout.specs.Samples.{Part}
use Rattle.fdr_layout.specs.SlotParts.{Laid}
use Rattle.fdr_layout.proofs.Flats.{segment_is, starts_are, ends}
use Rattle.fdr_recon.specs.Kept.{RebuildKept, kept_word, kept_bits, kept_raw, word_back}
use Rattle.fdr_recon.specs.Plans.{RowPlan, field_plan, cycle_plans, ArePlans, planned_bits, planned_raw}
use Rattle.fdr_recon.proofs.KeptWords.{cycle_of_slot, kept_word-back, slot_from_end}

-- ---- raw values

planned_bits_are : (k : RebuildKept) (cycle : ℕ) (p : Part) → 0 < k.frame.words → cycle_of k.frame.words p.at ≤ cycle
    → planned_bits k (field_plan k.frame.words cycle p) ≡ kept_bits k cycle p * 2 ^ p.shift
unfolding kept_bits
planned_bits_are k cycle p some ends =
    let w = k.frame.words in
    let slot = p.at / 12 in
    let frames : cycle - slot / (4 * w) ≡ cycle - cycle_of w p.at = ap (λ n. cycle - n) (cycle_of_slot w p.at) in
    let le : slot / (4 * w) ≤ cycle = subst (λ n. n ≤ cycle) (sym (cycle_of_slot w p.at)) ends in
    let place : slot % (4 * w) < 4 * w = mod_below slot (4 * w) (omega (arith, some)) in
    let read : word_back k (4 * w * (cycle + 1) - 1 - slot) ≡ kept_word k (cycle - cycle_of w p.at) (slot % (4 * w)) =
    kept_word-back k (cycle - slot / (4 * w)) (slot % (4 * w)) (4 * w * (cycle + 1) - 1 - slot) place (slot_from_end w cycle slot some le)
    ∙ ap (λ b. kept_word k b (slot % (4 * w))) frames in
    ap (λ n. n * 2 ^ p.shift) (and_mask (word_back k (4 * w * (cycle + 1) - 1 - slot) / 2 ^ (p.at % 12)) p.width
    ∙ ap (λ n. n / 2 ^ (p.at % 12) % 2 ^ p.width) read)

-- the raw value of planned fields is that of the parts
pub planned_raw_is : (k : RebuildKept) (cycle : ℕ) (parts : List Part) → 0 < k.frame.words → All (λ (p : Part). cycle_of k.frame.words p.at ≤ cycle) parts
    → planned_raw k (map (field_plan k.frame.words cycle) parts) ≡ kept_raw k cycle parts
unfolding kept_raw
planned_raw_is k cycle [] some ends = refl
planned_raw_is k cycle (p ∷ parts) some ends =
    let w = k.frame.words in
    let Up : Part → Type 0 = λ q. cycle_of w q.at ≤ cycle in
    let here = planned_bits_are k cycle p some (All-head Up p parts ends) in
    let rest = planned_raw_is k cycle parts some (All-tail Up p parts ends) in
    omega (
      arith,
      here,
      rest,
      sum_by-cons (planned_bits k) (field_plan w cycle p) (map (field_plan w cycle) parts),
      sum_by-cons (λ (q : Part). kept_bits k cycle q * 2 ^ q.shift) p parts,
    )

-- ---- the plans of a superframe, one cycle after another

pub plans_on : (l : Laid) (w : ℕ) (rows added : List RowPlan) (cycle : ℕ) → rows ≡ flat_map (cycle_plans l w) (range_with_len 0 cycle)
    → added ≡ rows ++ cycle_plans l w cycle → added ≡ flat_map (cycle_plans l w) (range_with_len 0 (cycle + 1))
plans_on l w rows added cycle are is =
    is ∙ ap (λ xs. xs ++ cycle_plans l w cycle) are ∙ sym (flat_map-range_more (cycle_plans l w) 0 cycle cycle (zero-add cycle))

pub plan_starts_on : (l : Laid) (w : ℕ) (starts : List ℕ) (rows : List RowPlan) (cycle count : ℕ)
    → starts ≡ map (ends (cycle_plans l w)) (range_with_len 0 (cycle + 1)) → rows ≡ flat_map (cycle_plans l w) (range_with_len 0 (cycle + 1))
    → count ≡ length rows → starts ++ count ∷ [] ≡ map (ends (cycle_plans l w)) (range_with_len 0 (cycle + 1 + 1))
plan_starts_on l w starts rows cycle count begins are is =
    ap (λ xs. xs ++ count ∷ []) begins
    ∙ ap (λ n. map (ends (cycle_plans l w)) (range_with_len 0 (cycle + 1)) ++ n ∷ []) (is ∙ ap length are)
    ∙ sym (map-range_with_len_more (ends (cycle_plans l w)) 0 (cycle + 1) (cycle + 1) (zero-add (cycle + 1)))

pub plan_starts : (l : Laid) (w : ℕ) (starts : List ℕ) (rows : List RowPlan) → ArePlans l w starts rows → AreStarts starts (length rows)
plan_starts l w starts rows are = starts_are (cycle_plans l w) 16 starts rows are.begins are.rows

pub plan_starts_long : (l : Laid) (w : ℕ) (starts : List ℕ) (rows : List RowPlan) → ArePlans l w starts rows → length starts ≡ 17
plan_starts_long l w starts rows are = ap length are.begins ∙ length-map-range_with_len (ends (cycle_plans l w)) 0 17

pub plans_of_cycle : (l : Laid) (w : ℕ) (starts : List ℕ) (rows : List RowPlan) (cycle : ℕ) → ArePlans l w starts rows → cycle < 16
    → segment starts rows cycle ≡ cycle_plans l w cycle
plans_of_cycle l w starts rows cycle are within = segment_is (cycle_plans l w) 16 cycle starts rows are.begins are.rows within
