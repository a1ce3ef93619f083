-- Each block of a list is in one of its stretches; and each run is all that the image has of its numbers.
use Rattle.std.proofs.Common.{◌≡◌, ⊎_elim, ℕ, ◌+◌, ◌≤◌, Bool, cond, List, [], ◌∷◌, ◌++◌, length, get_or, map, Some, refl, sym, ap, ◌∙◌, subst}
use Rattle.std.proofs.Common.{arith}
use Rattle.std.specs.Prelude.{◌==◌, ◌||◌, All, count_by, sum, filter, option_map}
use Rattle.std.specs.List.{flat_map, list_any, cons_option}
use Rattle.std.proofs.lemmas.Bool.{cases_Bool, or_left}
use Rattle.std.proofs.lemmas.List.Sums.{sum_by-cons, sum_by-append, sum-map, length-filter}
use Rattle.std.proofs.lemmas.List.{map-id, take_at, drop_at}
use Rattle.std.proofs.lemmas.Simd.{map-map}
use Rattle.std.proofs.lemmas.List.Elements.{All-nil, All-cons, All-take, All-drop}
use Rattle.fdr_lists.proofs.Filters.{map-agree}
use Rattle.fdr_slot.specs.declared.image.Header.{Header}
use Rattle.fdr_slot.specs.Limits.{IsInLimits}
use Rattle.fdr_recover.specs.Blocks.{Block, StandsInSlot, AreNumberedFrom}
use Rattle.fdr_recover.specs.Images.{block_in}
use Rattle.fdr_recover.specs.Stretches.{stretches}
use Rattle.fdr_recover.proofs.Stretching.{stretches-all}
use Rattle.fdr_recover.proofs.Between.{between_numbered}
use Rattle.fdr_salvage.specs.Runs.{valid_blocks, runs_of, goes_on_with, run_numbers, blocks_in_run, has_number}
use Rattle.fdr_salvage.proofs.Times.{times, times-here}
use Rattle.fdr_salvage.proofs.Numbers.{slot-stands, stands-numbered, times_valid, valid-stand}
use Rattle.fdr_salvage.proofs.Joins.{AreConsecutive, stretches-consecutive}

module _ {X : Type 0} (q : X → Bool) where
  any_counts : (xs : List X) → count_by q xs ≤ 1 → ◌≡◌ {A = ℕ} (cond (list_any q xs) 1 0) (count_by q xs)
  any_counts [] few = refl
  any_counts (x ∷ xs) few =
      let count = sum_by-cons (λ z. cond (q z) 1 0) x xs in
      ⊎_elim
      (λ passes. let one : ◌≡◌ {A = ℕ} (cond (q x) 1 0) 1 = ap (λ b. cond b 1 0) passes in
      ap (λ b. cond b 1 0) (or_left (q x) (list_any q xs) passes) ∙ omega (arith, few, count, one))
      (λ fails. let none : ◌≡◌ {A = ℕ} (cond (q x) 1 0) 0 = ap (λ b. cond b 1 0) fails in
      ap (λ b. cond (b || list_any q xs) 1 0) fails ∙ any_counts xs (omega (arith, few, count, none)) ∙ omega (arith, count, none))
      (cases_Bool (q x))

  -- where one element of all passes at most, as many parts have one that does
  pub parts_count : (parts : List (List X)) → count_by q (flat_map (λ p. p) parts) ≤ 1
      → count_by (list_any q) parts ≡ count_by q (flat_map (λ p. p) parts)
  parts_count [] few = refl
  parts_count (part ∷ parts) few =
      let all = sum_by-append (λ z. cond (q z) 1 0) part (flat_map (λ p. p) parts) in
      let here = any_counts part (omega (arith, few, all)) in
      let rest = parts_count parts (omega (arith, few, all)) in
      omega (arith, sum_by-cons (λ p. cond (list_any q p) 1 0) part parts, all, here, rest)

-- the block of a slot is in one run
pub in_one_run : (h : Header) (image : List ℕ) (slot : ℕ) (b : Block) → IsInLimits h → block_in h image slot ≡ Some b
    → length (filter (has_number b.number) (runs_of h image)) ≡ 1
unfolding runs_of
in_one_run h image slot b limits is =
    let there = stands-numbered h image b (slot-stands h image slot b is) in
    let once : times b.number (map (λ (x : Block). x.number) (valid_blocks h image)) ≡ 1 =
    times_valid h image b.number limits
    ∙ ap (λ o. times b.number (cons_option (option_map (λ (x : Block). x.number) o) [])) there
    ∙ times-here b.number b.number [] refl in
    let mark : ℕ → ℕ = λ y. cond (y == b.number) 1 0 in
    let number : Block → ℕ = λ x. x.number in
    let among : count_by (λ (x : Block). x.number == b.number) (valid_blocks h image) ≡ 1 =
    sym (sum-map (λ x. mark (number x)) (valid_blocks h image)) ∙ ap sum (sym (map-map mark number (valid_blocks h image)))
    ∙ sum-map mark (map number (valid_blocks h image)) ∙ once in
    let whole = ap (count_by (λ (x : Block). x.number == b.number)) (stretches-all goes_on_with (valid_blocks h image)) ∙ among in
    length-filter (has_number b.number) (runs_of h image)
    ∙ parts_count (λ (x : Block). x.number == b.number) (stretches goes_on_with (valid_blocks h image)) (omega (arith, whole)) ∙ whole

-- what holds of all elements holds of those of each part
All-parts : {X : Type 0} (P : X → Type 0) (parts : List (List X)) → All P (flat_map (λ p. p) parts) → All (All P) parts
All-parts P [] all = All-nil (All P)
All-parts P (part ∷ parts) all =
    let rest = flat_map (λ p. p) parts in
    All-cons (All P) part parts (subst (All P) (take_at part rest (length part) refl) (All-take P (length part) (part ++ rest) all))
    (All-parts P parts (subst (All P) (drop_at part rest (length part) refl) (All-drop P (length part) (part ++ rest) all)))

-- a run is what the image has of its numbers
run_is : (h : Header) (image : List ℕ) (run : List Block) → AreConsecutive run → All (StandsInSlot h.slots (block_in h image)) run
    → blocks_in_run h image (run_numbers run) ≡ run
run_is h image [] numbered stand = refl
run_is h image (b ∷ bs) numbered stand =
    between_numbered h image b.number (b.number + length (b ∷ bs)) (b ∷ bs)
    (subst (λ k. AreNumberedFrom k (b ∷ bs)) (sym numbered.1.0) numbered.1) stand refl

pub runs-numbered : (h : Header) (image : List ℕ) → All (λ (run : List Block). blocks_in_run h image (run_numbers run) ≡ run) (runs_of h image)
unfolding runs_of
runs-numbered h image =
    let P : Block → Type 0 = StandsInSlot h.slots (block_in h image) in
    let runs = stretches goes_on_with (valid_blocks h image) in
    let stand : All (All P) runs = All-parts P runs (subst (All P) (sym (stretches-all goes_on_with (valid_blocks h image))) (valid-stand h image)) in
    λ k d within. run_is h image (get_or runs k d) (stretches-consecutive (valid_blocks h image) k d within) (stand k d within)

-- the runs' numbers give the runs
pub runs_by_numbers : (h : Header) (image : List ℕ) → map (blocks_in_run h image) (map run_numbers (runs_of h image)) ≡ runs_of h image
runs_by_numbers h image =
    map-map (blocks_in_run h image) run_numbers (runs_of h image)
    ∙ map-agree (λ run. blocks_in_run h image (run_numbers run)) (λ run. run) (runs_of h image) (runs-numbered h image) ∙ map-id (runs_of h image)
