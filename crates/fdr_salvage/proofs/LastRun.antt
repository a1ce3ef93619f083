-- The last run of an image is the recovered one.
use Rattle.std.proofs.Common.{◌≡◌, ◌≢◌, inl, inr, ⊎_elim, ℕ, zero, suc, ◌+◌, List, [], ◌∷◌, ◌++◌, length, Some, refl, sym, ap, ◌∙◌}
use Rattle.std.proofs.Common.{subst, arith}
use Rattle.std.specs.Prelude.{All}
use Rattle.std.specs.List.{cons_option}
use Rattle.std.proofs.lemmas.Bool.{cases_lt}
use Rattle.std.proofs.lemmas.List.Elements.{All-weaker, All-contains, Contains-push}
use Rattle.fdr_lists.proofs.Options.{some_or_none}
use Rattle.fdr_slot.specs.declared.image.Header.{Header}
use Rattle.fdr_slot.specs.Limits.{IsInLimits}
use Rattle.fdr_recover.specs.Blocks.{Block, StandsInSlot, standing_block, run_below}
use Rattle.fdr_recover.specs.Images.{block_in, block_numbered, blocks_between, blocks_below, next_of, recovered_run}
use Rattle.fdr_recover.specs.Stretches.{stretches}
use Rattle.fdr_recover.proofs.Standing.{standing_block-stands, stands-standing_block}
use Rattle.fdr_recover.proofs.Runs.{run_below-none, run_below-some, length-run_below}
use Rattle.fdr_recover.proofs.BlockLemmas.{next_of-is_next}
use Rattle.fdr_recover.proofs.Stretching.{stretches-apart, stretches-push_with}
use Rattle.fdr_salvage.specs.Runs.{valid_blocks, runs_of, goes_on_with, EndsWithRun}
use Rattle.fdr_salvage.proofs.Numbers.{between_suc, between-stand}
use Rattle.fdr_salvage.proofs.Joins.{goes_on-true, goes_on-false, last_of}

-- where there is a block below a number, the run that ends there is the last of the runs
EndsBelow : Header → List ℕ → ℕ → Type 0
EndsBelow h image n = (earlier : List (List Block))
    × (stretches goes_on_with (blocks_between h image 0 n) ≡ earlier ++ run_below h.slots (block_in h image) n ∷ [])

-- a block that goes on with no other one
apart_from : (blocks : List Block) (b : Block) → All (λ (c : Block). c.number + 1 ≢ b.number) blocks
    → stretches goes_on_with (blocks ++ b ∷ []) ≡ stretches goes_on_with blocks ++ (b ∷ []) ∷ []
apart_from [] b others = refl
apart_from (x ∷ xs) b others =
    let end = last_of x xs in
    let P : Block → Type 0 = λ (c : Block). c.number + 1 ≢ b.number in
    let other = All-contains P (end.0 ++ end.1 ∷ []) end.1 (subst (All P) end.2 others) (Contains-push end.0 end.1) in
    subst (λ blocks. stretches goes_on_with (blocks ++ b ∷ []) ≡ stretches goes_on_with blocks ++ (b ∷ []) ∷ []) (sym end.2)
    (stretches-apart goes_on_with end.0 end.1 b [] (goes_on-false end.1 b (λ same. other (sym same))))

-- no block has the number before one whose run below is empty
none_before : (h : Header) (image : List ℕ) (n : ℕ) → run_below h.slots (block_in h image) n ≡ [] → (c : Block)
    → StandsInSlot h.slots (block_in h image) c → c.number + 1 ≢ n
none_before h image n none c stands same =
    let here = stands-standing_block h.slots (block_in h image) c.number c stands refl in
    let long = length-run_below h.slots (block_in h image) c.number c here in
    let next : n ≡ suc c.number = omega (arith, same) in
    absurd (omega (arith, long, ap length none, ap (λ k. length (run_below h.slots (block_in h image) k)) next))

module _ (h : Header) (image : List ℕ) where
  blocks_more : (n : ℕ) (b : Block) → standing_block h.slots (block_in h image) n ≡ Some b
      → blocks_between h image 0 (suc n) ≡ blocks_between h image 0 n ++ b ∷ []
  unfolding block_numbered
  blocks_more n b is = between_suc h image n ∙ ap (λ o. blocks_between h image 0 n ++ cons_option o []) is

  -- a block after none, and after one
  begins : (n : ℕ) (b : Block) → standing_block h.slots (block_in h image) n ≡ Some b → run_below h.slots (block_in h image) n ≡ []
      → EndsBelow h image (suc n)
  unfolding EndsBelow
  begins n b is none =
      let number = (standing_block-stands h.slots (block_in h image) n b is).0 in
      let others = All-weaker (StandsInSlot h.slots (block_in h image)) (λ (c : Block). c.number + 1 ≢ b.number)
      (λ c stands same. none_before h image n none c stands (same ∙ number)) (blocks_between h image 0 n) (between-stand h image n) in (
        stretches goes_on_with (blocks_between h image 0 n),
        rw (blocks_more n b is, run_below-some h.slots (block_in h image) n b is, none) (apart_from (blocks_between h image 0 n) b others),
      )

  goes_on : (n : ℕ) (c b : Block) → standing_block h.slots (block_in h image) n ≡ Some c → standing_block h.slots (block_in h image) (suc n) ≡ Some b
      → EndsBelow h image (suc n) → EndsBelow h image (suc (suc n))
  unfolding EndsBelow
  goes_on n c b was is ends =
      let last = (standing_block-stands h.slots (block_in h image) n c was).0 in
      let number = (standing_block-stands h.slots (block_in h image) (suc n) b is).0 in
      let run = run_below-some h.slots (block_in h image) n c was in (
        ends.0,
        rw (blocks_more (suc n) b is, run_below-some h.slots (block_in h image) (suc n) b is, run)
            (stretches-push_with goes_on_with (blocks_between h image 0 (suc n)) ends.0 (run_below h.slots (block_in h image) n) c b
            (ends.1 ∙ ap (λ part. ends.0 ++ part ∷ []) run) (goes_on-true c b (omega (arith, last, number)))),
      )

  ends_below : (n : ℕ) (b : Block) → standing_block h.slots (block_in h image) n ≡ Some b → EndsBelow h image (suc n)
  ends_below zero b is = begins zero b is refl
  ends_below (suc n) b is = ⊎_elim
      (λ none. begins (suc n) b is (run_below-none h.slots (block_in h image) n none))
      (λ some. goes_on n some.0 b some.1 is (ends_below n some.0 some.1))
      (some_or_none (standing_block h.slots (block_in h image) n))

pub runs-last : (h : Header) (image : List ℕ) → IsInLimits h → EndsWithRun (runs_of h image) (recovered_run h image)
unfolding EndsBelow runs_of valid_blocks blocks_below
runs-last h image limits = ⊎_elim
    (λ some. let top = (next_of-is_next h image limits).stands some in
    let here = stands-standing_block h.slots (block_in h image) top.0.number top.0 top.1.0 refl in
    let next : suc top.0.number ≡ next_of h image = omega (arith, top.1.1) in
    inr (subst (EndsBelow h image) next (ends_below h image top.0.number top.0 here)))
    (λ none. let zero : next_of h image ≡ 0 = omega (arith, none) in
    inl (ap (λ k. stretches goes_on_with (blocks_between h image 0 k)) zero, ap (run_below h.slots (block_in h image)) zero))
    (cases_lt 0 (next_of h image))
