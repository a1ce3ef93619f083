-- The blocks below a number, down to the first that isn't in its slot, are the longest run.
use Rattle.std.proofs.Common.{◌≡◌, ⊎_elim, ℕ, zero, suc, ◌+◌, ◌-◌, ◌<◌, ◌≤◌, List, [], ◌∷◌, ◌++◌, length, Some, None, refl, sym, ap, ◌∙◌, subst, arith}
use Rattle.std.proofs.Common.{length-append}
use Rattle.std.specs.Prelude.{All}
use Rattle.std.proofs.lemmas.Bool.{cases_lt}
use Rattle.std.proofs.lemmas.List.Elements.{All-append, All-nil, All-cons, All-head, All-tail}
use Rattle.fdr_recover.specs.Blocks.{Block, Slots, StandsInSlot, AreNumberedFrom, IsNextOfBlocks}
use Rattle.fdr_recover.specs.Blocks.{IsRun, IsLongestRun, standing_block, blocks_with_next, run_below}
use Rattle.fdr_recover.proofs.Standing.{standing_block-stands, stands-standing_block}
use Rattle.fdr_recover.proofs.Nexts.{IsNext-one}
use Rattle.fdr_lists.proofs.Options.{some_or_none}

pub run_below-none : (n : ℕ) (slots : Slots) (number : ℕ) → standing_block n slots number ≡ None → run_below n slots (suc number) ≡ []
run_below-none n slots number none = ap (blocks_with_next (run_below n slots number)) none

pub run_below-some : (n : ℕ) (slots : Slots) (number : ℕ) (b : Block) → standing_block n slots number ≡ Some b
    → run_below n slots (suc number) ≡ run_below n slots number ++ b ∷ []
run_below-some n slots number b some = ap (blocks_with_next (run_below n slots number)) some

pub length-run_below : (n : ℕ) (slots : Slots) (number : ℕ) (b : Block) → standing_block n slots number ≡ Some b
    → length (run_below n slots (suc number)) ≡ length (run_below n slots number) + 1
length-run_below n slots number b some =
    ap length (run_below-some n slots number b some) ∙ length-append (run_below n slots number) (b ∷ [])

pub run_below-short : (n : ℕ) (slots : Slots) (number : ℕ) → length (run_below n slots number) ≤ number
run_below-short n slots zero = omega arith
run_below-short n slots (suc number) = ⊎_elim
    (λ none. omega (arith, ap length (run_below-none n slots number none)))
    (λ some. omega (arith, length-run_below n slots number some.0 some.1, run_below-short n slots number))
    (some_or_none (standing_block n slots number))

-- one block more
IsNumbered-more : (first : ℕ) (xs : List Block) (b : Block) → AreNumberedFrom first xs → b.number ≡ first + length xs → AreNumberedFrom first (xs ++ b ∷ [])
IsNumbered-more first [] b numbered is = (omega arith, tt)
IsNumbered-more first (x ∷ xs) b numbered is = (numbered.0, IsNumbered-more (first + 1) xs b numbered.1 (omega arith))

run_below-numbered : (n : ℕ) (slots : Slots) (number first : ℕ) → first + length (run_below n slots number) ≡ number
    → AreNumberedFrom first (run_below n slots number)
run_below-numbered n slots zero first is = tt
run_below-numbered n slots (suc number) first is = ⊎_elim
    (λ none. subst (AreNumberedFrom first) (sym (run_below-none n slots number none)) tt)
    (λ some. let longer = length-run_below n slots number some.0 some.1 in
    let rest : first + length (run_below n slots number) ≡ number = omega arith in
    let block = standing_block-stands n slots number some.0 some.1 in
    subst (AreNumberedFrom first) (sym (run_below-some n slots number some.0 some.1))
    (IsNumbered-more first (run_below n slots number) some.0 (run_below-numbered n slots number first rest) (block.0 ∙ sym rest)))
    (some_or_none (standing_block n slots number))

run_below-stands : (n : ℕ) (slots : Slots) (number : ℕ) → All (StandsInSlot n slots) (run_below n slots number)
run_below-stands n slots zero = All-nil (StandsInSlot n slots)
run_below-stands n slots (suc number) = ⊎_elim
    (λ none. subst (All (StandsInSlot n slots)) (sym (run_below-none n slots number none)) (All-nil (StandsInSlot n slots)))
    (λ some. subst (All (StandsInSlot n slots)) (sym (run_below-some n slots number some.0 some.1))
    (All-append (StandsInSlot n slots) (run_below n slots number) (some.0 ∷ []) (run_below-stands n slots number)
    (All-cons (StandsInSlot n slots) some.0 [] (standing_block-stands n slots number some.0 some.1).1 (All-nil (StandsInSlot n slots)))))
    (some_or_none (standing_block n slots number))

-- the block before the first isn't in its slot
run_below-ends : (n : ℕ) (slots : Slots) (number first : ℕ) → suc first + length (run_below n slots number) ≡ number → standing_block n slots first ≡ None
run_below-ends n slots zero first is = absurd (omega arith)
run_below-ends n slots (suc number) first is = ⊎_elim
    (λ none. let empty = ap length (run_below-none n slots number none) in
    let same : first ≡ number = omega arith in
    ap (standing_block n slots) same ∙ none)
    (λ some. let longer = length-run_below n slots number some.0 some.1 in
    run_below-ends n slots number first (omega arith))
    (some_or_none (standing_block n slots number))

-- each block of a run is in its slot
run_at : (n : ℕ) (slots : Slots) (first : ℕ) (run : List Block) (number : ℕ) → AreNumberedFrom first run → All (StandsInSlot n slots) run → first ≤ number
    → number < first + length run
    → (b : Block) × (StandsInSlot n slots b × (b.number ≡ number))
run_at n slots first [] number numbered stand from below = absurd (omega arith)
run_at n slots first (x ∷ xs) number numbered stand from below = ⊎_elim
    (λ later. run_at n slots (first + 1) xs number numbered.1 (All-tail (StandsInSlot n slots) x xs stand) (omega arith) (omega arith))
    (λ here. let same : first ≡ number = omega arith in
    (x, (All-head (StandsInSlot n slots) x xs stand, numbered.0 ∙ same)))
    (cases_lt first number)

run_below-is_run : (n : ℕ) (slots : Slots) (next : ℕ) → IsNextOfBlocks n slots next → IsRun n slots (run_below n slots next)
run_below-is_run n slots next is_next =
    let short = run_below-short n slots next in
    let whole : (next - length (run_below n slots next)) + length (run_below n slots next) ≡ next = omega arith in
    record {
      first = next - length (run_below n slots next);
      numbered = run_below-numbered n slots next (next - length (run_below n slots next)) whole;
      stand = run_below-stands n slots next;
      next = subst (IsNextOfBlocks n slots) (sym whole) is_next;
    }

run_below-longest : (n : ℕ) (slots : Slots) (next : ℕ) (other : List Block) → IsNextOfBlocks n slots next → IsRun n slots other
    → length other ≤ length (run_below n slots next)
run_below-longest n slots next other is_next is_run = ⊎_elim
    (λ longer. let ends = IsNext-one n slots (is_run.first + length other) next is_run.next is_next in
    let before : ℕ = (next - length (run_below n slots next)) - 1 in
    let stops = run_below-ends n slots next before (omega arith) in
    let held = run_at n slots is_run.first other before is_run.numbered is_run.stand (omega arith) (omega arith) in
    let stands = stands-standing_block n slots before held.0 held.1.0 held.1.1 in
    absurd (cc))
    (λ short. short)
    (cases_lt (length (run_below n slots next)) (length other))

pub run_below-is_longest : (n : ℕ) (slots : Slots) (next : ℕ) → IsNextOfBlocks n slots next → IsLongestRun n slots (run_below n slots next)
run_below-is_longest n slots next is_next = record {
  is_run = run_below-is_run n slots next is_next;
  longest = λ other is_run. run_below-longest n slots next other is_next is_run;
}

-- blocks with the same numbers in their slots are the same
same_run : (n : ℕ) (slots : Slots) (first : ℕ) (xs ys : List Block) → AreNumberedFrom first xs → All (StandsInSlot n slots) xs → AreNumberedFrom first ys
    → All (StandsInSlot n slots) ys → length xs ≡ length ys → xs ≡ ys
same_run n slots first [] [] numbered stand numbered_too stand_too long = refl
same_run n slots first [] (y ∷ ys) numbered stand numbered_too stand_too long = absurd (omega arith)
same_run n slots first (x ∷ xs) [] numbered stand numbered_too stand_too long = absurd (omega arith)
same_run n slots first (x ∷ xs) (y ∷ ys) numbered stand numbered_too stand_too long =
    let one = stands-standing_block n slots first x (All-head (StandsInSlot n slots) x xs stand) numbered.0 in
    let two = stands-standing_block n slots first y (All-head (StandsInSlot n slots) y ys stand_too) numbered_too.0 in
    let found : Some x ≡ Some y = sym one ∙ two in
    let block : x ≡ y = cc in
    let rest = same_run n slots (first + 1) xs ys numbered.1 (All-tail (StandsInSlot n slots) x xs stand) numbered_too.1
    (All-tail (StandsInSlot n slots) y ys stand_too) (omega arith) in
    cc

-- there is one longest run
pub IsLongestRun-one : (n : ℕ) (slots : Slots) (xs ys : List Block) → IsLongestRun n slots xs → IsLongestRun n slots ys → xs ≡ ys
IsLongestRun-one n slots xs ys one two =
    let long : length xs ≡ length ys = omega (arith, one.longest ys two.is_run, two.longest xs one.is_run) in
    let ends = IsNext-one n slots (one.is_run.first + length xs) (two.is_run.first + length ys) one.is_run.next two.is_run.next in
    let first : two.is_run.first ≡ one.is_run.first = omega arith in
    same_run n slots one.is_run.first xs ys one.is_run.numbered one.is_run.stand (subst (λ k. AreNumberedFrom k ys) first two.is_run.numbered)
    two.is_run.stand long
