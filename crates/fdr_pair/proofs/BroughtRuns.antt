-- The numbers of the blocks of a recovered run.
use Rattle.std.proofs.Common.{◌≡◌, ⊎_elim, ℕ, ◌+◌, ◌<◌, ◌≤◌, true, false, List, [], ◌∷◌, length, refl, sym, ◌∙◌, ap, subst, arith}
use Rattle.std.proofs.Common.{Some}
use Rattle.std.specs.Prelude.{All, Contains, nat_le}
use Rattle.std.proofs.lemmas.Bool.{cases_lt}
use Rattle.std.proofs.lemmas.Bool.Decides.{nat_tests}
use Rattle.std.proofs.lemmas.List.Elements.{All-contains, All-tail, All-nil, All-cons, Contains-append_left, Contains-append_right, Contains-push}
use Rattle.fdr_slot.specs.declared.image.Header.{Header}
use Rattle.fdr_slot.specs.Limits.{IsInLimits}
use Rattle.fdr_recover.specs.Blocks.{Block, StandsInSlot, AreNumberedFrom}
use Rattle.fdr_recover.specs.Images.{block_in, block_numbered, blocks_between, recovered_run, next_of}
use Rattle.fdr_recover.proofs.Standing.{stands-standing_block}
use Rattle.fdr_recover.proofs.Nexts.{IsNext-one}
use Rattle.fdr_recover.proofs.BlockLemmas.{next_of-is_next, recovered_run-is_recovered}
use Rattle.fdr_recover.proofs.Between.{between_none, between_numbered}
use Rattle.fdr_pair.specs.Brought.{first_of, blocks_not_below, missing_blocks, IsFarBehind}

from_at : (number : ℕ) (b : Block) (bs : List Block) → number ≤ b.number → blocks_not_below number (b ∷ bs) ≡ b ∷ blocks_not_below number bs
from_at number b bs low =
    let test : nat_le number b.number ≡ true = grind (arith, nat_tests) in
    rw test refl

from_below : (number : ℕ) (b : Block) (bs : List Block) → b.number < number → blocks_not_below number (b ∷ bs) ≡ blocks_not_below number bs
from_below number b bs high =
    let test : nat_le number b.number ≡ false = grind (arith, nat_tests) in
    rw test refl

-- of blocks that all have this number or a greater one, all
from_all : (number first : ℕ) (blocks : List Block) → number ≤ first → AreNumberedFrom first blocks → blocks_not_below number blocks ≡ blocks
from_all number first [] low numbered = refl
from_all number first (b ∷ bs) low numbered =
    from_at number b bs (omega (arith, low, numbered.0))
    ∙ ap (λ (l : List Block). b ∷ l) (from_all number (first + 1) bs (omega (arith, low)) numbered.1)

-- of blocks with numbers in a row, each in its slot, those from a number on are all that the image has from there on
from_between : (h : Header) (image : List ℕ) (number first : ℕ) (blocks : List Block) → first ≤ number → AreNumberedFrom first blocks
    → All (StandsInSlot h.slots (block_in h image)) blocks → blocks_not_below number blocks ≡ blocks_between h image number (first + length blocks)
from_between h image number first [] low numbered stand = sym (between_none h image number (first + 0) (omega (arith, low)))
from_between h image number first (b ∷ bs) low numbered stand = ⊎_elim
    (λ later.
    let count : first + 1 + length bs ≡ first + length (b ∷ bs) = omega arith in
    from_below number b bs (omega (arith, later, numbered.0))
    ∙ from_between h image number (first + 1) bs (omega (arith, later)) numbered.1 (All-tail (StandsInSlot h.slots (block_in h image)) b bs stand)
    ∙ ap (blocks_between h image number) count)
    (λ here.
    let same : number ≡ first = omega (arith, here, low) in
    from_all number first (b ∷ bs) (omega (arith, same)) numbered
    ∙ sym (between_numbered h image first (first + length (b ∷ bs)) (b ∷ bs) numbered stand refl)
    ∙ ap (λ n. blocks_between h image n (first + length (b ∷ bs))) (sym same))
    (cases_lt first number)

-- What is known of a recovered run: its blocks are numbered from its first on, up to the next, and each is in its slot.
record IsKnownRun (h : Header) (image : List ℕ) : Type 0 where
  pub numbered : AreNumberedFrom (first_of h image) (recovered_run h image)
  pub stand : All (StandsInSlot h.slots (block_in h image)) (recovered_run h image)
  pub whole : first_of h image + length (recovered_run h image) ≡ next_of h image

known_run : (h : Header) (image : List ℕ) → IsInLimits h → IsKnownRun h image
known_run h image limits =
    let is_run = (recovered_run-is_recovered h image limits).is_run in
    let ends = IsNext-one h.slots (block_in h image) _ _ is_run.next (next_of-is_next h image limits) in
    let first : is_run.first ≡ first_of h image = omega (arith, ends) in
    record {
      numbered = subst (λ (n : ℕ). AreNumberedFrom n (recovered_run h image)) first is_run.numbered;
      stand = is_run.stand;
      whole = omega (arith, ends);
    }

-- the blocks that are missing are those that the lead's image has from the next number of the side that follows on
pub missing_between : (h : Header) (lead follower : List ℕ) (next end : ℕ) → IsInLimits h → (IsFarBehind h lead follower → ⊥) → next ≡ next_of h follower
    → end ≡ next_of h lead → missing_blocks h lead follower ≡ blocks_between h lead next end
missing_between h lead follower next end limits near is_next is_end =
    let run = known_run h lead limits in
    let low : first_of h lead ≤ next_of h follower = ⊎_elim (λ far. absurd (near far)) (λ is. is) (cases_lt (next_of h follower) (first_of h lead)) in
    from_between h lead (next_of h follower) (first_of h lead) (recovered_run h lead) low run.numbered run.stand
    ∙ ap (blocks_between h lead (next_of h follower)) (run.whole ∙ sym is_end)
    ∙ ap (λ n. blocks_between h lead n end) (sym is_next)

-- of blocks with numbers in a row those from a number on are as many as there are numbers from there on
count_from : (number first : ℕ) (blocks : List Block) → first ≤ number → number ≤ first + length blocks → AreNumberedFrom first blocks
    → number + length (blocks_not_below number blocks) ≡ first + length blocks
count_from number first [] low high numbered = omega (arith, low, high)
count_from number first (b ∷ bs) low high numbered = ⊎_elim
    (λ later.
    let rest = count_from number (first + 1) bs (omega (arith, later)) (omega (arith, high)) numbered.1 in
    let same = ap length (from_below number b bs (omega (arith, later, numbered.0))) in
    omega (arith, rest, same))
    (λ here.
    let equal : number ≡ first = omega (arith, here, low) in
    let same = ap length (from_all number first (b ∷ bs) (omega (arith, equal)) numbered) in
    omega (arith, same, equal))
    (cases_lt first number)

-- as many blocks are missing as the next number of the side that follows is below the lead's
pub missing_count : (h : Header) (lead follower : List ℕ) → IsInLimits h → (IsFarBehind h lead follower → ⊥) → next_of h follower ≤ next_of h lead
    → next_of h follower + length (missing_blocks h lead follower) ≡ next_of h lead
missing_count h lead follower limits near le =
    let run = known_run h lead limits in
    let low : first_of h lead ≤ next_of h follower = ⊎_elim (λ far. absurd (near far)) (λ is. is) (cases_lt (next_of h follower) (first_of h lead)) in
    count_from (next_of h follower) (first_of h lead) (recovered_run h lead) low (omega (arith, le, run.whole)) run.numbered ∙ run.whole

-- blocks with numbers in a row have the numbers from the first on, below the next
numbers_in : (first : ℕ) (blocks : List Block) (low high : ℕ) → low ≤ first → first + length blocks ≤ high → AreNumberedFrom first blocks
    → All (λ (b : Block). (low ≤ b.number) × (b.number < high)) blocks
numbers_in first [] low high least most numbered = All-nil (λ (b : Block). (low ≤ b.number) × (b.number < high))
numbers_in first (b ∷ bs) low high least most numbered = All-cons (λ (x : Block). (low ≤ x.number) × (x.number < high)) b bs
    (omega (arith, numbered.0, least), omega (arith, numbered.0, most))
    (numbers_in (first + 1) bs low high (omega (arith, least)) (omega (arith, most)) numbered.1)

-- there is one of each of these numbers
one_of : (first : ℕ) (blocks : List Block) (number : ℕ) → AreNumberedFrom first blocks → first ≤ number → number < first + length blocks
    → (b : Block) × (Contains blocks b × (b.number ≡ number))
one_of first [] number numbered low high = absurd (omega (arith, low, high))
one_of first (x ∷ xs) number numbered low high = ⊎_elim
    (λ later.
    let found = one_of (first + 1) xs number numbered.1 (omega (arith, later)) (omega (arith, high)) in
    (found.0, (Contains-append_right (x ∷ []) xs found.0 found.1.0, found.1.1)))
    (λ here.
    let same : first ≡ number = omega (arith, here, low) in
    (x, (Contains-append_left (x ∷ []) xs x (Contains-push [] x), numbered.0 ∙ same)))
    (cases_lt first number)

-- What is so of a block with this number of a recovered run: it is in its slot, and the number is one of the run.
pub record IsOfRun (h : Header) (image : List ℕ) (b : Block) (number : ℕ) : Type 0 where
  pub low : first_of h image ≤ number
  pub high : number < next_of h image
  pub there : block_numbered h image number ≡ Some b

there_by : (h : Header) (image : List ℕ) (b : Block) (number : ℕ) → StandsInSlot h.slots (block_in h image) b → b.number ≡ number
    → block_numbered h image number ≡ Some b
unfolding block_numbered
there_by h image b number stands same = stands-standing_block h.slots (block_in h image) number b stands same

-- a block of the run
pub of_run : (h : Header) (image : List ℕ) (b : Block) (number : ℕ) → IsInLimits h → Contains (recovered_run h image) b → b.number ≡ number
    → IsOfRun h image b number
of_run h image b number limits contained same =
    let run = known_run h image limits in
    let within = All-contains (λ (x : Block). (first_of h image ≤ x.number) × (x.number < next_of h image)) (recovered_run h image) b
    (numbers_in (first_of h image) (recovered_run h image) (first_of h image) (next_of h image) (omega arith) (omega (arith, run.whole)) run.numbered)
    contained in
    record {
      low = omega (arith, within.0, same);
      high = omega (arith, within.1, same);
      there = there_by h image b number
          (All-contains (StandsInSlot h.slots (block_in h image)) (recovered_run h image) b run.stand contained) same;
    }

-- a number of the run
pub in_run : (h : Header) (image : List ℕ) (number : ℕ) → IsInLimits h → first_of h image ≤ number → number < next_of h image
    → (b : Block) × ((b.number ≡ number) × (Contains (recovered_run h image) b × (block_numbered h image number ≡ Some b)))
in_run h image number limits low high =
    let run = known_run h image limits in
    let found = one_of (first_of h image) (recovered_run h image) number run.numbered low (omega (arith, high, run.whole)) in
    (found.0, (found.1.1, (found.1.0, (of_run h image found.0 number limits found.1.0 found.1.1).there)))

-- as many are left as there are numbers from that one on
length_not_below : (number first : ℕ) (blocks : List Block) → first ≤ number → number ≤ first + length blocks → AreNumberedFrom first blocks
    → number + length (blocks_not_below number blocks) ≡ first + length blocks
length_not_below number first [] low high numbered = omega (arith, low, high)
length_not_below number first (b ∷ bs) low high numbered = ⊎_elim
    (λ later.
    let long = ap (λ (l : List Block). length l) (from_below number b bs (omega (arith, later, numbered.0))) in
    let rest = length_not_below number (first + 1) bs (omega (arith, later)) (omega (arith, high)) numbered.1 in
    omega (arith, long, rest))
    (λ here.
    let same : number ≡ first = omega (arith, here, low) in
    let long = ap (λ (l : List Block). length l) (from_all number first (b ∷ bs) (omega (arith, same)) numbered) in
    omega (arith, long, same))
    (cases_lt first number)

-- as many blocks are missing as the lead has numbers more
pub missing_length : (h : Header) (lead follower : List ℕ) → IsInLimits h → (IsFarBehind h lead follower → ⊥) → next_of h follower ≤ next_of h lead
    → next_of h follower + length (missing_blocks h lead follower) ≡ next_of h lead
missing_length h lead follower limits near low =
    let run = known_run h lead limits in
    let from : first_of h lead ≤ next_of h follower = ⊎_elim (λ far. absurd (near far)) (λ is. is) (cases_lt (next_of h follower) (first_of h lead)) in
    length_not_below (next_of h follower) (first_of h lead) (recovered_run h lead) from (omega (arith, low, run.whole)) run.numbered ∙ run.whole
