-- One more than the greatest number of a block in its slot.
use Rattle.std.proofs.Common.{◌≡◌, ⊎_elim, ℕ, zero, suc, ◌+◌, ◌%◌, ◌<◌, ◌≤◌, Option, Some, sym, ap, ◌∙◌, arith, add-one}
use Rattle.std.specs.Prelude.{max}
use Rattle.std.proofs.Math.Nat.{mod-lt}
use Rattle.std.proofs.lemmas.Bool.{cases_lt}
use Rattle.fdr_recover.specs.Blocks.{Block, Slots, IsNextOfBlocks, number_after, next_among}
use Rattle.fdr_lists.proofs.Options.{some_or_none}

-- each block lies in its own slot
pub record ArePlaced (n : ℕ) (slots : Slots) : Type 0 where
  pub place : (i : ℕ) (b : Block) → slots i ≡ Some b → b.number % n ≡ i

next_le : (n : ℕ) (slots : Slots) (a b : ℕ) → IsNextOfBlocks n slots a → IsNextOfBlocks n slots b → a ≤ b
next_le n slots a b first second = ⊎_elim
    (λ less. let top = first.stands (omega arith) in
    let under = second.above top.0 top.1.0 in
    omega (arith, under, top.1.1))
    (λ more. more)
    (cases_lt b a)

-- there is one such number
pub IsNext-one : (n : ℕ) (slots : Slots) (a b : ℕ) → IsNextOfBlocks n slots a → IsNextOfBlocks n slots b → a ≡ b
IsNext-one n slots a b first second = omega (arith, next_le n slots a b first second, next_le n slots b a second first)

number_after-some : (o : Option Block) (b : Block) → o ≡ Some b → number_after o ≡ b.number + 1
number_after-some o b is = ap number_after is

next_among-above : (slots : Slots) (i k : ℕ) (b : Block) → k < i → slots k ≡ Some b → b.number < next_among i slots
next_among-above slots zero k b below is = absurd (omega arith)
next_among-above slots (suc i) k b below is = ⊎_elim
    (λ less. omega (arith, next_among-above slots i k b less is))
    (λ last. let same : k ≡ i = omega arith in
    let number = number_after-some (slots i) b (ap slots (sym same) ∙ is) in
    omega (arith, number))
    (cases_lt k i)

-- one slot more
pub next_more : (slots : Slots) (i next n more : ℕ) → more ≡ max n next → n ≡ number_after (slots i) → next ≡ next_among i slots
    → more ≡ next_among (i + 1) slots
next_more slots i next n more is number before = rw add-one (omega arith)

-- a block among the first slots that reaches this number
Reaching : Slots → ℕ → ℕ → Type 0
Reaching slots i next = (k : ℕ) × ((k < i) × ((b : Block) × ((slots k ≡ Some b) × (b.number + 1 ≡ next))))

next_among-reached : (slots : Slots) (i : ℕ) → 0 < next_among i slots → Reaching slots i (next_among i slots)
unfolding Reaching
next_among-reached slots zero some = absurd (omega arith)
next_among-reached slots (suc i) some = ⊎_elim
    (λ more. ⊎_elim
    (λ none. absurd (omega (arith, ap number_after none, more)))
    (λ held. let number = number_after-some (slots i) held.0 held.1 in
    (i, (omega arith, (held.0, (held.1, omega (arith, number, more))))))
    (some_or_none (slots i)))
    (λ less. let before = next_among-reached slots i (omega (arith, less)) in
    (before.0, (omega (arith, before.1.0), (before.1.1.0, (before.1.1.1.0, omega (arith, before.1.1.1.1, less))))))
    (cases_lt (next_among i slots) (number_after (slots i)))

-- the greatest of all slots
pub next_among-is_next : (n : ℕ) (slots : Slots) → 0 < n → ArePlaced n slots → IsNextOfBlocks n slots (next_among n slots)
unfolding Reaching
next_among-is_next n slots some placed = record {
  above = λ b stands. next_among-above slots n (b.number % n) b (mod-lt b.number some) stands;
  stands = λ positive.
      let top = next_among-reached slots n positive in
      (top.1.1.0, (ap slots (placed.place top.0 top.1.1.0 top.1.1.1.0) ∙ top.1.1.1.0, top.1.1.1.1));
}
