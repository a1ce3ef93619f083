-- Which blocks are in their slots.
use Rattle.std.proofs.Common.{◌≡◌, ◌≢◌, ⊎_elim, ℕ, ◌+◌, ◌%◌, true, false, Option, Some, None, refl, sym, ap, ◌∙◌, arith}
use Rattle.std.specs.Prelude.{◌==◌, ◌↔◌, IsTrue, IsSome}
use Rattle.std.proofs.lemmas.Bool.{cases_eq}
use Rattle.std.proofs.lemmas.Bool.Decides.{nat_tests}
use Rattle.fdr_recover.specs.Blocks.{Block, Slots, StandsInSlot, number_after, if_numbered, standing_block}

pub numbered_same : (number : ℕ) (b : Block) → b.number ≡ number → if_numbered number (Some b) ≡ Some b
numbered_same number b same =
    let test : (b.number == number) ≡ true = grind (arith, nat_tests) in
    rw test refl

pub numbered_other : (number : ℕ) (b : Block) → b.number ≢ number → if_numbered number (Some b) ≡ None
numbered_other number b other =
    let test : (b.number == number) ≡ false = grind (arith, nat_tests) in
    rw test refl

-- a block with a number, of what a slot holds
pub numbered-is : (number : ℕ) (o : Option Block) (b : Block) → if_numbered number o ≡ Some b → (b.number ≡ number) × (o ≡ Some b)
numbered-is number None b is = absurd (cc)
numbered-is number (Some x) b is = ⊎_elim
    (λ same. let there = numbered_same number x same in
    let found : Some x ≡ Some b = sym there ∙ is in
    let block : x ≡ b = cc in
    (ap (λ (y : Block). y.number) (sym block) ∙ same, found))
    (λ no. let there = numbered_other number x no in absurd (cc))
    (cases_eq x.number number)

pub standing_block-stands : (n : ℕ) (slots : Slots) (number : ℕ) (b : Block) → standing_block n slots number ≡ Some b →
    (b.number ≡ number) × StandsInSlot n slots b
standing_block-stands n slots number b is =
    let found = numbered-is number (slots (number % n)) b is in
    (found.0, ap (λ k. slots (k % n)) found.0 ∙ found.1)

pub stands-standing_block : (n : ℕ) (slots : Slots) (number : ℕ) (b : Block) → StandsInSlot n slots b → b.number ≡ number
    → standing_block n slots number ≡ Some b
stands-standing_block n slots number b stands same =
    ap (if_numbered number) (ap (λ k. slots (k % n)) (sym same) ∙ stands) ∙ numbered_same number b same

-- a slot holds the block with a number exactly where one more than its number is one more than this
pub number_after-numbered : (number : ℕ) (o : Option Block) → IsTrue (number_after o == number + 1) ↔ IsSome (if_numbered number o)
number_after-numbered number None = (λ is. absurd (let e : 0 ≡ number + 1 = grind (arith, nat_tests) in omega arith), λ some. absurd (cc))
number_after-numbered number (Some b) = ⊎_elim
    (λ same. let there = numbered_same number b same in
    (λ is. rw there refl, λ some. grind (arith, nat_tests)))
    (λ no. let there = numbered_other number b no in
    (λ is. absurd (grind (arith, nat_tests)), λ some. absurd (let none = rw there at some in cc)))
    (cases_eq b.number number)
