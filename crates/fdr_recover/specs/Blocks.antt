-- Blocks with consecutive numbers, in slots that are used in turn.
use Rattle.std.specs.Prelude.{◌≡◌, ◌<◌, ◌≤◌, ℕ, zero, suc, ◌+◌, ◌==◌, max, if◌then◌else◌, List, [], ◌∷◌, ◌++◌, length, All, Option, Some, None, ⊤}
use Rattle.fdr_slot.specs.Places.{slot_number_of}

-- a block: its sequence number, its session and its bytes
pub record Block : Type 0 where
  pub number : ℕ
  pub session : ℕ
  pub payload : List ℕ

-- which block each slot holds, if it holds one, by the slot's number
abbrev pub Slots : Type 0
Slots = ℕ → Option Block

-- The block is in its own slot, of n slots: the one with its sequence number modulo n.
abbrev pub StandsInSlot : ℕ → Slots → Block → Type 0
StandsInSlot n slots b = slots (slot_number_of n b.number) ≡ Some b

-- The numbers of the blocks go up by one, from `first` on.
abbrev pub AreNumberedFrom : ℕ → List Block → Type 0
AreNumberedFrom first [] = ⊤
AreNumberedFrom first (b ∷ bs) = (b.number ≡ first) × AreNumberedFrom (first + 1) bs

-- The number `next` is one more than the greatest number of a block in its own slot, of n slots, or 0 where there is no such
-- block.
pub record IsNextOfBlocks (n : ℕ) (slots : Slots) (next : ℕ) : Type 0 where
  pub above : (b : Block) → StandsInSlot n slots b → b.number < next
  pub stands : 0 < next → (b : Block) × (StandsInSlot n slots b × (b.number + 1 ≡ next))

-- The blocks are in their own slots, of n slots, with numbers that go up by one, and the last of them has the greatest number of
-- all.
pub record IsRun (n : ℕ) (slots : Slots) (run : List Block) : Type 0 where
  pub first : ℕ
  pub numbered : AreNumberedFrom first run
  pub stand : All (StandsInSlot n slots) run
  pub next : IsNextOfBlocks n slots (first + length run)

-- The blocks are the recovered run: the longest list of blocks in their own slots with numbers that go up by one to the greatest
-- of all.
pub record IsLongestRun (n : ℕ) (slots : Slots) (run : List Block) : Type 0 where
  pub is_run : IsRun n slots run
  pub longest : (other : List Block) → IsRun n slots other → length other ≤ length run

-- one more than the number of the block in a slot, or 0 where it holds none
abbrev pub number_after : Option Block → ℕ
number_after None = 0
number_after (Some b) = b.number + 1

-- one more than the greatest number in the first i slots, or 0. Of all slots it is the one number that `IsNextOfBlocks` asks for,
-- by the law `recovered_run_is_longest`
abbrev pub next_among : ℕ → Slots → ℕ
next_among zero slots = 0
next_among (suc i) slots = max (next_among i slots) (number_after (slots i))

-- the block of a slot, where it has this number
abbrev pub if_numbered : ℕ → Option Block → Option Block
if_numbered number None = None
if_numbered number (Some b) = if b.number == number then Some b else None

-- the block with this number, where its own slot, of n slots, holds it
abbrev pub standing_block : ℕ → Slots → ℕ → Option Block
standing_block n slots number = if_numbered number (slots (slot_number_of n number))

-- these blocks and the one after them, or no blocks where that one isn't there
abbrev pub blocks_with_next : List Block → Option Block → List Block
blocks_with_next earlier None = []
blocks_with_next earlier (Some b) = earlier ++ b ∷ []

-- the blocks below a number, down to the first whose own slot doesn't hold it. Below the next number it is the one list that
-- `IsLongestRun` asks for, by the law `recovered_run_is_longest`
abbrev pub run_below : ℕ → Slots → ℕ → List Block
run_below n slots zero = []
run_below n slots (suc number) = blocks_with_next (run_below n slots number) (standing_block n slots number)
