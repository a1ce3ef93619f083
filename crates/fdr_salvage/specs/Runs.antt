-- The runs of an image: all its valid blocks, parted where their numbers don't go on.
use Rattle.std.specs.Prelude.{◌≡◌, ◌⊎◌, ℕ, ◌+◌, ◌-◌, ◌==◌, ◌<◌, ◌≤◌, Bool, List, [], ◌∷◌, ◌++◌, length, filter_map, Option, option_map}
use Rattle.std.specs.List.{list_any, range_with_len}
use Rattle.fdr_slot.specs.declared.image.Header.{Header}
use Rattle.fdr_slot.specs.Limits.{sequence_end}
use Rattle.fdr_recover.specs.Blocks.{Block}
use Rattle.fdr_recover.specs.Images.{block_in, next_of, blocks_between}
use Rattle.fdr_recover.specs.Stretches.{stretches}
use Rattle.fdr_salvage.specs.declared.salvage.Run.{Run}

-- the blocks of the valid slots, in the order of their numbers
unfoldable pub valid_blocks : Header → List ℕ → List Block
valid_blocks h image = blocks_between h image 0 (next_of h image)

-- the second block has the number after the first one's
abbrev pub goes_on_with : Block → Block → Bool
goes_on_with b c = c.number == b.number + 1

-- the maximal lists of valid blocks with consecutive numbers, in the order of their numbers
unfoldable pub runs_of : Header → List ℕ → List (List Block)
runs_of h image = stretches goes_on_with (valid_blocks h image)

-- the number of a run's first block, and one more than that of its last
abbrev pub run_numbers : List Block → Run
run_numbers [] = record { first = 0; next = 0 }
run_numbers (b ∷ bs) = record { first = b.number; next = b.number + length (b ∷ bs) }

-- the blocks that an image has of a run's numbers
abbrev pub blocks_in_run : Header → List ℕ → Run → List Block
blocks_in_run h image run = blocks_between h image run.first run.next

-- how many numbers a run has
abbrev pub run_length : Run → ℕ
run_length run = run.next - run.first

-- a run has a number, and all of them are numbers of blocks
pub record HasBlockNumbers (run : Run) : Type 0 where
  pub not_empty : run.first < run.next
  pub bound : run.next ≤ sequence_end

-- whether a block with this number is in a list
abbrev pub has_number : ℕ → List Block → Bool
has_number number blocks = list_any (λ (b : Block). b.number == number) blocks

-- The last of these lists is this one; where there is no list, this one is empty.
abbrev pub EndsWithRun : List (List Block) → List Block → Type 0
EndsWithRun runs run = ((runs ≡ []) × (run ≡ [])) ⊎ ((earlier : List (List Block)) × (runs ≡ earlier ++ run ∷ []))

-- the number of the block in a slot, where it holds one
abbrev pub slot_number : Header → List ℕ → ℕ → Option ℕ
slot_number h image slot = option_map (λ (b : Block). b.number) (block_in h image slot)

-- those of the first slots, slot by slot
unfoldable pub slot_numbers : Header → List ℕ → ℕ → List ℕ
slot_numbers h image slots = filter_map (slot_number h image) (range_with_len 0 slots)
