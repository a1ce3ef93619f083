-- What of an image's blocks is in its runs, and what is listed of them.
use Rattle.std.specs.Prelude.{ℕ, ◌≡◌, ◌-◌, List, ◌++◌, length, take, filter, Contains}
use Rattle.fdr_slot.specs.declared.image.Header.{Header}
use Rattle.fdr_recover.specs.Blocks.{Block}
use Rattle.fdr_recover.specs.Images.{next_of}
use Rattle.fdr_ring.specs.Runs.{last_blocks}
use Rattle.fdr_salvage.specs.Runs.{runs_of, has_number}

-- The part stands in the whole, together.
abbrev pub StandsIn : {X : Type 0} → List X → List X → Type 0
StandsIn {X} part whole = (front : List X) × (back : List X) × (whole ≡ front ++ part ++ back)

-- the blocks that an image promises, which began as another one with these old blocks: the last N - 2 of the old ones and of as
-- many new ones after them as the next number went up
abbrev pub promised_blocks : Header → List ℕ → List Block → List Block → List ℕ → List Block
promised_blocks h entry old new image = last_blocks (h.slots - 2) (old ++ take (next_of h image - next_of h entry) new)

-- A block is in one run of an image, and no other run has its number.
pub record IsInOneRun (h : Header) (image : List ℕ) (b : Block) : Type 0 where
  pub run : List Block
  pub is_run : Contains (runs_of h image) run
  pub among : Contains run b
  pub once : length (filter (has_number b.number) (runs_of h image)) ≡ 1
