-- Blocks of two runs that differ.
use Rattle.std.specs.Prelude.{◌≡◌, ◌≢◌, ◌≤◌, ℕ, ◌+◌, List, length, Contains, Option, Some, None}
use Rattle.fdr_slot.specs.declared.image.Header.{Header}
use Rattle.fdr_recover.specs.Blocks.{Block}
use Rattle.fdr_recover.specs.Images.{recovered_run, next_of}
use Rattle.fdr_recover.specs.declared.run.Found.{Found}

-- Both runs have a block with this number, and the two blocks differ: in their sessions, or in their payloads, be it in the
-- length or in the bytes.
pub record DifferAt (first second : List Block) (number : ℕ) : Type 0 where
  pub one : Block
  pub other : Block
  pub in_first : Contains first one
  pub in_second : Contains second other
  pub number_of_one : one.number ≡ number
  pub number_of_other : other.number ≡ number
  pub differ : one ≢ other

-- The number is the least at which two runs differ; there is none where they differ at no number.
abbrev pub IsLeastDifference : List Block → List Block → Option ℕ → Type 0
IsLeastDifference first second None = (number : ℕ) → DifferAt first second number → ⊥
IsLeastDifference first second (Some least) =
    DifferAt first second least × ((number : ℕ) → DifferAt first second number → least ≤ number)

-- What was found of an image is its recovered run: its first number and its next.
pub record HasFound (h : Header) (found : Found) (image : List ℕ) : Type 0 where
  pub next : found.next ≡ next_of h image
  pub first : found.first + length (recovered_run h image) ≡ found.next
