-- What a run says: its payloads, one after another, and what was taken of its blocks.
use Rattle.std.specs.Prelude.{◌≡◌, ℕ, ◌≤◌, ◌^◌, List, ◌++◌, length, IsTrue}
use Rattle.std.specs.List.{flat_map}
use Rattle.fdr_deck.specs.State.{Tells}
use Rattle.fdr_recover.specs.Blocks.{Block}
use Rattle.fdr_recover.specs.ImageHeader.{header_in}
use Rattle.fdr_recover.specs.Images.{recovered_run}

-- the bytes of blocks, one after another
abbrev pub payloads_of : List Block → List ℕ
payloads_of blocks = flat_map (λ (b : Block). b.payload) blocks

-- a block without its session: its number and its bytes
abbrev pub contents_of : Block → ℕ × List ℕ
contents_of b = (b.number, b.payload)

-- the recovered run of an image, by its own header
abbrev pub run_in : List ℕ → List Block
run_in image = recovered_run (header_in image) image

-- What took the blocks of a list took all of them. There are at most 65,536 of them with 4,096 bytes each, so at most 2^28 bytes.
abbrev pub TakesAll : Tells → List Block → (List Block → Type 0) → Type 0
TakesAll tells whole HasTaken =
    (blocks : List Block) × HasTaken blocks × (length (payloads_of blocks) ≤ 2 ^ 28) × (IsTrue tells.bytes → blocks ≡ whole)

-- What took the blocks of a list took the first of them.
abbrev pub TakesFront : Tells → List Block → (List Block → Type 0) → Type 0
TakesFront tells whole HasTaken =
    (blocks : List Block) × HasTaken blocks × (IsTrue tells.bytes → (rest : List Block) × (whole ≡ blocks ++ rest))
