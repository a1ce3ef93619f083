-- Which side of a twin leads, and what the other's run is once it is brought up to the lead's.
use Rattle.std.specs.Prelude.{ℕ, ◌-◌, ◌<◌, List, ◌++◌, length, filter, nat_le, nat_lt, if◌then◌else◌, Option, Some, None}
use Rattle.fdr_slot.specs.declared.image.Header.{Header}
use Rattle.fdr_slot.specs.declared.image.ImageFault.{ImageFault}
use Rattle.fdr_recover.specs.Blocks.{Block}
use Rattle.fdr_recover.specs.ImageHeader.{image_fault_of, header_in}
use Rattle.fdr_recover.specs.Images.{recovered_run, next_of}
use Rattle.fdr_twin.specs.declared.side.Side.{Side}
use Rattle.fdr_twin.specs.declared.side.Side.TheVariants.{First, Second}

-- the side with the greater next number, the first side where they are the same; a side without a number leads only where the
-- first has none and neither has the second
abbrev pub leader_by : Option ℕ → Option ℕ → Side
leader_by (Some first) (Some second) = if nat_lt first second then Second else First
leader_by (Some first) None = First
leader_by None (Some second) = Second
leader_by None None = First

-- the number of the next block of an image with this first fault, by its own header, or none where it has one
abbrev pub next_unless_fault : Option ImageFault → List ℕ → Option ℕ
next_unless_fault None image = Some (next_of (header_in image) image)
next_unless_fault (Some why) image = None

-- the side that leads, by the images of both sides: the one with the greater next number, and the first where they are the same.
-- Where the header of one of them doesn't read the other leads, and where neither reads the first
abbrev pub leader : List ℕ → List ℕ → Side
leader first second = leader_by (next_unless_fault (image_fault_of first) first) (next_unless_fault (image_fault_of second) second)

-- the number of the first block of the recovered run of an image, or the next number where the run is empty
abbrev pub first_of : Header → List ℕ → ℕ
first_of h image = next_of h image - length (recovered_run h image)

-- The image of the side that follows is too far behind that of the lead: its next number is below the first of the lead's run.
abbrev pub IsFarBehind : Header → List ℕ → List ℕ → Type 0
IsFarBehind h lead follower = next_of h follower < first_of h lead

-- the blocks of a list with numbers that are not below this one
abbrev pub blocks_not_below : ℕ → List Block → List Block
blocks_not_below number blocks = filter (λ (b : Block). nat_le number b.number) blocks

-- the blocks that the side that follows hasn't: those of the lead's recovered run from its own next number on
abbrev pub missing_blocks : Header → List ℕ → List ℕ → List Block
missing_blocks h lead follower = blocks_not_below (next_of h follower) (recovered_run h lead)

-- the brought run of the side that follows: its own recovered run, and after it the blocks of the lead's from its own next number
-- on
abbrev pub brought_run : Header → List ℕ → List ℕ → List Block
brought_run h lead follower = recovered_run h follower ++ missing_blocks h lead follower
