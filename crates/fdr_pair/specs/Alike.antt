-- When two images can be recorded in together, and else what is wrong with them.
use Rattle.std.specs.Prelude.{◌≡◌, ℕ, List, Option, Some, None}
use Rattle.fdr_recover.specs.ImageHeader.{image_fault_of, header_in}
use Rattle.fdr_recover.specs.Payloads.{run_in}
use Rattle.fdr_twin.specs.declared.side.Side.{Side}
use Rattle.fdr_twin.specs.Pair.{Pair, disk_on, other_side}
use Rattle.fdr_pair.specs.Brought.{leader, IsFarBehind}
use Rattle.fdr_pair.specs.Differ.{IsLeastDifference}

-- the side that leads, by what both disks hold
abbrev pub lead_on : Pair → Side
lead_on p = leader p.first.held p.second.held

-- the side that doesn't lead
abbrev pub follower_on : Pair → Side
follower_on p = other_side (lead_on p)

-- what the disk holds that leads
abbrev pub lead_image : Pair → List ℕ
lead_image p = (disk_on (lead_on p) p).held

-- what the disk holds that doesn't lead
abbrev pub follower_image : Pair → List ℕ
follower_image p = (disk_on (follower_on p) p).held

-- Both disks hold images without a fault that have one header, of version 2 and for frames of this count of words in a subframe.
pub record HaveOneHeader (words : ℕ) (p : Pair) : Type 0 where
  pub first : image_fault_of p.first.held ≡ None
  pub second : image_fault_of p.second.held ≡ None
  pub same : header_in p.second.held ≡ header_in p.first.held
  pub count : (header_in p.first.held).words ≡ words
  pub version : (header_in p.first.held).version ≡ 2

-- The least number of a block that both images have, and not the same, is this one; or there is none.
abbrev pub IsLeastDifferent : Pair → Option ℕ → Type 0
IsLeastDifferent p least = IsLeastDifference (run_in p.first.held) (run_in p.second.held) least

-- The image of the side that doesn't lead is too far behind the lead's.
abbrev pub IsFollowerFar : Pair → Type 0
IsFollowerFar p = IsFarBehind (header_in (lead_image p)) (lead_image p) (follower_image p)

-- Both images can be recorded in together, by a table with this count of words in a subframe: they have one header, of the blocks
-- of one number none differ, and the side that doesn't lead isn't too far behind.
pub record AreAlike (words : ℕ) (p : Pair) : Type 0 where
  pub header : HaveOneHeader words p
  pub blocks : IsLeastDifferent p None
  pub near : IsFollowerFar p → ⊥

-- The blocks of this number differ, and it is the least one at which they do, in images with one header.
pub record HaveDifferentBlocks (words : ℕ) (p : Pair) (least : ℕ) : Type 0 where
  pub header : HaveOneHeader words p
  pub blocks : IsLeastDifferent p (Some least)

-- This side doesn't lead and is too far behind, in images with one header none of whose blocks differ.
pub record IsSideFarBehind (words : ℕ) (p : Pair) (s : Side) : Type 0 where
  pub header : HaveOneHeader words p
  pub blocks : IsLeastDifferent p None
  pub side : s ≡ follower_on p
  pub far : IsFollowerFar p
