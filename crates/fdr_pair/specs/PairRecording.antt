-- What calls that record blocks on two disks leave, at each moment and in the end.
use Rattle.std.specs.Prelude.{◌≡◌, ◌<◌, ◌≤◌, ◌+◌, ◌-◌, List, [], length, take, Option, Some, None, ⊤}
use Rattle.fdr_deck.specs.State.{Tells}
use Rattle.fdr_slot.specs.Limits.{sequence_end}
use Rattle.fdr_recover.specs.Blocks.{Block}
use Rattle.fdr_ring.specs.declared.ring.Ring.{Ring}
use Rattle.fdr_twin.specs.declared.side.Side.{Side}
use Rattle.fdr_twin.specs.declared.side.Side.TheVariants.{First, Second}
use Rattle.fdr_twin.specs.Pair.{Pair}
use Rattle.fdr_twin.specs.Serving.{EachPairMoment}
use Rattle.fdr_pair.specs.SidePuts.{IsSettledRing}
use Rattle.fdr_pair.specs.Numbers.{CountsOn}
use Rattle.fdr_pair.specs.Ahead.{StaysNearOn}
use Rattle.fdr_pair.specs.Living.{SideKept, SideMoment, SideNow}
use Rattle.fdr_pair.specs.declared.rings.PairRings.{PairRings}

-- The ring of a side is on a settled disk, or the side has failed.
abbrev pub IsSettledSide : Tells → Side → Option Ring → Pair → Type 0
IsSettledSide tells side None p = ⊤
IsSettledSide tells side (Some r) p = IsSettledRing tells side r p

-- The rings are on settled disks, except of a side that has failed.
pub record AreSettled (tells : Tells) (rings : PairRings) (p : Pair) : Type 0 where
  pub first : IsSettledSide tells First rings.first p
  pub second : IsSettledSide tells Second rings.second p

-- What calls that record these blocks on both sides leave whatever they answer. At each moment each side has failed by then, or
-- its image keeps its run, the first of these blocks and every announced one, where no number above the first could be
-- announced before; and whether it has failed or not, its image keeps the run and the first of the blocks. Nothing is pulled.
pub record PairRecordsFirst (tells : Tells) (rings : PairRings) (new : List Block) (old now : Pair) : Type 0 where
  pub first : old.greatest ≤ rings.next → EachPairMoment tells old now (SideMoment First rings.first new old)
  pub second : old.greatest ≤ rings.next → EachPairMoment tells old now (SideMoment Second rings.second new old)
  pub first_kept : EachPairMoment tells old now (SideKept First rings.first new old)
  pub second_kept : EachPairMoment tells old now (SideKept Second rings.second new old)
  pub numbers : CountsOn tells rings.next (length new) old now
  -- where the number before them is announced, each is announced before the next one is put
  pub near : old.announced ≡ rings.next → (side : Side) → StaysNearOn tells rings.header side old now

-- All of these blocks are on each side that hasn't failed, and are announced. The rings are those of `left` now.
pub record PairRecordsAll (tells : Tells) (rings left : PairRings) (new : List Block) (old now : Pair) : Type 0 where
  pub first : SideNow tells First rings.first left.first new old now
  pub second : SideNow tells Second rings.second left.second new old now
  pub header : left.header ≡ rings.header
  pub next : left.next ≡ rings.next + length new
  pub announced : old.announced ≡ rings.next → now.announced ≡ rings.next + length new

-- The numbers ended among these blocks: those that have one are on each side that hasn't failed, and are announced.
pub record PairHasEnded (tells : Tells) (rings : PairRings) (new : List Block) (old now : Pair) : Type 0 where
  pub left : PairRings
  pub beyond : sequence_end < rings.next + length new
  pub recorded : PairRecordsAll tells rings left (take (sequence_end - rings.next) new) old now

-- Both sides have failed: each had failed before, or its count of faults rose.
pub record BothFailed (tells : Tells) (rings : PairRings) (old now : Pair) : Type 0 where
  pub first : SideNow tells First rings.first None [] old now
  pub second : SideNow tells Second rings.second None [] old now
