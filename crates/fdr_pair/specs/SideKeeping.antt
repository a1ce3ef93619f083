-- What the image of a side keeps while a recording goes on, by the run that it began with.
use Rattle.std.specs.Prelude.{◌≡◌, ◌⊎◌, ◌≤◌, ℕ, ◌+◌, ◌-◌, List, ◌++◌, length, take}
use Rattle.fdr_io.specs.Faults.{Rose}
use Rattle.fdr_slot.specs.declared.image.Header.{Header}
use Rattle.fdr_recover.specs.Blocks.{Block}
use Rattle.fdr_recover.specs.Images.{recovered_run, next_of}
use Rattle.fdr_ring.specs.Gates.{KeepsHeader}
use Rattle.fdr_ring.specs.Runs.{IsTail}
use Rattle.fdr_twin.specs.declared.side.Side.{Side}
use Rattle.fdr_twin.specs.Pair.{Pair, PairMoment, disk_on, faults_on, image_on}

-- The recovered run is the old blocks and the first of the new ones, except for the oldest, with at least N - 2 of them where
-- there are as many. The next number is `first` and as many as there are of the new ones, and is at least the announced number.
-- Length and header are those at entry; the old blocks need not be the run at entry.
pub record KeepsRecording (h : Header) (entry : List ℕ) (old : List Block) (first : ℕ) (new : List Block) (number : ℕ) (image : List ℕ)
    : Type 0 where
  pub kept : KeepsHeader entry image
  pub count : ℕ
  pub fits : count ≤ length new
  pub run : IsTail (h.slots - 2) (old ++ take count new) (recovered_run h image)
  pub next : next_of h image ≡ first + count
  pub announced : number ≤ next_of h image

-- At this moment the side has failed since entry, or its image keeps the old blocks, whose next number is `first`, the first of
-- the new ones, and every announced one.
abbrev pub HasFailedOrKeeps : Side → Header → List Block → ℕ → List Block → Pair → PairMoment → Type 0
HasFailedOrKeeps side h old first new entry m =
    Rose (disk_on side entry).faults (faults_on side m)
    ⊎ KeepsRecording h (disk_on side entry).held old first new m.announced (image_on side m)
