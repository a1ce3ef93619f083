-- How the counts of faults of both sides go on.
use Rattle.fdr_twin.specs.declared.side.Side.{Side}
use Rattle.fdr_twin.specs.Pair.{Pair}
use Rattle.fdr_twin.specs.Rest.{CountsSide}

-- Neither side's count of faults falls, and at each new moment each is one from before the calls to after them. So a side whose
-- count didn't rise had failed at no moment.
abbrev pub CountsBoth : Pair → Pair → Type 0
CountsBoth old new = (side : Side) → CountsSide side old new
