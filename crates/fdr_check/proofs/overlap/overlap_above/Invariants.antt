use Rattle.std.proofs.Common.{◌≡◌, take, None}
use Rattle.fdr_check.specs.Faults.{overlap_with}
use Rattle.fdr_check.proofs.overlap.overlap_above.Given as goal

abbrev pub invariant-loop-other : goal.invariant-loop-other
invariant-loop-other l = overlap_with l.words (take l.other-index l.above) l.place ≡ None
