use Rattle.std.proofs.Common.{◌≡◌, take}
use Rattle.fdr_check.specs.Faults.{count_of}
use Rattle.fdr_check.proofs.parts.count_of.Given as goal

abbrev pub invariant-loop-place : goal.invariant-loop-place
invariant-loop-place l = l.count ≡ count_of l.words (take l.place-index l.places) l.param l.part
