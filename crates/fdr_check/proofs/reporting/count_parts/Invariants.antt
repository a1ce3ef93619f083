use Rattle.std.proofs.Common.{◌≡◌, length, take}
use Rattle.fdr_check.specs.Occurrences.{occurrences}
use Rattle.fdr_check.proofs.reporting.count_parts.Given as goal

abbrev pub invariant-loop-place : goal.invariant-loop-place
invariant-loop-place l = l.total ≡ length (occurrences l.words (take l.place-index l.places))
