use Rattle.std.proofs.Common.{◌≡◌, take, None}
use Rattle.std.specs.List.{find, enumerate_from}
use Rattle.fdr_check.proofs.Enumerating.{is_incomplete}
use Rattle.fdr_check.proofs.faults.parts_fault.Given as goal

abbrev pub invariant-loop-index : goal.invariant-loop-index
invariant-loop-index l = find (is_incomplete l.t.places) (enumerate_from 0 (take l.index l.params)) ≡ None
