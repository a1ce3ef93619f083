use Rattle.std.proofs.Common.{◌≡◌, take, map, None}
use Rattle.std.specs.List.{enumerate_from}
use Rattle.fdr_table.specs.Reading.{first_some}
use Rattle.fdr_check.proofs.Enumerating.{rate_row_of}
use Rattle.fdr_check.proofs.faults.rate_fault.Given as goal

abbrev pub invariant-loop-index : goal.invariant-loop-index
invariant-loop-index l = first_some (map (rate_row_of l.t) (enumerate_from 0 (take l.index l.params))) ≡ None
