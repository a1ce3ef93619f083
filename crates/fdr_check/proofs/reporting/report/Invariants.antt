use Rattle.std.proofs.Common.{◌≡◌, ◌++◌, take}
use Rattle.std.specs.List.{flat_map, enumerate_from}
use Rattle.fdr_check.proofs.Lines.{first_line, line_at}
use Rattle.fdr_check.proofs.reporting.report.Given as goal

abbrev pub invariant-loop-index : goal.invariant-loop-index
invariant-loop-index l =
    l.text.items ≡ first_line l.t ++ flat_map (line_at l.t) (enumerate_from 0 (take l.index l.params))
