use Rattle.std.proofs.Common.{arith}
use Rattle.fdr_line.proofs.Lengths.{numbers}
use Rattle.fdr_pair.proofs.outcome.PairOutcome.text.Goals as goal

pub add_number-requires : goal.add_number-requires
add_number-requires c = grind (arith, numbers)

pub add-requires-in-BlocksDiffer-2 : goal.add-requires-in-BlocksDiffer-2
add-requires-in-BlocksDiffer-2 c = grind (arith, numbers)
