use Rattle.std.proofs.Common.{arith}
use Rattle.fdr_line.proofs.Lengths.{numbers}
use Rattle.fdr_top.proofs.outcome.Outcome.text.Goals as goal

pub add_number-requires : goal.add_number-requires
add_number-requires c = grind (arith, numbers)

pub add_number-requires-in-RuleRefused : goal.add_number-requires-in-RuleRefused
add_number-requires-in-RuleRefused c = grind (arith, numbers)

pub add-requires-in-RuleRefused-2 : goal.add-requires-in-RuleRefused-2
add-requires-in-RuleRefused-2 c = grind (arith, numbers)

pub add-requires-in-RuleRefused-3 : goal.add-requires-in-RuleRefused-3
add-requires-in-RuleRefused-3 c = grind (arith, numbers)
