use Rattle.std.proofs.Common.{arith, rules}
use Rattle.fdr_salvage.proofs.reading.read_number.Goals as goal

pub returns-then-after-eq0 : goal.returns-then-after-eq0
returns-then-after-eq0 g c = search (rules, arith)

pub returns-clause-looks : goal.returns-clause-looks
returns-clause-looks c = search rules
