use Rattle.std.proofs.Common.{arith, rules}
use Rattle.std.proofs.lemmas.Grind.{common_steps}
use Rattle.fdr_stream.proofs.drawing.Drawing.give.Goals as goal

pub returns-clause-block : goal.returns-clause-block
returns-clause-block c = grind (arith, common_steps) steps 2000000

pub returns-clause-rest : goal.returns-clause-rest
returns-clause-rest c = search rules
