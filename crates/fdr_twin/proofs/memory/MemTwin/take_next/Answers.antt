use Rattle.std.proofs.Common.{arith}
use Rattle.std.proofs.lemmas.Grind.{common_steps}
use Rattle.fdr_twin.proofs.memory.MemTwin.take_next.Goals as goal

pub returns-clause-full : goal.returns-clause-full
returns-clause-full c = grind (arith, common_steps) steps 2000000

pub returns-clause-left : goal.returns-clause-left
returns-clause-left c = grind (arith, common_steps) steps 2000000
