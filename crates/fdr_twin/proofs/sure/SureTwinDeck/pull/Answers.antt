use Rattle.std.proofs.Common.{arith}
use Rattle.std.proofs.lemmas.Grind.{common_steps}
use Rattle.fdr_twin.proofs.sure.SureTwinDeck.pull.Goals as goal

pub returns-clause-pulls : goal.returns-clause-pulls
returns-clause-pulls c = grind (arith, common_steps) steps 2000000

pub returns-clause-full : goal.returns-clause-full
returns-clause-full c = grind (arith, common_steps) steps 2000000
