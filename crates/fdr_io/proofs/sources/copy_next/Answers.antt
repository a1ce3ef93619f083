use Rattle.std.proofs.Common.{arith}
use Rattle.std.proofs.lemmas.Grind.{common_steps}
use Rattle.fdr_io.proofs.sources.copy_next.Goals as goal

pub returns-clause-count : goal.returns-clause-count
returns-clause-count c = omega arith

pub returns-clause-given : goal.returns-clause-given
returns-clause-given c = grind (arith, common_steps) steps 2000000
