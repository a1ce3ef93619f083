use Rattle.std.proofs.Common.{arith}
use Rattle.std.proofs.lemmas.Grind.{common_steps}
use Rattle.fdr_twin.proofs.stops.stop_within.Goals as goal

pub returns-in-Wrote-clause-stopped : goal.returns-in-Wrote-clause-stopped
returns-in-Wrote-clause-stopped c = grind (arith, common_steps) steps 2000000

pub returns-in-Wrote-clause-image : goal.returns-in-Wrote-clause-image
returns-in-Wrote-clause-image c = grind (arith, common_steps) steps 2000000
