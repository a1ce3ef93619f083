use Rattle.std.proofs.Common.{arith}
use Rattle.std.proofs.lemmas.Grind.{common_steps}
use Rattle.fdr_deck.proofs.stops.stop_within.Goals as goal

pub returns-in-Write-clause-stopped : goal.returns-in-Write-clause-stopped
returns-in-Write-clause-stopped c = grind (arith, common_steps) steps 2000000

pub returns-in-Write-clause-image : goal.returns-in-Write-clause-image
returns-in-Write-clause-image c = grind (arith, common_steps) steps 2000000
