use Rattle.std.proofs.Common.{arith}
use Rattle.std.proofs.lemmas.Grind.{common_steps, elements}
use Rattle.fdr_twin.proofs.stops.tear_range.Goals as goal

pub returns-in-Old-clause-image : goal.returns-in-Old-clause-image
returns-in-Old-clause-image c = grind (arith, common_steps) steps 2000000

pub returns-in-New-clause-torn : goal.returns-in-New-clause-torn
returns-in-New-clause-torn c = grind (arith, elements) steps 2000000

pub returns-in-Half-clause-torn : goal.returns-in-Half-clause-torn
returns-in-Half-clause-torn c = grind (arith, elements) steps 2000000

pub returns-in-Fill-clause-torn : goal.returns-in-Fill-clause-torn
returns-in-Fill-clause-torn c = grind (arith, elements) steps 2000000
