use Rattle.std.proofs.Common.{arith}
use Rattle.std.proofs.lemmas.Grind.{common_steps}
use Rattle.fdr_recon.proofs.past.Rebuild.raw.Goals as goal

pub loop-field-preserved : goal.loop-field-preserved
loop-field-preserved c = grind (arith, common_steps) steps 2000000

pub returns-clause-raw : goal.returns-clause-raw
returns-clause-raw c = grind (arith, common_steps) steps 2000000
