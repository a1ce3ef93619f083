use Rattle.std.proofs.Common.{arith}
use Rattle.std.proofs.lemmas.Grind.{common_steps}
use Rattle.fdr_recon.proofs.scale.SmallScale.quotient.Goals as goal

pub overflow_add-turned : goal.overflow_add-turned
overflow_add-turned c = grind (arith, common_steps) steps 2000000

pub quotient-requires : goal.quotient-requires
quotient-requires c = grind (arith, common_steps) steps 2000000
