use Rattle.std.proofs.Common.{arith}
use Rattle.std.proofs.lemmas.Grind.{common_steps}
use Rattle.fdr_check.proofs.reporting.add_param_line.Goals as goal

pub returns-in_ok-extend_from_slice-5 : goal.returns-in_ok-extend_from_slice-5
returns-in_ok-extend_from_slice-5 c = grind (arith, common_steps) steps 2000000

pub returns-in_ok-extend_from_slice-6 : goal.returns-in_ok-extend_from_slice-6
returns-in_ok-extend_from_slice-6 c = grind (arith, common_steps) steps 2000000
