use Rattle.std.proofs.Common.{arith}
use Rattle.std.proofs.lemmas.Grind.{common_steps}
use Rattle.fdr_check.proofs.overlap.overlap_with.Goals as goal

pub overlap_above-requires-clause-marks : goal.overlap_above-requires-clause-marks
overlap_above-requires-clause-marks c = grind (arith, common_steps) steps 2000000
