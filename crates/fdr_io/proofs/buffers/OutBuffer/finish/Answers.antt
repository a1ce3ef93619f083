use Rattle.std.proofs.Common.{arith}
use Rattle.fdr_io.proofs.Telling.{telling}
use Rattle.fdr_io.proofs.buffers.OutBuffer.finish.Goals as goal

pub returns-clause-all : goal.returns-clause-all
returns-clause-all c = grind (arith, telling)

pub returns-clause-part : goal.returns-clause-part
returns-clause-part c = grind (arith, telling)
