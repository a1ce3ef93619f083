use Rattle.std.proofs.Common.{rules}
use Rattle.fdr_trace.proofs.TraceLine.read.Goals as goal

pub returns-in-Ok-clause-good : goal.returns-in-Ok-clause-good
returns-in-Ok-clause-good c = search rules

pub returns-in-Err-clause-bad : goal.returns-in-Err-clause-bad
returns-in-Err-clause-bad c = search rules
