use Rattle.std.proofs.Common.{rules}
use Rattle.fdr_io.proofs.failing.FailingCalls.enter.Goals as goal

pub returns-clause-listed : goal.returns-clause-listed
returns-clause-listed c = search rules
