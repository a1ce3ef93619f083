use Rattle.std.proofs.Common.{rules}
use Rattle.fdr_salvage.proofs.memory.push.Goals as goal

pub returns-clause-only : goal.returns-clause-only
returns-clause-only c = search rules
