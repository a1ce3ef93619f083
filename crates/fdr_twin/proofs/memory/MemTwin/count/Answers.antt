use Rattle.std.proofs.Common.{rules}
use Rattle.fdr_twin.proofs.memory.MemTwin.count.Goals as goal

pub returns-in-First-clause-raised : goal.returns-in-First-clause-raised
returns-in-First-clause-raised c = search rules
