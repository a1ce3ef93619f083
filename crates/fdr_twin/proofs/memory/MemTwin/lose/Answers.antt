use Rattle.std.proofs.Common.{rules}
use Rattle.fdr_twin.proofs.memory.MemTwin.lose.Goals as goal

pub invariant_of-self : goal.invariant_of-self
invariant_of-self c = search rules

pub returns-then-is_none-clause-lost : goal.returns-then-is_none-clause-lost
returns-then-is_none-clause-lost c = search rules
