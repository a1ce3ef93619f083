use Rattle.std.proofs.Common.{rules}
use Rattle.fdr_slot.proofs.head.session_in.Goals as goal

pub returns-then-h-eq2 : goal.returns-then-h-eq2
returns-then-h-eq2 c = search rules

pub returns-else-h-eq2 : goal.returns-else-h-eq2
returns-else-h-eq2 c = search rules
