use Rattle.std.proofs.Common.{rules}
use Rattle.fdr_twin.proofs.memory.MemTwin.is_dead.Goals as goal

pub returns-in-Second : goal.returns-in-Second
returns-in-Second c = search rules
