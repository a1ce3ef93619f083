use Rattle.std.proofs.Common.{rules}
use Rattle.fdr_table.proofs.row.last_cycle.Goals as goal

pub returns-in-Some : goal.returns-in-Some
returns-in-Some c = search rules
