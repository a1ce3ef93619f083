use Rattle.std.proofs.Common.{rules}
use Rattle.fdr_pair.proofs.lead.lead_of.Goals as goal

pub returns-then-first-second : goal.returns-then-first-second
returns-then-first-second c = search rules
