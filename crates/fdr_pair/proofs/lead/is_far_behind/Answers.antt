use Rattle.std.proofs.Common.{rules}
use Rattle.fdr_pair.proofs.lead.is_far_behind.Goals as goal

pub returns : goal.returns
returns c = search rules
