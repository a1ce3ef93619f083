use Rattle.std.proofs.Common.{rules}
use Rattle.fdr_table.proofs.param.quotient.Goals as goal

pub returns : goal.returns
returns c = search rules
