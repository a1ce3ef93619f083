use Rattle.std.proofs.Common.{rules}
use Rattle.fdr_sampler.proofs.pieces.value_at.Goals as goal

pub returns-clause-value : goal.returns-clause-value
returns-clause-value c = search rules
