use Rattle.std.proofs.Common.{rules}
use Rattle.fdr_sampler.proofs.moment.Moment.is_within.Goals as goal

pub returns : goal.returns
returns c = search rules
