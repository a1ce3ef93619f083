use Rattle.fdr_sampler.proofs.Exchange.{stream_of-exchanged}
use Rattle.fdr_sampler.proofs.law.either_order.Goals as goal

pub returns : goal.returns
returns c = stream_of-exchanged
