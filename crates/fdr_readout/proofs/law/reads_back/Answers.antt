use Rattle.fdr_readout.proofs.ReadsBack.{stream_lists_back}
use Rattle.fdr_readout.proofs.law.reads_back.Goals as goal

pub returns : goal.returns
returns c = stream_lists_back
