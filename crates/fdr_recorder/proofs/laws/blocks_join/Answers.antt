use Rattle.fdr_recorder.proofs.Joined.{recorded_of-fed}
use Rattle.fdr_recorder.proofs.laws.blocks_join.Goals as goal

pub returns : goal.returns
returns c = recorded_of-fed
