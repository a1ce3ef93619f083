use Rattle.fdr_recorder.proofs.Steps.{keeps_behind}
use Rattle.fdr_recorder.proofs.laws.keeps_chain.Goals as goal

pub returns : goal.returns
returns c = keeps_behind
