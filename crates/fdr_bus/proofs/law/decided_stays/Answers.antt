use Rattle.fdr_bus.proofs.TraceLemmas.{good_prefix-decided}
use Rattle.fdr_bus.proofs.law.decided_stays.Goals as goal

pub returns : goal.returns
returns c = λ bytes more decided. good_prefix-decided bytes more decided
