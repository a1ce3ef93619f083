use Rattle.fdr_recover.proofs.BlockLemmas.{recovered_run-is_recovered}
use Rattle.fdr_recover.proofs.laws.recovered_run_is_longest.Goals as goal

pub returns-clause-longest : goal.returns-clause-longest
returns-clause-longest c = recovered_run-is_recovered
