use Rattle.fdr_laws.proofs.Lasting.{ended-is, lines-are}
use Rattle.fdr_laws.proofs.maximal.exceedances_are_maximal.Goals as goal

pub returns-clause-places : goal.returns-clause-places
returns-clause-places c = ended-is

pub returns-clause-lines : goal.returns-clause-lines
returns-clause-lines c = lines-are
