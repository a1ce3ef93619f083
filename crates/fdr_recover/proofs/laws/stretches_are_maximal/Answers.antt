use Rattle.fdr_recover.proofs.Stretching.{stretches-are, stretches-only}
use Rattle.fdr_recover.proofs.laws.stretches_are_maximal.Goals as goal

pub returns-clause-maximal : goal.returns-clause-maximal
returns-clause-maximal c = stretches-are

pub returns-clause-only : goal.returns-clause-only
returns-clause-only c = stretches-only
