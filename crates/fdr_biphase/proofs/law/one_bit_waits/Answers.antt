use Rattle.fdr_biphase.proofs.PhaseLemmas.{ones_of_even, ones_of_odd}
use Rattle.fdr_biphase.proofs.law.one_bit_waits.Goals as goal

pub returns-clause-even : goal.returns-clause-even
returns-clause-even c = ones_of_even

pub returns-clause-odd : goal.returns-clause-odd
returns-clause-odd c = ones_of_odd
