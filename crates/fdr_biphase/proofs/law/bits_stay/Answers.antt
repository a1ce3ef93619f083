use Rattle.fdr_biphase.proofs.Staying.{missing_stays, bits_before_missing, answers_stay}
use Rattle.fdr_biphase.proofs.Standing.{none_missing}
use Rattle.fdr_biphase.proofs.law.bits_stay.Goals as goal

pub returns-clause-missing : goal.returns-clause-missing
returns-clause-missing c = missing_stays

pub returns-clause-bits : goal.returns-clause-bits
returns-clause-bits c = bits_before_missing

pub returns-clause-answered : goal.returns-clause-answered
returns-clause-answered c = answers_stay

pub returns-clause-none_missing : goal.returns-clause-none_missing
returns-clause-none_missing c = none_missing
