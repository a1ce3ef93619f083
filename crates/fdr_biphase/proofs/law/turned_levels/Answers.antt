use Rattle.fdr_biphase.proofs.Turned.{same_bits_turned, same_missing_turned}
use Rattle.fdr_biphase.proofs.law.turned_levels.Goals as goal

pub returns-clause-bits : goal.returns-clause-bits
returns-clause-bits c = same_bits_turned

pub returns-clause-missing : goal.returns-clause-missing
returns-clause-missing c = same_missing_turned
