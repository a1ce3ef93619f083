use Rattle.std.proofs.Common.{◌%◌, refl}
use Rattle.fdr_biphase.proofs.Struck.{bits_of_struck, struck_fits, none_missing_of_struck, both_fit, same_bits}
use Rattle.fdr_biphase.proofs.law.bits_of_cells.Goals as goal

pub returns-clause-bits : goal.returns-clause-bits
returns-clause-bits c = bits_of_struck

pub returns-clause-none_missing : goal.returns-clause-none_missing
returns-clause-none_missing c = none_missing_of_struck

pub returns-clause-both_fit : goal.returns-clause-both_fit
returns-clause-both_fit c = both_fit

pub returns-clause-same_bits : goal.returns-clause-same_bits
returns-clause-same_bits c = same_bits

pub returns-clause-fits : goal.returns-clause-fits
returns-clause-fits c = λ first bits struck within. struck_fits first bits struck (struck % 2) within refl
