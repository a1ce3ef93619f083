use Rattle.std.proofs.Common.{rules}
use Rattle.fdr_storage_system.proofs.apart.apart.Goals as goal

pub returns-in-minus2147483648-to-2 : goal.returns-in-minus2147483648-to-2
returns-in-minus2147483648-to-2 _ = tt

pub returns : goal.returns
returns c = search rules
