use Rattle.std.proofs.Common.{rules}
use Rattle.fdr_io.proofs.sources.MemSourceSource.read.Goals as goal

pub returns-in-Err-clause-cause : goal.returns-in-Err-clause-cause
returns-in-Err-clause-cause c = search rules
