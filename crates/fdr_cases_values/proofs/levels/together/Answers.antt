use Rattle.std.proofs.Common.{[], arith}
use Rattle.fdr_cases_values.proofs.levels.together.Goals as goal

pub bytes-filled-requires-clause-reads : goal.bytes-filled-requires-clause-reads
bytes-filled-requires-clause-reads c = ([], [], c.new.ensures, omega (arith, c.requires))
