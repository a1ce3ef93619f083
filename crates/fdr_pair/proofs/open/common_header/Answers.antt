use Rattle.std.proofs.Common.{rules}
use Rattle.fdr_pair.proofs.open.common_header.Goals as goal

pub returns-in-Failed-second : goal.returns-in-Failed-second
returns-in-Failed-second c = search rules
