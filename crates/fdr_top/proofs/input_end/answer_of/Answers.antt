use Rattle.std.proofs.Common.{rules}
use Rattle.fdr_top.proofs.input_end.answer_of.Goals as goal

pub returns-in-End : goal.returns-in-End
returns-in-End c = search rules
