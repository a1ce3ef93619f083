use Rattle.std.proofs.Common.{arith}
use Rattle.fdr_table.proofs.FieldFacts.{names}
use Rattle.fdr_table.proofs.name.is_name.Goals as goal

pub returns : goal.returns
returns c = record { exactly = grind (arith, names); length = grind (arith, names) }
