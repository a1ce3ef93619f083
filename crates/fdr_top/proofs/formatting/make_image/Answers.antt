use Rattle.std.proofs.Common.{rules}
use Rattle.fdr_top.proofs.formatting.make_image.Goals as goal

pub returns-in-Ok-clause-makes : goal.returns-in-Ok-clause-makes
returns-in-Ok-clause-makes c = search rules
