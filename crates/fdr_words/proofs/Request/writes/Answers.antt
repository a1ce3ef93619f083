use Rattle.std.proofs.Common.{rules}
use Rattle.fdr_words.proofs.Request.writes.Goals as goal

pub returns-in-CheckTable-9 : goal.returns-in-CheckTable-9
returns-in-CheckTable-9 c = search rules

pub returns-in-FormatImage-4 : goal.returns-in-FormatImage-4
returns-in-FormatImage-4 c = search rules
