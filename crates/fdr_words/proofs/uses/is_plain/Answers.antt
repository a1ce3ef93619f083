use Rattle.std.proofs.Common.{rules}
use Rattle.fdr_words.proofs.uses.is_plain.Goals as goal

pub returns-in-empty : goal.returns-in-empty
returns-in-empty c = search rules
