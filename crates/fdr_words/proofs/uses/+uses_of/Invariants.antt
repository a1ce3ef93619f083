use Rattle.std.proofs.Common.{length}
use Rattle.fdr_words.proofs.uses.+uses_of.Given as goal

abbrev pub decreases-uses_of : goal.decreases-uses_of
decreases-uses_of l = length l.args.now
