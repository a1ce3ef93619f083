use Rattle.fdr_lanes.proofs.Pairs.{pair_word}
use Rattle.fdr_lanes.proofs.words.pairs.Goals as goal

pub returns-clause-words : goal.returns-clause-words
returns-clause-words c = pair_word c.args.block c.fits-block.0 c.fits-block.1
