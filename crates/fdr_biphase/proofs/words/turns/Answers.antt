use Rattle.fdr_biphase.proofs.Turns.{turned}
use Rattle.fdr_biphase.proofs.words.turns.Goals as goal

pub returns : goal.returns
returns c = λ p low. rw c.from.ensures (turned c.args.levels c.args.last c.ranges.levels.fits p low)
