use Rattle.fdr_biphase.proofs.Gathered.{even_gathered}
use Rattle.fdr_biphase.proofs.words.even_bits.Goals as goal

pub returns : goal.returns
returns c = λ i low. even_gathered c.args.word c.ranges.word.fits i low
