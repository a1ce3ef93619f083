use Rattle.std.proofs.Common.{arith}
use Rattle.fdr_lanes.proofs.Alternate.{these_at, those_at}
use Rattle.fdr_lanes.proofs.words.alternate.Goals as goal

pub returns-clause-these : goal.returns-clause-these
returns-clause-these c =
    these_at c.args.these c.args.those c.fits-these.0 c.fits-those.0 (λ m h. c.requires.these_fit m 0 (omega (arith, c.fits-these.0)))
    (λ m h. c.requires.those_fit m 0 (omega (arith, c.fits-those.0)))

pub returns-clause-those : goal.returns-clause-those
returns-clause-those c =
    those_at c.args.these c.args.those c.fits-these.0 c.fits-those.0 (λ m h. c.requires.these_fit m 0 (omega (arith, c.fits-these.0)))
    (λ m h. c.requires.those_fit m 0 (omega (arith, c.fits-those.0)))
