use Rattle.fdr_lanes.proofs.Joined.{joined}
use Rattle.fdr_lanes.proofs.candidates.places.Goals as goal

pub returns-clause-len : goal.returns-clause-len
returns-clause-len c =
    (joined c.args.first c.args.second c.args.third _ _ _ _ _ c.fits-first c.fits-second c.fits-third c.by_low.ensures c.by_high.ensures c.by_low-2.ensures
    c.by_high-2.ensures c.by_low-3.ensures).0

pub returns-clause-set : goal.returns-clause-set
returns-clause-set c =
    (joined c.args.first c.args.second c.args.third _ _ _ _ _ c.fits-first c.fits-second c.fits-third c.by_low.ensures c.by_high.ensures c.by_low-2.ensures
    c.by_high-2.ensures c.by_low-3.ensures).1
