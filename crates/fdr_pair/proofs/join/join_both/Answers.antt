use Rattle.fdr_pair.proofs.Joins.{joins_here}
use Rattle.fdr_pair.proofs.join.join_both.Goals as goal

pub returns-then-is_far_behind-clause-work : goal.returns-then-is_far_behind-clause-work
returns-then-is_far_behind-clause-work g c = joins_here _ _ _ _ (g.met.T.Twin.sound_pair c.args.twin.now)

pub returns-else-behind-found-clause-work : goal.returns-else-behind-found-clause-work
returns-else-behind-found-clause-work g c = joins_here _ _ _ _ (g.met.T.Twin.sound_pair c.args.twin.now)
