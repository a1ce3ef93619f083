use Rattle.std.proofs.Common.{subst, sym}
use Rattle.fdr_pair.specs.declared.runs.SideRuns.{SideRuns}
use Rattle.fdr_pair.specs.PairWork.{PairWork}
use Rattle.fdr_pair.specs.Joining.{JoinMoment}
use Rattle.fdr_pair.proofs.PairWorks.{looked_here}
use Rattle.fdr_pair.proofs.join.join_sides.Goals as goal

pub returns-in-Alone-clause-work : goal.returns-in-Alone-clause-work
returns-in-Alone-clause-work g c =
    let p = g.T.Twin.pair c.args.twin.now in
    subst (λ (r : SideRuns). PairWork g.T.Deck.tells (JoinMoment c.args.h r p) p p) (sym c.in-Alone.is)
    (looked_here _ _ (g.met.T.Twin.sound_pair c.args.twin.now))
