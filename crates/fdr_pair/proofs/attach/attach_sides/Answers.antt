use Rattle.std.proofs.Common.{sym, subst}
use Rattle.fdr_twin.specs.declared.side.Side.TheVariants.{Second}
use Rattle.fdr_pair.specs.declared.join.Follower.{Follower}
use Rattle.fdr_pair.specs.Attaching.{IsAttachReady}
use Rattle.fdr_pair.proofs.Attached.{ready_left, first_attached, both_attached}
use Rattle.fdr_pair.proofs.attach.attach_sides.Goals as goal

pub ring_on-second-requires-clause-ready : goal.ring_on-second-requires-clause-ready
ring_on-second-requires-clause-ready g c =
    subst (λ (f : Follower). IsAttachReady g.T.Deck.tells c.args.h Second f (g.T.Twin.pair c.ring_on-first.new.twin)) (sym c.side_starts-starts.ensures.second)
    (ready_left g.T.Deck.tells c.args.h Second _ (g.T.Twin.pair c.args.twin.now) _ c.ring_on-first.ensures.away.disk c.requires.second_ready)

pub returns-clause-first : goal.returns-clause-first
returns-clause-first g c =
    first_attached g.T.Deck.tells c.args.h c.args.lead c.args.follower _ _ _ _ _ _ (g.met.T.Twin.sound_pair c.args.twin.now)
    (g.met.T.Twin.sound_pair c.ring_on-first.new.twin)
    c.side_starts-starts.ensures.first c.side_starts-starts.ensures.second c.ring_on-first.ensures.now c.ring_on-first.ensures.work
    c.ring_on-first.ensures.away c.ring_on-first.ensures.still c.ring_on-second.ensures.work c.ring_on-second.ensures.away

pub returns-clause-work : goal.returns-clause-work
returns-clause-work g c =
    both_attached g.T.Deck.tells c.args.h c.args.lead c.args.follower _ _ _ _ _ _ (g.met.T.Twin.sound_pair c.args.twin.now)
    (g.met.T.Twin.sound_pair c.ring_on-first.new.twin)
    c.side_starts-starts.ensures.first c.side_starts-starts.ensures.second c.ring_on-first.ensures.now c.ring_on-first.ensures.work
    c.ring_on-first.ensures.away c.ring_on-first.ensures.still c.ring_on-second.ensures.work c.ring_on-second.ensures.away
