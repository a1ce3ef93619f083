use Rattle.fdr_pair.proofs.Told.{announced}
use Rattle.fdr_pair.proofs.announce.announce_on.Goals as goal

pub returns : goal.returns
returns g c =
    announced _ _ _ _ _ _ _ _ (g.met.T.Twin.sound_pair c.args.twin.now) (g.met.T.Twin.sound_pair c.turn.new.self) c.turn.ensures.turns
    (g.met.T.Twin.faces c.turn.new.self) (g.met.T.Twin.faces c.announce.new.self)
    (g.met.T.Twin.leaves_rest c.turn.new.self c.announce.new.self c.announce.ensures.rest) c.announce.ensures.announces c.announce.ensures.disk
    c.announce.ensures.input c.announce.ensures.input_faults c.announce.ensures.moments
