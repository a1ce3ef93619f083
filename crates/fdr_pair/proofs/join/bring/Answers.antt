use Rattle.fdr_pair.proofs.Bringing.{brings_here}
use Rattle.fdr_pair.proofs.join.bring.Goals as goal

pub returns-then-end-next-clause-work : goal.returns-then-end-next-clause-work
returns-then-end-next-clause-work g c = brings_here _ _ _ _ _ (g.met.T.Twin.sound_pair c.args.twin.now) c.requires.ring.settled
