use Rattle.fdr_twin.proofs.TwinRest.{told_rest}
use Rattle.fdr_twin.proofs.memory.MemTwin.tell.Goals as goal

pub returns-clause-rest : goal.returns-clause-rest
returns-clause-rest c =
    told_rest _ c.args.self.now c.announce.new.self c.args.count c.self.view_is c.announce.ensures.least c.announce.ensures.greatest
    c.self.invariant.first_nested c.self.invariant.second_nested
