use Rattle.std.proofs.Common.{arith}
use Rattle.fdr_deck.proofs.announced.Announced.announce.Goals as goal

pub returns-clause-greatest : goal.returns-clause-greatest
returns-clause-greatest c = omega arith
