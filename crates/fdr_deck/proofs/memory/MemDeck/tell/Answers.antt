use Rattle.std.proofs.Common.{rules}
use Rattle.fdr_deck.proofs.memory.MemDeck.tell.Goals as goal

pub returns-clause-failing : goal.returns-clause-failing
returns-clause-failing c = search rules
