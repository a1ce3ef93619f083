use Rattle.fdr_sure.proofs.MadeDecks.{made_may}
use Rattle.fdr_sure.proofs.in_memory.made_deck.Goals as goal

pub returns-clause-may_record : goal.returns-clause-may_record
returns-clause-may_record c = made_may c.new.result c.new.ensures.settled c.new.ensures.greatest
