use Rattle.fdr_sync.proofs.EventLemmas.{events_unique}
use Rattle.fdr_sync.proofs.law.events_are_unique.Goals as goal

pub returns : goal.returns
returns c = events_unique
