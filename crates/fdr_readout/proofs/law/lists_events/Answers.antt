use Rattle.fdr_readout.proofs.ListedEvents.{lists_events}
use Rattle.fdr_readout.proofs.law.lists_events.Goals as goal

pub returns : goal.returns
returns c = lists_events
