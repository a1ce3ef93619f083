use Rattle.std.proofs.Common.{rules}
use Rattle.fdr_deck.proofs.memory.MemDeck.count_input_fault.Goals as goal

pub returns-clause-input_faults : goal.returns-clause-input_faults
returns-clause-input_faults c = search rules
