use Rattle.std.proofs.Common.{rules}
use Rattle.fdr_slot.proofs.places.slot_of.Goals as goal

pub returns-clause-slot : goal.returns-clause-slot
returns-clause-slot c = search rules
