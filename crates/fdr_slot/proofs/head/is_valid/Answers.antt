use Rattle.std.proofs.Common.{rules}
use Rattle.fdr_slot.proofs.head.is_valid.Goals as goal

pub returns-then-head-gt0-clause-valid : goal.returns-then-head-gt0-clause-valid
returns-then-head-gt0-clause-valid c = search rules

pub returns-then-head-gt0-clause-value : goal.returns-then-head-gt0-clause-value
returns-then-head-gt0-clause-value c = search rules

pub returns-else-head-gt0-clause-valid : goal.returns-else-head-gt0-clause-valid
returns-else-head-gt0-clause-valid c = search rules

pub returns-else-head-gt0-clause-value : goal.returns-else-head-gt0-clause-value
returns-else-head-gt0-clause-value c = search rules
