use Rattle.std.proofs.Common.{rules}
use Rattle.fdr_bus.specs.Records.{most_records}
use Rattle.fdr_trace.proofs.TraceLine.count_one.Goals as goal

pub overflow_add-self : goal.overflow_add-self
unfolding most_records
overflow_add-self c = search rules
