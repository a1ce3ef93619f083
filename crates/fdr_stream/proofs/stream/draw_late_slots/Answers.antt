use Rattle.std.proofs.Common.{rules}
use Rattle.fdr_stream.proofs.stream.draw_late_slots.Goals as goal

pub returns : goal.returns
returns c = search rules
