use Rattle.std.proofs.Common.{rules}
use Rattle.fdr_sampler.proofs.slot_time.SlotTime.is_before.Goals as goal

pub returns : goal.returns
returns c = search rules
