use Rattle.std.proofs.Common.{◌-◌, arith, rules}
use Rattle.fdr_bits.proofs.FieldLemmas.{mask_order}
use Rattle.fdr_sampler.proofs.schedule.Step.of.Goals as goal

pub overflow_sub-result : goal.overflow_sub-result
overflow_sub-result c = mask_order (c.part.inside.lsb - 1) c.part.inside.width (omega (arith, c.part.invariant.high))

pub returns : goal.returns
returns c = search rules
