use Rattle.fdr_bus.proofs.Labels.{label_bit}
use Rattle.fdr_bus.proofs.law.label_has_the_first_bits.Goals as goal

pub returns : goal.returns
returns c = λ word i some within. label_bit word i some within
