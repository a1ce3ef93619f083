use Rattle.std.proofs.Common.{◌∙◌}
use Rattle.fdr_bus.proofs.WordLemmas.{reverse_bits-low}
use Rattle.fdr_bus.proofs.label.Goals as goal

pub returns : goal.returns
returns c = c.reverse_bits.ensures ∙ reverse_bits-low c.args.word
