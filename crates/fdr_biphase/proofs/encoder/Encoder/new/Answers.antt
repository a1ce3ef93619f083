use Rattle.std.proofs.Common.{refl}
use Rattle.fdr_biphase.specs.Cells.{level_after}
use Rattle.fdr_biphase.proofs.encoder.Encoder.new.Goals as goal

pub returns : goal.returns
unfolding level_after
returns c = record { level = refl }
