use Rattle.std.proofs.Common.{refl}
use Rattle.fdr_readout.proofs.Readings.{reads_still, read_to_end}
use Rattle.fdr_readout.proofs.events.EventReader.finish.Goals as goal

pub returns : goal.returns
returns c = λ t past reads.
    reads_still t _ _ past _ reads refl refl refl (c.finish.ensures.stands past reads.scanner) reads.adjacent (read_to_end t past reads.read reads.as_read)
