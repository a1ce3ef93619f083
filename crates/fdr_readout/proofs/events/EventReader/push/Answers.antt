use Rattle.std.proofs.Common.{take, refl, sym, ◌∙◌}
use Rattle.fdr_readout.proofs.Readings.{reads_still, read_on}
use Rattle.fdr_readout.proofs.events.EventReader.push.Goals as goal

pub returns-clause-stands : goal.returns-clause-stands
returns-clause-stands c = λ t past reads.
    reads_still t _ _ past _ reads refl refl refl (c.push.ensures.stands past reads.scanner) reads.adjacent
    (read_on t past (take c.push.result c.args.piece.now) reads.read (sym reads.scanner.ended ∙ c.requires.open) reads.as_read)

pub returns-clause-room : goal.returns-clause-room
returns-clause-room c = λ t past reads all. c.push.ensures.room past reads.scanner all
