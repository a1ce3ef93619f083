use Rattle.std.proofs.Common.{◌++◌, refl, ◌∙◌}
use Rattle.fdr_readout.proofs.Readings.{reads_anew}
use Rattle.fdr_readout.proofs.events.EventReader.restart.Goals as goal

pub returns : goal.returns
returns c = λ t past reads.
    reads_anew t _ (reads.earlier ++ reads.read) reads.count (c.stays_decided.ensures.empty t.frame.words reads.count)
    (rw (reads.scanner.words ∙ reads.words) at c.restart.ensures) reads.room refl reads.frames
