use Rattle.std.proofs.Common.{rules, [], refl}
use Rattle.fdr_readout.proofs.Readings.{reads_anew}
use Rattle.fdr_readout.proofs.events.EventReader.new.Goals as goal

pub returns : goal.returns
returns c =
    let t = c.args.sound.now in
    let count = c.holds.ensures.in_range.frame.words in
    reads_anew t _ [] count (c.stays_decided.ensures.empty t.frame.words count) (rw (← c.word_count-count.ensures) c.in-Ok.ensures) (search rules) refl
    c.in_ok-rebuild.ensures
