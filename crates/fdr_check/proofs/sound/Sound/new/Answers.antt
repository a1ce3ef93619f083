use Rattle.fdr_check.proofs.Laws.{sound_from}
use Rattle.fdr_check.proofs.sound.Sound.new.Goals as goal

pub invariant_of-result : goal.invariant_of-result
invariant_of-result c = (c.requires.in_range, sound_from c.args.table c.requires.in_range c.requires.no_fault)
