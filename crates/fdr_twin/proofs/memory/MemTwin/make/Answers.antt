use Rattle.fdr_twin.proofs.TwinSides.{side_entered, entered_twin_rest, lost_from}
use Rattle.fdr_twin.proofs.memory.MemTwin.make.Goals as goal

pub returns-in-Ok-clause-entered : goal.returns-in-Ok-clause-entered
returns-in-Ok-clause-entered c = side_entered _ _ _ c.in-Ok.ensures.entered

pub returns-in-Ok-clause-rest : goal.returns-in-Ok-clause-rest
returns-in-Ok-clause-rest c = entered_twin_rest _ _ _ c.in-Ok.ensures.entered

pub returns-in-Err-clause-rest : goal.returns-in-Err-clause-rest
returns-in-Err-clause-rest c = lost_from _ _ _ c.in-Err.ensures.unentered c.lose.ensures.monotone c.lose.ensures.lost
