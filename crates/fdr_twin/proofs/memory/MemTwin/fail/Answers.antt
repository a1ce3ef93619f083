use Rattle.std.proofs.Common.{inl}
use Rattle.fdr_twin.proofs.TwinSides.{side_entered, entered_twin_rest, entered_counted, failed_counted, lost_from}
use Rattle.fdr_twin.proofs.memory.MemTwin.fail.Goals as goal

pub returns-in-Ok-clause-entered : goal.returns-in-Ok-clause-entered
returns-in-Ok-clause-entered c = inl (side_entered _ _ _ (entered_counted _ _ _ _ c.in-Ok.ensures.entered c.count.ensures.raised c.count.ensures.monotone))

pub returns-in-Ok-clause-rest : goal.returns-in-Ok-clause-rest
returns-in-Ok-clause-rest c = entered_twin_rest _ _ _ (entered_counted _ _ _ _ c.in-Ok.ensures.entered c.count.ensures.raised c.count.ensures.monotone)

pub returns-in-Err-clause-rest : goal.returns-in-Err-clause-rest
returns-in-Err-clause-rest c = lost_from _ _ _ c.in-Err.ensures.unentered c.lose.ensures.monotone c.lose.ensures.lost

pub returns-in-Ok-clause-made : goal.returns-in-Ok-clause-made
returns-in-Ok-clause-made c = inl (failed_counted _ _ _ _ c.in-Ok.ensures.entered c.count.ensures.raised c.count.ensures.monotone c.in-Ok.ensures.counts)
