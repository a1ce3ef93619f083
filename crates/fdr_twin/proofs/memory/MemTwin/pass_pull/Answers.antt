use Rattle.std.proofs.Common.{inl, arith}
use Rattle.std.proofs.lemmas.Grind.{common_steps}
use Rattle.fdr_twin.proofs.TwinSides.{side_entered, entered_twin_rest, entered_line, line_rest}
use Rattle.fdr_twin.proofs.memory.MemTwin.pass_pull.Goals as goal

pub returns-then-fails-clause-failed : goal.returns-then-fails-clause-failed
returns-then-fails-clause-failed c = inl (side_entered _ _ _ (entered_line _ _ _ _ _ c.in-Ok.ensures.entered c.count_input.ensures.raised))

pub returns-then-fails-clause-rest : goal.returns-then-fails-clause-rest
returns-then-fails-clause-rest c = entered_twin_rest _ _ _ (entered_line _ _ _ _ _ c.in-Ok.ensures.entered c.count_input.ensures.raised)

pub returns-in-Ok-clause-rest : goal.returns-in-Ok-clause-rest
returns-in-Ok-clause-rest c = entered_twin_rest _ _ _ c.in-Ok.ensures.entered

pub returns-in-Err-clause-rest : goal.returns-in-Err-clause-rest
returns-in-Err-clause-rest c = line_rest _ _ _ _ c.in-Err.ensures.unentered c.count_input-in-Err.ensures.raised

pub returns-then-fails-clause-unlisted : goal.returns-then-fails-clause-unlisted
returns-then-fails-clause-unlisted c = grind (arith, common_steps) steps 2000000
