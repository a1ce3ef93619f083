use Rattle.std.proofs.Common.{inl, inr, ⊎_elim}
use Rattle.fdr_twin.proofs.TwinSides.{lost_twin_rest}
use Rattle.fdr_twin.proofs.memory.MemTwin.fail_write.Goals as goal

pub returns-in-Ok-clause-entered : goal.returns-in-Ok-clause-entered
returns-in-Ok-clause-entered c = ⊎_elim (λ is. inl (c.in-Ok.copy, c.in-Ok.ensures, is)) (λ no. inr no) c.fail.ensures.entered

pub returns-in-Err-clause-rest : goal.returns-in-Err-clause-rest
returns-in-Err-clause-rest c = lost_twin_rest c.args.self.now c.lose.new.self c.lose.ensures.monotone c.lose.ensures.lost

pub returns-in-Ok-clause-made : goal.returns-in-Ok-clause-made
returns-in-Ok-clause-made c = ⊎_elim (λ is. inl (c.in-Ok.copy, c.in-Ok.ensures, is)) (λ no. inr no) c.fail.ensures.made
