use Rattle.std.proofs.Common.{inl, inr, refl, arith}
use Rattle.std.proofs.lemmas.Grind.{common_steps}
use Rattle.fdr_top.proofs.Commands.{nothing_reported}
use Rattle.fdr_top.proofs.Results.{done_not_memory, done_not_write, memory_not_write, write_not_memory}
use Rattle.fdr_top.proofs.checking.write_report.Goals as goal

pub returns-in-Err-clause-reports : goal.returns-in-Err-clause-reports
returns-in-Err-clause-reports g c = nothing_reported c.args.sound.now (g.O.Sink.written c.args.out.now)

pub returns-in-Err-clause-answer : goal.returns-in-Err-clause-answer
returns-in-Err-clause-answer g c = λ path. inl refl

pub returns-in-Err-clause-write_fault : goal.returns-in-Err-clause-write_fault
returns-in-Err-clause-write_fault g c = λ e. absurd (memory_not_write e)

-- ---- where the report is written

pub returns-in-Ok-write_whole-clause-answer : goal.returns-in-Ok-write_whole-clause-answer
returns-in-Ok-write_whole-clause-answer g c = λ path. inr tt

pub returns-in-Ok-write_whole-clause-write_fault : goal.returns-in-Ok-write_whole-clause-write_fault
returns-in-Ok-write_whole-clause-write_fault g c = λ e. absurd (done_not_write e)

pub returns-in-Ok-write_whole-clause-no_write_fault : goal.returns-in-Ok-write_whole-clause-no_write_fault
returns-in-Ok-write_whole-clause-no_write_fault g c = λ other. c.in-Ok-write_whole.ensures.no_fault

pub returns-in-Ok-write_whole-clause-no_memory : goal.returns-in-Ok-write_whole-clause-no_memory
returns-in-Ok-write_whole-clause-no_memory g c = λ e. absurd (done_not_memory e)

-- ---- where it isn't

pub returns-clause-answer : goal.returns-clause-answer
returns-clause-answer g c = λ path. inr tt

pub returns-clause-write_fault : goal.returns-clause-write_fault
returns-clause-write_fault g c = λ e. c.in-Err-write_whole.ensures.cause

pub returns-clause-no_write_fault : goal.returns-clause-no_write_fault
returns-clause-no_write_fault g c = λ other. absurd (other refl)

pub returns-clause-no_memory : goal.returns-clause-no_memory
returns-clause-no_memory g c = λ e. absurd (write_not_memory e)

pub returns-in-Ok-write_whole-clause-reports : goal.returns-in-Ok-write_whole-clause-reports
returns-in-Ok-write_whole-clause-reports c = grind (arith, common_steps) steps 2000000
