use Rattle.fdr_io.proofs.OutputSteps.{Emits-nil}
use Rattle.fdr_top.proofs.decoding.add_answer.Goals as goal

pub returns-in-None-clause-all : goal.returns-in-None-clause-all
returns-in-None-clause-all g c = rw c.in-None.is (Emits-nil (g.O.Sink.written c.args.out.now) c.args.text.now)
