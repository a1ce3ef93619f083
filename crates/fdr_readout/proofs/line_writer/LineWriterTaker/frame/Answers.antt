use Rattle.fdr_io.proofs.OutputSteps.{Emits-nil}
use Rattle.fdr_readout.specs.Entries.{entry_lines}
use Rattle.fdr_readout.proofs.line_writer.LineWriterTaker.frame.Goals as goal

pub returns-clause-all : goal.returns-clause-all
unfolding entry_lines
returns-clause-all g c = λ t. Emits-nil (g.O.Sink.written c.args.out.now) c.args.self.now
