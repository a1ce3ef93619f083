use Rattle.std.proofs.Common.{append-nil}
use Rattle.fdr_readout.specs.Entries.{entry_lines}
use Rattle.fdr_readout.proofs.line_writer.LineWriterTaker.line.Goals as goal

pub returns-clause-all : goal.returns-clause-all
unfolding entry_lines
returns-clause-all g c = λ t. rw (append-nil c.args.line.now, ← c.bytes.ensures.content, ← c.self.view_is) c.add.ensures.all

pub returns-clause-part : goal.returns-clause-part
unfolding entry_lines
returns-clause-part g c = λ t. rw (append-nil c.args.line.now, ← c.bytes.ensures.content, ← c.self.view_is) c.add.ensures.part
