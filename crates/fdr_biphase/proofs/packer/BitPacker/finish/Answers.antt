use Rattle.std.proofs.Common.{rules}
use Rattle.fdr_biphase.proofs.Packers.{finished_none, finished_some}
use Rattle.fdr_biphase.proofs.packer.BitPacker.finish.Goals as goal

pub returns-then-self-eq0-clause-all : goal.returns-then-self-eq0-clause-all
returns-then-self-eq0-clause-all c = λ bits bytes st. finished_none c.args.self.now bits bytes st c.if-self-eq0.true

pub returns-clause-all : goal.returns-clause-all
returns-clause-all c = λ bits bytes st. finished_some c.args.self.now bits bytes st c.if-self-eq0.false

pub returns-then-self-eq0-clause-none : goal.returns-then-self-eq0-clause-none
returns-then-self-eq0-clause-none c = search rules
