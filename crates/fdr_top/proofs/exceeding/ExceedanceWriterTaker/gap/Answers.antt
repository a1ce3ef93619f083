use Rattle.std.proofs.Common.{◌∷◌, [], refl}
use Rattle.fdr_readout.specs.Entries.{GapEntry}
use Rattle.fdr_top.specs.ExceedSound.{takes_nothing}
use Rattle.fdr_top.proofs.exceeding.ExceedanceWriterTaker.gap.Goals as goal

pub returns-clause-all : goal.returns-clause-all
returns-clause-all g c = λ t. takes_nothing (g.O.Sink.written c.args.out.now) c.args.self.now (GapEntry c.args.from c.args.bits ∷ []) refl refl
