use Rattle.std.proofs.Common.{arith}
use Rattle.fdr_io.proofs.OutputSteps.{whole_is_part}
use Rattle.fdr_top.proofs.decoding.Decoding.write_rest.Goals as goal

pub returns-in-Ok-clause-all : goal.returns-in-Ok-clause-all
returns-in-Ok-clause-all g c = λ bytes before had other. c.in-Ok.ensures.all bytes before had

pub returns-in-Ok-clause-part : goal.returns-in-Ok-clause-part
returns-in-Ok-clause-part g c = λ bytes before had. whole_is_part before.written _ _ (c.in-Ok.ensures.all bytes before had)

pub returns-in-Ok-clause-missed : goal.returns-in-Ok-clause-missed
returns-in-Ok-clause-missed g c = λ bytes at before had more other. c.in-Ok.ensures.missed bytes at before had more

pub returns-in-Ok-clause-missed_part : goal.returns-in-Ok-clause-missed_part
returns-in-Ok-clause-missed_part g c = λ bytes at before had more. whole_is_part before.written _ _ (c.in-Ok.ensures.missed bytes at before had more)

pub returns-in-Ok-clause-cause : goal.returns-in-Ok-clause-cause
returns-in-Ok-clause-cause c = omega arith
