use Rattle.fdr_gen.proofs.Following.{trace_follows, trace_ends}
use Rattle.fdr_gen.proofs.law.stays_good.Goals as goal

pub returns-clause-follows : goal.returns-clause-follows
returns-clause-follows c = trace_follows

pub returns-clause-ends : goal.returns-clause-ends
returns-clause-ends c = trace_ends
