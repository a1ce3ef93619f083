use Rattle.std.proofs.Common.{rules}
use Rattle.fdr_exceed.proofs.Stepping.{due-pushed}
use Rattle.fdr_exceed.proofs.watch.add.Goals as goal

pub returns-in-Some-clause-items : goal.returns-in-Some-clause-items
returns-in-Some-clause-items c = search (rules, due-pushed)
