use Rattle.fdr_check.proofs.Laws.{no_fault_from}
use Rattle.fdr_check.proofs.checking.check.Goals as goal

pub returns-in-Some-clause-unsound : goal.returns-in-Some-clause-unsound
returns-in-Some-clause-unsound c =
    λ row f e sound. let none = no_fault_from c.args.t sound in let found = c.in_ok-row.ensures in let is = c.in-Some.is in cc (none, found, is)
