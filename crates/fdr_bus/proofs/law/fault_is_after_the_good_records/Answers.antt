use Rattle.fdr_bus.proofs.Faults.{fault_none, fault_number}
use Rattle.fdr_bus.proofs.law.fault_is_after_the_good_records.Goals as goal

pub returns-clause-none : goal.returns-clause-none
returns-clause-none c = λ bytes. fault_none bytes

pub returns-clause-number : goal.returns-clause-number
returns-clause-number c = λ bytes index why is. fault_number bytes index why is
