use Rattle.std.proofs.Common.{arith, rules}
use Rattle.std.proofs.lemmas.Grind.{common_steps}
use Rattle.fdr_trace.proofs.TraceLine.pull.Goals as goal

pub returns-clause-pulled : goal.returns-clause-pulled
returns-clause-pulled c = grind (arith, common_steps) steps 2000000

pub returns-clause-announced : goal.returns-clause-announced
returns-clause-announced c = search rules

pub returns-clause-fresh : goal.returns-clause-fresh
returns-clause-fresh c = search rules

pub returns-clause-moments : goal.returns-clause-moments
returns-clause-moments c = search rules

pub invariant_of-self-2 : goal.invariant_of-self-2
invariant_of-self-2 c = grind (arith, common_steps) steps 2000000
