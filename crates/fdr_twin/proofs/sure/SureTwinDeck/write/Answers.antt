use Rattle.std.proofs.Common.{arith}
use Rattle.std.proofs.lemmas.Grind.{common_steps, elements}
use Rattle.fdr_twin.proofs.sure.SureTwinDeck.write.Goals as goal

pub invariant_of-self : goal.invariant_of-self
invariant_of-self c = grind (arith, common_steps) steps 2000000

pub returns-in-First-clause-writes : goal.returns-in-First-clause-writes
returns-in-First-clause-writes c = grind (arith, common_steps) steps 2000000

pub returns-in-First-clause-tears : goal.returns-in-First-clause-tears
returns-in-First-clause-tears c = grind (arith, elements) steps 2000000

pub returns-in-First-clause-extent : goal.returns-in-First-clause-extent
returns-in-First-clause-extent c = grind (arith, common_steps) steps 2000000

pub invariant_of-self-in-Second : goal.invariant_of-self-in-Second
invariant_of-self-in-Second c = grind (arith, common_steps) steps 2000000

pub returns-in-Second-clause-writes : goal.returns-in-Second-clause-writes
returns-in-Second-clause-writes c = grind (arith, common_steps) steps 2000000

pub returns-in-Second-clause-tears : goal.returns-in-Second-clause-tears
returns-in-Second-clause-tears c = grind (arith, elements) steps 2000000

pub returns-in-Second-clause-extent : goal.returns-in-Second-clause-extent
returns-in-Second-clause-extent c = grind (arith, common_steps) steps 2000000
