use Rattle.fdr_pair.proofs.attach.next_of_rings.Goals as goal

pub returns-in-None-second-2-clause-refused : goal.returns-in-None-second-2-clause-refused
returns-in-None-second-2-clause-refused _ = tt
