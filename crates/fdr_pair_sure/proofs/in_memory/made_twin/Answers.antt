use Rattle.fdr_pair_sure.proofs.MadeTwins.{made_pair_may}
use Rattle.fdr_pair_sure.proofs.in_memory.made_twin.Goals as goal

pub returns-clause-may_record : goal.returns-clause-may_record
returns-clause-may_record c =
    made_pair_may c.new.result c.new.ensures.first_settled c.new.ensures.second_settled c.new.ensures.greatest
