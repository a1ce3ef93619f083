use Rattle.std.proofs.Common.{sym}
use Rattle.fdr_exceed.proofs.HitLists.{hit_list-none}
use Rattle.fdr_exceed.proofs.hits.Hits.new.Goals as goal

pub returns-clause-hits : goal.returns-clause-hits
returns-clause-hits c rule = record { list = sym (hit_list-none rule) }
