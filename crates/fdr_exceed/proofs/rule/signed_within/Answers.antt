use Rattle.std.proofs.Common.{rules}
use Rattle.fdr_table.specs.Fields.{signed_within}
use Rattle.fdr_exceed.proofs.rule.signed_within.Goals as goal

pub returns-in_err-number_in-in_default-clause-exactly : goal.returns-in_err-number_in-in_default-clause-exactly
unfolding signed_within
returns-in_err-number_in-in_default-clause-exactly c = search rules

pub returns-in_ok-number_in-in_default-clause-exactly : goal.returns-in_ok-number_in-in_default-clause-exactly
unfolding signed_within
returns-in_ok-number_in-in_default-clause-exactly c = search rules
