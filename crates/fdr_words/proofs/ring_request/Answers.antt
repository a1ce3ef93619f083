use Rattle.std.proofs.Common.{rules}
use Rattle.fdr_words.proofs.ring_request.Goals as goal

pub returns-in_err-slots-clause-usage : goal.returns-in_err-slots-clause-usage
returns-in_err-slots-clause-usage c = search rules

pub returns-in_err-table-clause-usage : goal.returns-in_err-table-clause-usage
returns-in_err-table-clause-usage c = search rules

pub returns-then-salvages-clause-usage : goal.returns-then-salvages-clause-usage
returns-then-salvages-clause-usage c = search rules

pub returns-then-salvages-clause-form : goal.returns-then-salvages-clause-form
returns-then-salvages-clause-form c = search rules

pub returns-then-salvages-clause-limits : goal.returns-then-salvages-clause-limits
returns-then-salvages-clause-limits c = search rules

pub returns-clause-usage : goal.returns-clause-usage
returns-clause-usage c = search rules

pub returns-clause-form : goal.returns-clause-form
returns-clause-form c = search rules

pub returns-clause-limits : goal.returns-clause-limits
returns-clause-limits c = search rules
