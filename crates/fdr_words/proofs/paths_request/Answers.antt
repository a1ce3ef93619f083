use Rattle.std.proofs.Common.{rules}
use Rattle.fdr_words.proofs.paths_request.Goals as goal

pub returns-in_err-table-clause-usage : goal.returns-in_err-table-clause-usage
returns-in_err-table-clause-usage c = search rules

pub returns-then-eq-clause-usage : goal.returns-then-eq-clause-usage
returns-then-eq-clause-usage c = search rules

pub returns-then-eq-clause-form : goal.returns-then-eq-clause-form
returns-then-eq-clause-form c = search rules

pub returns-then-eq-2-clause-usage : goal.returns-then-eq-2-clause-usage
returns-then-eq-2-clause-usage c = search rules

pub returns-then-eq-2-clause-form : goal.returns-then-eq-2-clause-form
returns-then-eq-2-clause-form c = search rules

pub returns-clause-form : goal.returns-clause-form
returns-clause-form c = search rules
