use Rattle.fdr_words.proofs.Moving.{spelled_either_way, one_form_either_way}
use Rattle.fdr_words.proofs.law.options_may_be_one_word_or_two.Goals as goal

pub returns-clause-uses : goal.returns-clause-uses
returns-clause-uses c = λ before after option value off. spelled_either_way before after option value off

pub returns-clause-form : goal.returns-clause-form
returns-clause-form c = λ before after option value. one_form_either_way before after option value
