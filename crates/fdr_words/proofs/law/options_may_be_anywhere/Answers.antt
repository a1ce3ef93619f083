use Rattle.std.proofs.Common.{◌++◌, ◌∷◌}
use Rattle.fdr_words.specs.Spelling.{option_args}
use Rattle.fdr_words.proofs.Moving.{past_a_plain_word, past_an_option, same_form}
use Rattle.fdr_words.proofs.law.options_may_be_anywhere.Goals as goal

pub returns-clause-past_a_plain_word : goal.returns-clause-past_a_plain_word
returns-clause-past_a_plain_word c = λ before after word how option value off is. past_a_plain_word before after word how option value off is

pub returns-clause-past_a_plain_word_in_a_form : goal.returns-clause-past_a_plain_word_in_a_form
returns-clause-past_a_plain_word_in_a_form c = λ before after word how option value off is.
    same_form (before ++ option_args how option value ++ word ∷ after) (before ++ word ∷ option_args how option value ++ after)
    (past_a_plain_word before after word how option value off is)

pub returns-clause-past_an_option : goal.returns-clause-past_an_option
returns-clause-past_an_option c = λ before after how how_other option other value other_value.
    past_an_option before after how how_other option other value other_value

pub returns-clause-past_an_option_in_a_form : goal.returns-clause-past_an_option_in_a_form
returns-clause-past_an_option_in_a_form c = λ before after how how_other option other value other_value.
    same_form (before ++ option_args how option value ++ option_args how_other other other_value ++ after)
    (before ++ option_args how_other other other_value ++ option_args how option value ++ after)
    (past_an_option before after how how_other option other value other_value)
