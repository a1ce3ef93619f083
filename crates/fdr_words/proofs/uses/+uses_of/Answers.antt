use Rattle.std.proofs.Common.{◌∙◌, sym, ap, string_bytes, Global, arith}
use Rattle.std.proofs.lemmas.Grind.{common_steps}
use Rattle.std.specs.Option.{option_map}
use Rattle.fdr_words.specs.Views.{uses_view, word_view}
use Rattle.fdr_words.specs.Words.{word_meaning}
use Rattle.fdr_words.proofs.UsesSteps.{given_first}
use Rattle.fdr_words.proofs.uses.+uses_of.Goals as goal

pub returns-in_ok-uses_of-in-Given : goal.returns-in_ok-uses_of-in-Given
returns-in_ok-uses_of-in-Given t c =
    c.with_value.ensures
    ∙ given_first (string_bytes {Z = Global}) c.args.args.now c.word-item.result c.in-Given.option c.in-Given.value.now
    (uses_view c.in_ok-uses_of-in-Given.field-0)
    c.in-len1-up.len_at_least c.word-item.is
    (sym (ap word_meaning c.as_str-word.ensures.value) ∙ sym c.word_of.ensures ∙ ap word_view c.in-Given.is)
    (sym (ap (option_map uses_view) c.in_ok-uses_of-in-Given.was) ∙ c.uses_of-in-Given.ensures)

pub returns-in_ok-uses_of-in-Named : goal.returns-in_ok-uses_of-in-Named
returns-in_ok-uses_of-in-Named c = grind (arith, common_steps) steps 2000000

pub returns-in_default : goal.returns-in_default
returns-in_default c = grind (arith, common_steps) steps 2000000

pub returns-in_err-uses_of-in-Plain : goal.returns-in_err-uses_of-in-Plain
returns-in_err-uses_of-in-Plain c = grind (arith, common_steps) steps 2000000

pub returns-in_err-uses_of-in-Given : goal.returns-in_err-uses_of-in-Given
returns-in_err-uses_of-in-Given c = grind (arith, common_steps) steps 2000000

pub returns-in_default-rest : goal.returns-in_default-rest
returns-in_default-rest c = grind (arith, common_steps) steps 2000000

pub returns-in_err-uses_of-in-Named : goal.returns-in_err-uses_of-in-Named
returns-in_err-uses_of-in-Named c = grind (arith, common_steps) steps 2000000

pub returns-in_ok-uses_of-in-Plain : goal.returns-in_ok-uses_of-in-Plain
returns-in_ok-uses_of-in-Plain c = grind (arith, common_steps) steps 2000000
