use Rattle.std.proofs.Common.{rules, ◌≡◌, sym, codes, string_bytes, Global, arith}
use Rattle.std.proofs.lemmas.Grind.{common_steps}
use Rattle.fdr_pair.proofs.FourWords.{four_words}
use Rattle.fdr_pair.proofs.words.paths_of.Goals as goal

pub returns-clause-form : goal.returns-clause-form
returns-clause-form c =
    let record_word : string_bytes {Z = Global} c.command-item.result ≡ codes "record" = search rules in
    four_words (string_bytes {Z = Global}) c.args.words.now c.command-item.result c.table-item.result c.first-item.result c.second-item.result
    (codes "record") _ _ _
    c.in-len4.len_at_least c.in-len4.len_below c.command-item.is c.table-item.is c.first-item.is c.second-item.is record_word
    (sym c.as_str-table.ensures.value) (sym c.as_str-first.ensures.value) (sym c.as_str-second.ensures.value)

pub returns-in_default-clause-none : goal.returns-in_default-clause-none
returns-in_default-clause-none c = grind (arith, common_steps)

pub returns-then-ne-clause-none : goal.returns-then-ne-clause-none
returns-then-ne-clause-none c = grind (arith, common_steps) steps 2000000

pub returns-clause-none : goal.returns-clause-none
returns-clause-none c = grind (arith, common_steps) steps 2000000
