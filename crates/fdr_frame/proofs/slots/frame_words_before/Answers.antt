use Rattle.std.proofs.Common.{◌+◌, ◌-◌, ◌%◌, ap, sym, ◌∙◌, bit_and}
use Rattle.std.proofs.lemmas.Nat.{and_mask}
use Rattle.fdr_frame.proofs.WordCounts.{word_count_power}
use Rattle.fdr_frame.proofs.slots.frame_words_before.Goals as goal

pub returns-clause-place : goal.returns-clause-place
returns-clause-place c =
    let is = word_count_power c.args.words c.requires in
    ap (bit_and c.args.k) c.from.ensures ∙ ap (λ m. bit_and c.args.k (m - 1)) is.four ∙ and_mask c.args.k (is.shift + 2) ∙ ap (λ m. c.args.k % m) (sym is.four)
