use Rattle.std.proofs.Common.{◌≡◌, ◌+◌, ◌*◌, ◌/◌, ◌%◌, slice_index, ap, ◌∙◌, ⊎_elim, arith}
use Rattle.std.proofs.lemmas.Bool.{cases_lt}
use Rattle.fdr_bits.specs.Bits.{word_at}
use Rattle.fdr_lanes.proofs.Pairs.{get_or-cut_at, cut_at-fits, from_bit, length-from_bit, cut_behind}
use Rattle.fdr_lanes.proofs.words.eight_words.Goals as goal

pub alternate-requires-clause-these_fit : goal.alternate-requires-clause-these_fit
alternate-requires-clause-these_fit c = cut_at-fits c.args.phase c.pairs.result c.pairs.ensures.len

pub alternate-requires-clause-those_fit : goal.alternate-requires-clause-those_fit
alternate-requires-clause-those_fit c =
    cut_at-fits 12 (from_bit c.args.phase c.pairs.result) (length-from_bit c.args.phase c.pairs.result c.pairs.ensures.len)

pub returns-clause-words : goal.returns-clause-words
returns-clause-words c k few =
    let r = c.args.phase in
    let ps = c.pairs in
    let out = c.alternate.result in
    let m = k / 2 in
    ⊎_elim
    (λ even. let is : k ≡ 2 * m = omega arith in
    let place : 24 * m + r ≡ r + 12 * k = omega arith in
    ap (slice_index out) is ∙ c.alternate.ensures.these m (omega arith) ∙ get_or-cut_at r ps.result ps.ensures.len m (omega arith)
    ∙ ps.ensures.words m r (omega arith) (omega arith) ∙ ap (word_at c.args.block) place)
    (λ odd. let is : k ≡ 2 * m + 1 = omega arith in
    let place : 24 * m + (r + 12) ≡ r + 12 * k = omega arith in
    ap (slice_index out) is ∙ c.alternate.ensures.those m (omega arith) ∙ cut_behind r 12 ps.result ps.ensures.len m (omega arith)
    ∙ ps.ensures.words m (r + 12) (omega arith) (omega arith) ∙ ap (word_at c.args.block) place)
    (cases_lt (k % 2) 1)
