use Rattle.std.proofs.Common.{◌+◌, ◌/◌, ◌^◌, ap, sym, ◌∙◌}
use Rattle.fdr_frame.proofs.WordCounts.{word_count_power}
use Rattle.fdr_frame.proofs.slots.frames_before.Goals as goal

pub returns : goal.returns
returns c =
    let is = word_count_power c.args.words c.requires in
    ap (λ n. c.args.k / 2 ^ (n + 2)) is.zeros ∙ ap (λ m. c.args.k / m) (sym is.four)
