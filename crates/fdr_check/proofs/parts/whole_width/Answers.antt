use Rattle.std.proofs.Common.{◌≡◌, ◌+◌, ◌-◌, ap, sym, ◌∙◌, arith}
use Rattle.std.specs.List.{sum_by, range_with_len}
use Rattle.fdr_check.specs.Occurrences.{part_width}
use Rattle.fdr_check.proofs.Ranges.{sum_more}
use Rattle.fdr_check.proofs.parts.whole_width.Goals as goal

pub loop-part-preserved : goal.loop-part-preserved
loop-part-preserved c =
    let n = c.loop-part.part - 1 in
    let width = part_width c.args.places.now c.args.param in
    let more = sum_more width 1 n in
    let next : c.loop-part.part + 1 - 1 ≡ n + 1 = omega (arith, c.loop-part.auto.part) in
    let here : 1 + n ≡ c.loop-part.part = omega (arith, c.loop-part.auto.part) in
    record {
      so_far = ap (λ s. s + c.part_width-width.result) c.loop-part.invariant.so_far
          ∙ ap (λ s. sum_by width (range_with_len 1 n) + s) (c.part_width-width.ensures.width ∙ ap width (sym here))
          ∙ sym more ∙ ap (λ k. sum_by width (range_with_len 1 k)) (sym next);
      few = omega (arith, c.loop-part.auto.part, c.loop-part.invariant.few, c.part_width-width.ensures.one_word);
    }
