use Rattle.std.proofs.Common.{◌+◌, take, sym, ap, ◌∙◌, arith}
use Rattle.fdr_check.proofs.Counting.{count_of_none, count_more_place, occurrences_take}
use Rattle.fdr_check.proofs.Sharing.{count_of_few}
use Rattle.fdr_check.proofs.parts.count_of.Goals as goal

pub loop-place-init : goal.loop-place-init
loop-place-init c = sym (count_of_none c.args.words c.args.param c.args.part)

pub loop-place-preserved : goal.loop-place-preserved
loop-place-preserved c =
    ap (λ n. n + c.count_in-count.result) c.loop-place.invariant
    ∙ sym (count_more_place c.args.words c.args.places.now c.args.param c.args.part c.loop-place.place-index c.place-item.result c.count_in-count.result
    c.loop-place-test.true c.place-item.is c.count_in-count.ensures)

pub overflow_add-count : goal.overflow_add-count
overflow_add-count c =
    let w = c.args.words in
    let places = c.args.places.now in
    let i = c.loop-place.place-index in
    omega (
      arith,
      c.loop-place.invariant,
      c.requires.fits,
      count_more_place w places c.args.param c.args.part i c.place-item.result c.count_in-count.result
          c.loop-place-test.true c.place-item.is c.count_in-count.ensures,
      count_of_few w (take (i + 1) places) c.args.param c.args.part,
      occurrences_take w places (i + 1),
    )
