use Rattle.std.proofs.Common.{◌+◌, sym, arith}
use Rattle.fdr_check.proofs.Counting.{no_occurrences, occurrences_more, occurrences_take}
use Rattle.fdr_check.proofs.reporting.count_parts.Goals as goal

pub loop-place-init : goal.loop-place-init
loop-place-init c = sym (no_occurrences c.args.words)

pub overflow_add-total : goal.overflow_add-total
overflow_add-total c =
    let i = c.loop-place.place-index in
    let more = occurrences_more c.args.words c.args.places.now i c.place-item.result c.loop-place-test.true c.place-item.is in
    omega (arith, more, c.count_starts-total.ensures, c.loop-place.invariant, c.requires.fits, occurrences_take c.args.words c.args.places.now (i + 1))

pub loop-place-preserved : goal.loop-place-preserved
loop-place-preserved c =
    let i = c.loop-place.place-index in
    let more = occurrences_more c.args.words c.args.places.now i c.place-item.result c.loop-place-test.true c.place-item.is in
    omega (arith, more, c.count_starts-total.ensures, c.loop-place.invariant)
