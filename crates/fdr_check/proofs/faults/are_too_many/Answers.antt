use Rattle.std.proofs.Common.{◌+◌, ◌*◌, sym, arith}
use Rattle.std.proofs.lemmas.Bool.{lt-ltb}
use Rattle.fdr_check.specs.Occurrences.{begins_at}
use Rattle.fdr_check.proofs.Ranges.{count_few}
use Rattle.fdr_check.proofs.Counting.{no_occurrences, occurrences_more, occurrences_take}
use Rattle.fdr_check.proofs.faults.are_too_many.Goals as goal

pub loop-place-init : goal.loop-place-init
loop-place-init c = record { so_far = sym (no_occurrences c.args.words); few = omega arith }

pub overflow_add-total : goal.overflow_add-total
overflow_add-total c =
    let few = count_few (λ x. begins_at c.args.words x c.place-item.result) (768 * c.args.words) in
    omega (arith, few, c.count_starts-total.ensures, c.loop-place.invariant.few)

pub returns-then-total-gt-MAX_PARTS : goal.returns-then-total-gt-MAX_PARTS
returns-then-total-gt-MAX_PARTS c =
    let i = c.loop-place.place-index in
    let more = occurrences_more c.args.words c.args.places.now i c.place-item.result c.loop-place-test.true c.place-item.is in
    sym (lt-ltb _ _ (omega (
      arith,
      more,
      c.count_starts-total.ensures,
      c.loop-place.invariant.so_far,
      c.if-total-gt-MAX_PARTS.true,
      occurrences_take c.args.words c.args.places.now (i + 1),
    )))

pub loop-place-preserved : goal.loop-place-preserved
loop-place-preserved c =
    let i = c.loop-place.place-index in
    let more = occurrences_more c.args.words c.args.places.now i c.place-item.result c.loop-place-test.true c.place-item.is in
    record {
      so_far = omega (arith, more, c.count_starts-total.ensures, c.loop-place.invariant.so_far);
      few = omega (arith, c.if-total-gt-MAX_PARTS.false);
    }
