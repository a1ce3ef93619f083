use Rattle.std.proofs.Common.{◌≡◌, ◌==◌, cond, take, max, sym, ap, ◌∙◌, arith}
use Rattle.fdr_table.specs.Rows.{PlaceRow}
use Rattle.fdr_check.specs.Faults.{last_part}
use Rattle.std.proofs.lemmas.Bool.Decides.{nat_tests}
use Rattle.fdr_check.proofs.Counting.{last_part_none, last_part_more}
use Rattle.fdr_check.proofs.parts.last_part.Goals as goal

pub loop-place-init : goal.loop-place-init
loop-place-init c = record { so_far = sym (last_part_none c.args.param); few = omega arith }

pub loop-place-preserved : goal.loop-place-preserved
loop-place-preserved c =
    let n = c.args.param in
    let i = c.loop-place.place-index in
    let p = c.place-item.result in
    let greatest : c.max-last.result ≡ max c.loop-place.last c.part_of.result = grind (arith, nat_tests, c.max-last.ensures) in
    record {
      so_far = greatest ∙ ap (λ m. max m c.part_of.result) c.loop-place.invariant.so_far
          ∙ ap (max (last_part (take i c.args.places.now) n)) (c.part_of.ensures.part ∙ ap (λ (x : PlaceRow). cond (x.param == n) x.part 0) c.place-item.is)
          ∙ sym (last_part_more c.args.places.now n i p c.loop-place-test.true);
      few = omega (arith, greatest, c.loop-place.invariant.few, c.part_of.ensures.four_parts);
    }
