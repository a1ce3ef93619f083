use Rattle.std.proofs.Common.{◌<◌, ◌≤◌, ◌+◌, ◌∙◌, ◌⊎◌, inl, inr, sym, arith, get_or, drop, length}
use Rattle.fdr_table.proofs.FieldFacts.{left-start, left-at, left-stop, left-next, set-bound, set-high, bit-low, subframes-empty}
use Rattle.fdr_table.proofs.field.subframes.Goals as goal
use Rattle.fdr_table.proofs.field.subframes.Goals.{then-digit-last-via-then-digit-last, then-digit-last-via-else-digit-last+then-digit-gt52}

pub returns-then-is_empty-clause-exactly : goal.returns-then-is_empty-clause-exactly
returns-then-is_empty-clause-exactly c = sym (subframes-empty c.args.field.now (grind arith))

pub loop-digit-init : goal.loop-digit-init
loop-digit-init c = record {
  left = left-start c.args.field.now (grind arith);
  count = omega arith;
  low = omega arith;
  high = omega arith;
  bits = omega arith;
}

pub returns-then-digit-last-clause-exactly : goal.returns-then-digit-last-clause-exactly
returns-then-digit-last-clause-exactly c =
    let xs = c.args.field.now in
    let i = c.loop-digit.digit-index in
    let bad : (get_or xs i 0 ≤ c.loop-digit.last) ⊎ (52 < get_or xs i 0) =
    elim c.then-digit-last.branch [
      | then-digit-last-via-then-digit-last w ↦ inl (omega arith)
      | then-digit-last-via-else-digit-last+then-digit-gt52 w ↦
          inr (omega arith)
    ] in
    sym (c.loop-digit.invariant.left ∙ left-at c.loop-digit.last c.loop-digit.set i xs c.loop-digit-test.true
    ∙ left-stop c.loop-digit.last c.loop-digit.set (get_or xs i 0) (drop (i + 1) xs) bad)

pub loop-digit-preserved : goal.loop-digit-preserved
loop-digit-preserved c =
    let xs = c.args.field.now in
    let i = c.loop-digit.digit-index in
    let next = c.loop-digit.invariant.left ∙ left-at c.loop-digit.last c.loop-digit.set i xs c.loop-digit-test.true
    ∙ left-next c.loop-digit.last c.loop-digit.set (get_or xs i 0) (drop (i + 1) xs) c.loop-digit.invariant.low (omega arith) (omega arith) in
    let low = bit-low (get_or xs i 0) in
    let bound = set-bound c.loop-digit.last c.loop-digit.set (get_or xs i 0) c.loop-digit.invariant.low (omega arith) c.loop-digit.invariant.bits in
    rw c.subframe_bit-set.ensures record {
      left = next;
      count = omega (arith, low);
      low = omega arith;
      high = omega arith;
      bits = bound;
    }

pub returns-clause-within : goal.returns-clause-within
returns-clause-within c =
    let some : 1 ≤ length c.args.field.now = grind arith in
    (omega arith, set-high c.loop-digit.last c.loop-digit.set c.loop-digit.invariant.high c.loop-digit.invariant.bits)
