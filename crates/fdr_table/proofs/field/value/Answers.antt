use Rattle.std.proofs.Common.{◌+◌, ◌*◌, ◌∙◌, ap, arith, ℕ}
use Rattle.fdr_table.proofs.FieldFacts.{value-bound, value-step}
use Rattle.fdr_table.proofs.field.value.Goals as goal

pub overflow_mul-value : goal.overflow_mul-value
overflow_mul-value c =
    let fits = rw (← c.loop-digit.invariant) at (value-bound c.args.base c.loop-digit.digit-index c.args.digits.now c.requires.base c.requires.digits
    (omega arith) c.requires.fits) in
    omega (arith, fits)

pub overflow_add-value : goal.overflow_add-value
overflow_add-value c =
    let fits = rw (← c.loop-digit.invariant) at (value-bound c.args.base c.loop-digit.digit-index c.args.digits.now c.requires.base c.requires.digits
    (omega arith) c.requires.fits) in
    omega (arith, fits)

pub loop-digit-preserved : goal.loop-digit-preserved
loop-digit-preserved c =
    let step = rw (← c.loop-digit.invariant) at (value-step c.args.base c.loop-digit.digit-index c.args.digits.now c.requires.digits (omega arith)) in
    ap (λ (x : ℕ). c.loop-digit.value * c.args.base + x) c.from.ensures ∙ step
