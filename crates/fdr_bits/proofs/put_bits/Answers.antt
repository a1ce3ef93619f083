use Rattle.std.proofs.Common.{◌+◌, ◌-◌, ◌%◌, ◌/◌, ◌^◌, ◌<◌, ap, ◌∙◌, subst, sym, arith}
use Rattle.fdr_bits.specs.Fields.{field_of}
use Rattle.fdr_bits.proofs.FieldLemmas.{IsField, mask_order, with_field_by_mask, field_of-with_field, with_field_below, with_field_above, with_field_fits}
use Rattle.fdr_bits.proofs.put_bits.Goals as goal

pub overflow_sub-mask : goal.overflow_sub-mask
overflow_sub-mask c = mask_order (c.args.lsb - 1) c.args.width (omega arith)

pub returns-clause-value : goal.returns-clause-value
returns-clause-value c =
    with_field_by_mask c.args.word (c.args.lsb - 1) c.args.width c.args.v
    (record { word_fits = c.requires.twelve_bits; within = omega arith; fits = c.requires.fits })

pub returns-clause-still_twelve_bits : goal.returns-clause-still_twelve_bits
returns-clause-still_twelve_bits c =
    let h : IsField c.args.word (c.args.lsb - 1) c.args.width c.args.v =
    record { word_fits = c.requires.twelve_bits; within = omega arith; fits = c.requires.fits } in
    subst (λ x. x < 4096) (sym (with_field_by_mask c.args.word (c.args.lsb - 1) c.args.width c.args.v h))
    (with_field_fits c.args.word (c.args.lsb - 1) c.args.width c.args.v h)

pub returns-clause-written : goal.returns-clause-written
returns-clause-written c =
    let h : IsField c.args.word (c.args.lsb - 1) c.args.width c.args.v =
    record { word_fits = c.requires.twelve_bits; within = omega arith; fits = c.requires.fits } in
    ap (λ x. field_of x (c.args.lsb - 1) c.args.width) (with_field_by_mask c.args.word (c.args.lsb - 1) c.args.width c.args.v h)
    ∙ field_of-with_field c.args.word (c.args.lsb - 1) c.args.width c.args.v h.fits

pub returns-clause-kept_below : goal.returns-clause-kept_below
returns-clause-kept_below c =
    let h : IsField c.args.word (c.args.lsb - 1) c.args.width c.args.v =
    record { word_fits = c.requires.twelve_bits; within = omega arith; fits = c.requires.fits } in
    ap (λ x. x % 2 ^ (c.args.lsb - 1)) (with_field_by_mask c.args.word (c.args.lsb - 1) c.args.width c.args.v h)
    ∙ with_field_below c.args.word (c.args.lsb - 1) c.args.width c.args.v

pub returns-clause-kept_above : goal.returns-clause-kept_above
returns-clause-kept_above c =
    let h : IsField c.args.word (c.args.lsb - 1) c.args.width c.args.v =
    record { word_fits = c.requires.twelve_bits; within = omega arith; fits = c.requires.fits } in
    ap (λ x. x / 2 ^ (c.args.lsb - 1 + c.args.width)) (with_field_by_mask c.args.word (c.args.lsb - 1) c.args.width c.args.v h)
    ∙ with_field_above c.args.word (c.args.lsb - 1) c.args.width c.args.v h.fits
