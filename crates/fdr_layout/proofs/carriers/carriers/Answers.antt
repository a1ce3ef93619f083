use Rattle.std.proofs.Common.{◌≡◌, ◌-◌, map, ap, ◌∙◌, arith}
use Rattle.std.specs.List.{range_with_len}
use Rattle.fdr_layout.specs.Samples.{carrier_of}
use Rattle.fdr_layout.proofs.Carrying.{first_shift, next_shift, bits_lie, carrier_is}
use Rattle.fdr_check.proofs.Slotting.{of_parts_more}
use Rattle.fdr_layout.proofs.carriers.carriers.Goals as goal

pub loop-part-init : goal.loop-part-init
loop-part-init c = record { so_far = c.new-carriers.ensures.items; shift = first_shift c.args.places.now c.args.param; few = omega arith }

pub invariant_of-carrier : goal.invariant_of-carrier
invariant_of-carrier c = (
  omega (arith, c.loop-part.invariant.few, c.loop-part-test.true),
  bits_lie c.args.words c.args.places.now c.args.param c.loop-part.part c.part_width-width.result c.in_ok-part_bits.field-0.items c.requires.word_limit
      c.requires.in_range c.requires.widths c.in_ok-part_bits.ensures c.part_width-width.ensures.width,
)

pub loop-part-preserved : goal.loop-part-preserved
loop-part-preserved c =
    let places = c.args.places.now in
    let n = c.args.param in
    let part = c.loop-part.part in
    let low = c.loop-part.auto.part in
    record {
      so_far = of_parts_more (carrier_of c.args.words places n) part _ _ _ low c.loop-part.invariant.so_far c.in_ok-push.ensures
          (carrier_is c.args.words places n part c.part_width-width.result c.loop-part.shift c.in_ok-part_bits.field-0.items c.requires.widths
          c.in_ok-part_bits.ensures c.part_width-width.ensures.width c.loop-part.invariant.shift);
      shift = next_shift places n part c.loop-part.shift c.part_width-width.result low c.loop-part.invariant.shift c.part_width-width.ensures.width;
      few = omega (arith, c.loop-part.invariant.few, c.part_width-width.ensures.one_word, low);
    }

pub returns : goal.returns
returns c =
    let whole : c.loop-part.part - 1 ≡ 4 = omega (arith, c.loop-part.auto.part-end, c.loop-part-test.false) in
    c.loop-part.invariant.so_far ∙ ap (λ n. map (carrier_of c.args.words c.args.places.now c.args.param) (range_with_len 1 n)) whole
