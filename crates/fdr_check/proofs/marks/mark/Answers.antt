use Rattle.std.proofs.Common.{◌<◌, length, get_or, arith, refl, ◌∙◌}
use Rattle.std.proofs.lemmas.List.{length-set, get_or_default}
use Rattle.fdr_check.proofs.Marking.{slot_inside, marked_next, marked_all}
use Rattle.fdr_check.proofs.marks.mark.Goals as goal

pub bounds-marks-slot : goal.bounds-marks-slot
bounds-marks-slot c =
    let inside = slot_inside c.args.words c.args.place.now c.args.slots.now c.loop-slot.slot-index c.requires.slots c.loop-slot-test.true in
    omega (arith, inside, c.loop-slot.invariant.length, c.requires.length)

pub bounds-marks-slot-in-loop-slot : goal.bounds-marks-slot-in-loop-slot
bounds-marks-slot-in-loop-slot c =
    let inside = slot_inside c.args.words c.args.place.now c.args.slots.now c.loop-slot.slot-index c.requires.slots c.loop-slot-test.true in
    omega (arith, inside, c.loop-slot.invariant.length, c.requires.length)

pub loop-slot-preserved : goal.loop-slot-preserved
loop-slot-preserved c =
    let slots = c.args.slots.now in
    let i = c.loop-slot.slot-index in
    let slot = get_or slots i 0 in
    let old = c.loop-slot.marks in
    let inside = slot_inside c.args.words c.args.place.now slots i c.requires.slots c.loop-slot-test.true in
    let within : slot < length old = omega (arith, inside, c.loop-slot.invariant.length, c.requires.length) in
    record {
      length = length-set old slot _ ∙ c.loop-slot.invariant.length;
      marked = λ b. marked_next c.args.place.now slots i slot c.bits_of-bits.result (get_or old slot 0) old _ b _ c.bits_of-bits.ensures c.loop-slot-test.true
          (get_or_default slots i 0 slot c.loop-slot-test.true) within (get_or_default old slot 0 (get_or old slot 0) within) refl
          (c.loop-slot.invariant.marked b);
    }

pub returns-clause-marked : goal.returns-clause-marked
returns-clause-marked c =
    λ b below. marked_all c.args.words c.args.place.now c.args.slots.now c.loop-slot.slot-index b _ _ c.requires.slots c.loop-slot-test.false below
    (c.loop-slot.invariant.marked b)
