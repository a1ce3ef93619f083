use Rattle.std.proofs.Common.{get_or, sym, arith, refl}
use Rattle.std.proofs.lemmas.List.{get_or_default}
use Rattle.fdr_check.proofs.Marking.{slot_inside, lowest_shared, marked_here, no_marked}
use Rattle.fdr_check.proofs.marks.first_marked.Goals as goal

pub bounds-marks-slot : goal.bounds-marks-slot
bounds-marks-slot c =
    let inside = slot_inside c.args.words c.args.place.now c.args.slots.now c.loop-slot.slot-index c.requires.slots c.loop-slot-test.true in
    omega (arith, inside, c.requires.length)

pub overflow_add-result : goal.overflow_add-result
overflow_add-result c =
    let slot = get_or c.args.slots.now c.loop-slot.slot-index 0 in
    let inside = slot_inside c.args.words c.args.place.now c.args.slots.now c.loop-slot.slot-index c.requires.slots c.loop-slot-test.true in
    let lowest = lowest_shared (get_or c.args.marks.now slot 0) c.bits_of-bits.result c.args.place.now c.bits_of-bits.ensures c.if-shared-ne0.true in
    omega (arith, inside, c.requires.word_limit, lowest.0)

pub returns-then-shared-ne0 : goal.returns-then-shared-ne0
returns-then-shared-ne0 c =
    let slots = c.args.slots.now in
    let i = c.loop-slot.slot-index in
    let slot = get_or slots i 0 in
    sym (marked_here c.args.words c.args.place.now slots c.args.marks.now c.bits_of-bits.result i slot (get_or c.args.marks.now slot 0) _ c.requires.slots
    c.bits_of-bits.ensures c.loop-slot-test.true (get_or_default slots i 0 slot c.loop-slot-test.true) refl c.loop-slot.invariant c.if-shared-ne0.true refl)

pub returns : goal.returns
returns c =
    sym (no_marked c.args.words c.args.place.now c.args.slots.now c.args.marks.now c.bits_of-bits.result c.loop-slot.slot-index c.requires.slots
    c.bits_of-bits.ensures c.loop-slot-test.false c.loop-slot.invariant)
