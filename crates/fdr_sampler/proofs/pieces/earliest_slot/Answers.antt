use Rattle.std.proofs.Common.{◌-◌, ◌∙◌, ap, arith}
use Rattle.fdr_layout.specs.SlotParts.{SlotPart}
use Rattle.fdr_sampler.proofs.Earliest.{slot_is, earliest_slot_more}
use Rattle.fdr_sampler.proofs.pieces.earliest_slot.Goals as goal

pub loop-part-init : goal.loop-part-init
loop-part-init c =
    let at = ap (λ (a : SlotPart). a.part.at) c.first.view_is in
    let is = c.first.invariant in
    slot_is c.first.inside.slot (c.first.inside.lsb - 1) c.args.first.now.part.at at (omega (arith, is.low, is.not_empty, is.high))

pub loop-part-preserved : goal.loop-part-preserved
loop-part-preserved c =
    let a = c.part-item.result in
    let at = ap (λ (a : SlotPart). a.part.at) c.part.view_is in
    let is = c.part.invariant in
    let slot = slot_is c.part.inside.slot (c.part.inside.lsb - 1) a.part.at at (omega (arith, is.low, is.not_empty, is.high)) in
    c.min-earliest.ensures ∙ earliest_slot_more c.args.first.now.part.at c.part.inside.slot c.loop-part.earliest c.args.parts.now c.loop-part.part-index a
    c.loop-part-test.true
    c.part-item.is slot c.loop-part.invariant
