use Rattle.std.proofs.Common.{◌<◌, List, Some, length, ap, sym, subst, ◌∙◌, arith}
use Rattle.std.specs.List.{All, slice_get}
use Rattle.fdr_layout.specs.SlotParts.{SlotPart, Laid}
use Rattle.fdr_layout.specs.LayoutView.{laid}
use Rattle.fdr_layout.proofs.Reading.{read_segment, segment_got, segment_holds, slots_counted}
use Rattle.fdr_layout.proofs.layout.Layout.at_slot.Goals as goal

pub segment-requires-clause-within : goal.segment-requires-clause-within
segment-requires-clause-within c =
    omega (arith, slots_counted c.self.inside.lists c.args.self.now c.self.view_is, c.requires, ap length c.deref.ensures.value)

pub returns-clause-parts : goal.returns-clause-parts
returns-clause-parts c =
    let l = c.self.inside.lists in
    let counted = slots_counted c.self.inside.lists c.args.self.now c.self.view_is in
    ap (λ (x : Laid). slice_get x.slots c.args.k) (sym c.self.view_is)
    ∙ segment_got l.slot_starts.items l.by_slot.items c.args.k (omega (arith, counted, c.requires))
    ∙ ap Some (sym (read_segment _ _ _ _ c.args.k _ c.segment.ensures c.deref.ensures.value c.deref-2.ensures.value))

pub returns-clause-numbers : goal.returns-clause-numbers
returns-clause-numbers c =
    let l = c.self.inside.lists in
    let counted = slots_counted c.self.inside.lists c.args.self.now c.self.view_is in
    let read = read_segment _ _ _ _ c.args.k _ c.segment.ensures c.deref.ensures.value c.deref-2.ensures.value in
    let all = segment_holds (λ (ps : List SlotPart). All (λ (a : SlotPart). a.sample < length (laid l).samples) ps)
    l.slot_starts.items l.by_slot.items c.args.k c.self.invariant.stands.numbers (omega (arith, counted, c.requires)) in
    subst (λ (x : Laid). All (λ (a : SlotPart). a.sample < length x.samples) c.segment.result.now) c.self.view_is
    (subst (All (λ (a : SlotPart). a.sample < length (laid l).samples)) (sym read) all)
