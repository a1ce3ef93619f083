use Rattle.std.proofs.Common.{◌+◌, ◌<◌, length, refl, ap, sym, ◌∙◌, arith}
use Rattle.fdr_layout.specs.Flat.{segment}
use Rattle.fdr_layout.specs.Listed.{numbered_parts}
use Rattle.fdr_layout.specs.SlotParts.{Laid, parts_of_sample}
use Rattle.fdr_layout.specs.LayoutView.{laid}
use Rattle.fdr_layout.proofs.Reading.{numbered_parts_are, owned, read_segment, samples_counted}
use Rattle.fdr_layout.proofs.layout.Layout.parts.Goals as goal

pub segment-requires-clause-within : goal.segment-requires-clause-within
segment-requires-clause-within c =
    omega (arith, samples_counted c.self.inside.lists c.args.self.now c.self.view_is, c.requires, ap length c.deref.ensures.value)

pub returns-clause-parts : goal.returns-clause-parts
returns-clause-parts c =
    let l = c.self.inside.lists in
    let n = c.args.sample in
    let counted = samples_counted c.self.inside.lists c.args.self.now c.self.view_is in
    let within : n + 1 < length l.sample_starts.items = omega (arith, counted, c.requires) in
    read_segment _ _ _ _ n _ c.segment.ensures c.deref.ensures.value c.deref-2.ensures.value
    ∙ owned n (segment l.sample_starts.items l.by_sample.items n) (c.self.invariant.owners n within)
    ∙ ap (parts_of_sample n) (sym (numbered_parts_are (laid l) l.sample_starts.items l.by_sample.items l.ending.items n refl within))
    ∙ ap (λ (x : Laid). parts_of_sample n (numbered_parts x n)) c.self.view_is

pub returns-clause-four_parts : goal.returns-clause-four_parts
returns-clause-four_parts c =
    let counted = samples_counted c.self.inside.lists c.args.self.now c.self.view_is in
    let read = read_segment _ _ _ _ c.args.sample _ c.segment.ensures c.deref.ensures.value c.deref-2.ensures.value in
    omega (arith, c.self.invariant.four c.args.sample (omega (arith, counted, c.requires)), ap length read)
