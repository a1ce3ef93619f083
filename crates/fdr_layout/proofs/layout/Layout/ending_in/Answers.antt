use Rattle.std.proofs.Common.{◌≡◌, ◌+◌, ◌<◌, ◌^◌, Some, map, length, refl, ap, sym, subst, ◌∙◌, arith}
use Rattle.std.specs.List.{All, slice_get}
use Rattle.fdr_layout.specs.Listed.{sample_in, IsListedSample}
use Rattle.fdr_layout.specs.SlotParts.{Laid}
use Rattle.fdr_layout.specs.LayoutView.{laid, listed_sample}
use Rattle.fdr_layout.proofs.Reading.{cycle_got, read_segment, segment_holds, All-segment, all_few}
use Rattle.fdr_layout.proofs.layout.Layout.ending_in.Goals as goal

pub returns-clause-samples : goal.returns-clause-samples
returns-clause-samples c =
    let l = c.self.inside.lists in
    let k = c.from.result in
    let cycle : k ≡ c.args.cycle = c.from.ensures in
    let within : k + 1 < length l.cycle_starts.items = omega (arith, cycle, c.requires, c.self.invariant.sixteen) in
    let read = read_segment _ _ _ _ k _ c.segment.ensures c.deref.ensures.value c.deref-2.ensures.value in
    let got : slice_get (laid l).cycles k ≡ Some (map (sample_in (laid l)) c.segment.result.now) =
    cycle_got (laid l) l.sample_starts.items l.cycle_starts.items l.by_sample.items l.ending.items k refl refl c.self.invariant.listed within
    ∙ ap (λ es. Some (map (sample_in (laid l)) es)) (sym read) in
    subst (λ (x : Laid). slice_get x.cycles c.args.cycle ≡ Some (map (sample_in x) c.segment.result.now)) c.self.view_is
    (subst (λ n. slice_get (laid l).cycles n ≡ Some (map (sample_in (laid l)) c.segment.result.now)) cycle got)

pub returns-clause-listed : goal.returns-clause-listed
returns-clause-listed c =
    let l = c.self.inside.lists in
    let k = c.from.result in
    let read = read_segment _ _ _ _ k _ c.segment.ensures c.deref.ensures.value c.deref-2.ensures.value in
    subst (λ (x : Laid). All (IsListedSample x) c.segment.result.now) c.self.view_is
    (subst (All (IsListedSample (laid l))) (sym read) (All-segment (IsListedSample (laid l)) l.cycle_starts.items l.ending.items k c.self.invariant.listed))

pub returns-clause-countable : goal.returns-clause-countable
returns-clause-countable c =
    let l = c.self.inside.lists in
    let k = c.from.result in
    let within : k + 1 < length l.cycle_starts.items = omega (arith, c.from.ensures, c.requires, c.self.invariant.sixteen) in
    let read = read_segment _ _ _ _ k _ c.segment.ensures c.deref.ensures.value c.deref-2.ensures.value in
    let few = segment_holds (λ es. length es < 2 ^ 32) l.cycle_starts.items l.ending.items k
    (all_few (listed_sample l.sample_starts.items l.by_sample.items) (2 ^ 32) _ c.self.invariant.stands.cycles.sample_counts) within in
    omega (arith, few, ap length read)
