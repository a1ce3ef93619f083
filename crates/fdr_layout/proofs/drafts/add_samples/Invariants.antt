use Rattle.std.proofs.Common.{◌≡◌, ◌≤◌, ◌+◌, ◌*◌, ◌++◌, List, length}
use Rattle.fdr_layout.specs.Samples.{Sample, samples_of}
use Rattle.fdr_layout.specs.Drafts.{AreDrafted}
use Rattle.fdr_layout.proofs.drafts.add_samples.Given as goal

abbrev pub invariant-loop-index : goal.invariant-loop-index
invariant-loop-index l = record {
  samples : (ss : List Sample) → AreDrafted ss l.initial.draft.list.items l.initial.draft.lasts.items l.initial.draft.parts.items l.initial.draft.starts.items
      → AreDrafted (ss ++ samples_of l.words l.places l.param l.index) l.draft.list.items l.draft.lasts.items l.draft.parts.items l.draft.starts.items;
  count : length l.draft.list.items ≡ length l.initial.draft.list.items + l.index;
  parts : length l.draft.parts.items ≤ 4 * length l.draft.list.items;
}
