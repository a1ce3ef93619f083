use Rattle.std.proofs.Common.{◌≤◌, ◌*◌, length}
use Rattle.fdr_layout.specs.Drafts.{AreDrafted}
use Rattle.fdr_layout.proofs.Drafting.{samples_before}
use Rattle.fdr_layout.proofs.drafts.draft_of.Given as goal

abbrev pub invariant-loop-index : goal.invariant-loop-index
invariant-loop-index l = record {
  draft : AreDrafted (samples_before l.t l.index) l.draft.list.items l.draft.lasts.items l.draft.parts.items l.draft.starts.items;
  parts : length l.draft.parts.items ≤ 4 * length l.draft.list.items;
}
