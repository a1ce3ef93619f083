use Rattle.std.proofs.Common.{[], ◌∷◌, ◌++◌, ap, ◌∙◌}
use Rattle.fdr_check.proofs.Grouping.{group_more}
use Rattle.fdr_check.proofs.groups.empty_groups.Goals as goal

pub loop-index-preserved : goal.loop-index-preserved
loop-index-preserved c = group_more c.loop-index._index _ _ c.loop-index.invariant
    (c.in_ok-push.ensures ∙ ap (λ g. c.loop-index.groups.items ++ g ∷ []) c.new.ensures)
