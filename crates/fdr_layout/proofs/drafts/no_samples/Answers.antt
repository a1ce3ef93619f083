use Rattle.std.proofs.Common.{◌++◌, ◌∷◌, [], ap, ◌∙◌}
use Rattle.fdr_layout.proofs.Drafting.{draft_none}
use Rattle.fdr_layout.proofs.drafts.no_samples.Goals as goal

pub returns : goal.returns
returns c =
    draft_none _ _ _ _ c.new.ensures.items c.new-2.ensures.items c.new-3.ensures.items
    (c.in_ok-push.ensures ∙ ap (λ xs. xs ++ 0 ∷ []) c.new-starts.ensures.items)
