use Rattle.std.proofs.Common.{◌∷◌, [], ◌++◌, ap, sym, ◌∙◌}
use Rattle.std.proofs.lemmas.List.{append-nil}
use Rattle.fdr_sampler.proofs.Owning.{owner_more}
use Rattle.fdr_sampler.proofs.owners.add_owner.Goals as goal

pub loop-index-init : goal.loop-index-init
loop-index-init c = sym (append-nil c.args.owners.now.items)

pub loop-index-preserved : goal.loop-index-preserved
loop-index-preserved c =
    let n = c.args.param in
    c.in_ok-push.ensures ∙ ap (λ xs. xs ++ n ∷ []) c.loop-index.invariant ∙ owner_more n c.loop-index._index c.args.owners.now.items
