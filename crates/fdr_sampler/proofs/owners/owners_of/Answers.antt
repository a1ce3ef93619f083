use Rattle.std.proofs.Common.{◌++◌, map, ap, sym, ◌∙◌, arith}
use Rattle.std.proofs.lemmas.Grind.{common_steps}
use Rattle.std.specs.List.{range_with_len}
use Rattle.fdr_table.specs.Rows.{ParamRow}
use Rattle.fdr_sampler.proofs.Owning.{no_owners, owners_more}
use Rattle.fdr_sampler.proofs.owners.owners_of.Goals as goal

pub loop-index-init : goal.loop-index-init
loop-index-init c = c.new-owners.ensures.items ∙ sym no_owners

pub loop-index-preserved : goal.loop-index-preserved
loop-index-preserved c =
    let i = c.loop-index.index in
    let rate = c.param.inside.rate in
    c.in_ok-add_owner.ensures ∙ ap (λ xs. xs ++ map (λ _. i) (range_with_len 0 rate)) c.loop-index.invariant
    ∙ owners_more c.args.params.now i c.index-params-index.result rate c.loop-index-test.true c.index-params-index.is
    (ap (λ (p : ParamRow). p.rate) c.param.view_is)

pub returns : goal.returns
returns c = grind (arith, common_steps) steps 2000000
