use Rattle.std.proofs.Common.{◌^◌, ◌<◌, sym, subst, ◌∙◌}
use Rattle.std.specs.Int.{w64}
use Rattle.std.proofs.lemmas.Int.{to_z-of_z}
use Rattle.fdr_table.specs.Ranges.{IsParamInRange}
use Rattle.fdr_table.specs.Rows.{ParamRow}
use Rattle.fdr_recon.specs.Kept.{IsSmallValue}
use Rattle.fdr_recon.specs.Scales.{IsSmallScale}
use Rattle.fdr_recon.proofs.ValueBounds.{value_within}
use Rattle.fdr_recon.proofs.scale.Scale.value.Goals as goal

pub returns-in-Some-clause-small : goal.returns-in-Some-clause-small
returns-in-Some-clause-small c =
    let p = c.self.inside.param in
    let below : c.args.raw < 2 ^ p.width = subst (λ (q : ParamRow). c.args.raw < 2 ^ q.width) (sym c.self.view_is) c.requires in
    let small : IsSmallScale p c.in-Some.scale = rw c.in-Some.is at c.self.invariant.0 in
    subst IsSmallValue (sym (to_z-of_z w64 c.value.result (record { sfits = c.value.type_inv }) ∙ c.value.ensures p small below))
    (value_within p c.args.raw c.self.invariant.1 below)

pub returns-in-None-clause-small : goal.returns-in-None-clause-small
returns-in-None-clause-small c =
    let range = subst IsParamInRange c.self.view_is c.self.invariant.1 in
    subst IsSmallValue (sym (to_z-of_z w64 c.divided.result (record { sfits = c.divided.type_inv }) ∙ c.divided.ensures))
    (value_within c.args.self.now c.args.raw range c.requires)
