use Rattle.std.proofs.Common.{◌≡◌, ◌<◌, ◌^◌, List, sym, ap, ◌∙◌, subst, arith}
use Rattle.std.specs.Int.{w64}
use Rattle.std.specs.List.{slice_index_or}
use Rattle.std.proofs.lemmas.Int.{to_z-of_z}
use Rattle.std.proofs.lemmas.Option.{get_or_from_slice_get}
use Rattle.fdr_table.specs.Rows.{ParamRow}
use Rattle.fdr_table.specs.Value.{value_of}
use Rattle.fdr_layout.specs.Samples.{Sample}
use Rattle.fdr_recon.specs.Kept.{RebuildKept, kept_cycle, kept_raw, kept_value, EndsInCycle, IsSampleOf, IsSmallValue}
use Rattle.fdr_recon.specs.Plans.{RowPlan, row_plan, planned_raw}
use Rattle.fdr_recon.specs.Rows.{param_at}
use Rattle.fdr_recon.proofs.KeptRows.{kept_raw-below, kept_raw-small, param_at-sample}
use Rattle.fdr_recon.proofs.Planning.{planned_raw_is}
use Rattle.fdr_recon.proofs.past.Rebuild.value.Goals.{After-index-scale, After-raw-raw}
use Rattle.fdr_recon.proofs.past.Rebuild.value.Goals as goal

-- the raw value is that of the sample's parts
raw_is : (c : After-raw-raw) (s : Sample) → c.args.plan.now ≡ row_plan c.args.self.now.frame.words (kept_cycle c.args.self.now) s
    → EndsInCycle c.args.self.now.frame.words (kept_cycle c.args.self.now) s → c.raw-raw.result ≡ kept_raw c.args.self.now (kept_cycle c.args.self.now) s.parts
raw_is c s is ends =
    let k = c.args.self.now in
    let some : 0 < k.frame.words = subst (λ (x : RebuildKept). 0 < x.frame.words) c.self.view_is c.self.invariant.some_words in
    c.raw-raw.ensures.raw ∙ ap (planned_raw k) (c.fields.ensures.fields ∙ ap (λ (p : RowPlan). p.fields) is)
    ∙ planned_raw_is k (kept_cycle k) s.parts some ends.parts

-- the scale is that of the sample's parameter
param_is : (c : After-index-scale) (s : Sample) → c.args.plan.now ≡ row_plan c.args.self.now.frame.words (kept_cycle c.args.self.now) s
    → (of : IsSampleOf c.args.self.now.params s) → c.index-scale.result.now ≡ of.param
param_is c s is of =
    let k = c.args.self.now in
    let params : c.self.inside.scales.items ≡ k.params = ap (λ (x : RebuildKept). x.params) c.self.view_is in
    let same : c.plan.inside.param ≡ s.param = ap (λ (p : RowPlan). p.param) (c.plan.view_is ∙ is) in
    c.index-scale.ensures ∙ ap (λ n. slice_index_or c.self.inside.scales.items n c.index-scale.result.now) same
    ∙ ap (λ (ps : List ParamRow). slice_index_or ps s.param c.index-scale.result.now) params
    ∙ get_or_from_slice_get k.params s.param of.param c.index-scale.result.now of.found

pub overflow_cast-raw : goal.overflow_cast-raw
overflow_cast-raw c =
    let k = c.args.self.now in
    let known = c.requires in
    let small = kept_raw-small k (kept_cycle k) known.0 known.2 in
    omega (arith, raw_is (goal.at.overflow_cast-raw c).After-raw-raw known.0 known.1 known.3, small)

pub value-requires : goal.value-requires
value-requires c =
    let k = c.args.self.now in
    let at = goal.at.value-requires c in
    let known = c.requires in
    let below = kept_raw-below k (kept_cycle k) known.0 known.2 in
    subst (λ n. c.raw-raw.result < 2 ^ n) (sym (ap (λ (p : ParamRow). p.width) (param_is at.After-index-scale known.0 known.1 known.2)))
    (subst (λ n. n < 2 ^ known.2.param.width) (sym (raw_is at.After-raw-raw known.0 known.1 known.3)) below)

pub returns-clause-value : goal.returns-clause-value
unfolding kept_value
returns-clause-value c s is of ends =
    let k = c.args.self.now in
    let at = goal.at.returns-clause-value c in
    to_z-of_z w64 c.value.result (record { sfits = c.value.type_inv }) ∙ c.value.ensures.value
    ∙ ap (λ p. value_of p c.raw-raw.result) (param_is at.After-index-scale s is of ∙ sym (param_at-sample k.params s of))
    ∙ ap (value_of (param_at k.params s.param)) (raw_is at.After-raw-raw s is ends)

pub returns-clause-small : goal.returns-clause-small
returns-clause-small c =
    subst IsSmallValue (sym (to_z-of_z w64 c.value.result (record { sfits = c.value.type_inv }))) c.value.ensures.small
