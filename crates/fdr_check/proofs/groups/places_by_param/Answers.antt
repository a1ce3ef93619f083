use Rattle.std.proofs.Common.{◌≡◌, ◌<◌, ◌++◌, ◌∷◌, [], length, get_or, set, ap, ◌∙◌, arith}
use Rattle.fdr_table.specs.Rows.{PlaceRow}
use Rattle.fdr_check.proofs.Grouping.{grouped_step, length_grouped}
use Rattle.fdr_check.proofs.groups.places_by_param.Goals as goal

pub index_mut-requires : goal.index_mut-requires
index_mut-requires c =
    let param = ap (λ (p : PlaceRow). p.param) c.place.view_is in
    let is = ap (λ (p : PlaceRow). p.param) c.place-item.is in
    let owner = c.requires c.loop-place.place-index c.place-item.result c.loop-place-test.true in
    let len : length c.loop-place.groups.items ≡ c.args.count = ap length c.loop-place.invariant ∙ length_grouped _ c.args.count in
    omega (arith, param, is, owner, len, c.loop-place.groups.ok.0)

pub loop-place-preserved : goal.loop-place-preserved
loop-place-preserved c =
    let p = c.place-item.result in
    let i = c.loop-place.place-index in
    let groups = c.loop-place.groups.items in
    let new = c.add.new.self in
    let old = c.index_mut.result.now in
    let param : c.place.inside.param ≡ p.param = ap (λ (x : PlaceRow). x.param) c.place.view_is in
    let owner : p.param < c.args.count = omega (arith, ap (λ (x : PlaceRow). x.param) c.place-item.is, c.requires i p c.loop-place-test.true) in
    let read : old ≡ get_or groups p.param old = c.index_mut.ensures.value ∙ ap (λ k. get_or groups k old) param in
    let more : new ≡ old ++ p ∷ [] = c.in_ok-add.ensures ∙ ap (λ (x : PlaceRow). old ++ x ∷ []) c.place.view_is in
    ap (λ k. set groups k new) param
    ∙ grouped_step c.args.places.now c.args.count i p groups old new c.loop-place-test.true c.place-item.is owner c.loop-place.invariant read more
