use Rattle.std.proofs.Common.{◌≡◌, ℕ, ◌+◌, ◌<◌, ◌==◌, ◌++◌, List, Some, length, get_or, ap, sym, subst, ◌∙◌, arith}
use Rattle.std.specs.List.{All, slice_get}
use Rattle.std.proofs.lemmas.List.Elements.{All-filter}
use Rattle.std.proofs.lemmas.Option.{slice_get-get_or}
use Rattle.fdr_table.specs.Rows.{FrameRow, ParamRow, PlaceRow, TableRows}
use Rattle.fdr_table.specs.Ranges.{IsPlaceInRange}
use Rattle.fdr_check.specs.Groups.{places_of, grouped}
use Rattle.fdr_check.proofs.Grouping.{length_grouped, group_at}
use Rattle.fdr_layout.specs.Samples.{Sample, samples_of}
use Rattle.fdr_layout.specs.Drafts.{AreDrafted}
use Rattle.fdr_layout.proofs.Carrying.{HaveOneWidth}
use Rattle.fdr_layout.proofs.Drafting.{no_parts, draft_length, samples_before, samples_of_own, own_width, all_samples, samples_next, room_for_next}
use Rattle.fdr_layout.proofs.Few.{params_few, samples_few}
use Rattle.fdr_layout.proofs.drafts.draft_of.Goals as goal

pub loop-index-init : goal.loop-index-init
loop-index-init c =
    let d = c.in_ok-draft.draft in
    record { draft = c.in_ok-draft.ensures; parts = omega (arith, ap length c.in_ok-draft.ensures.pieces, no_parts) }

pub index-requires : goal.index-requires
index-requires c =
    let long : length c.in_ok-groups.groups.items ≡ length c.params-params.result.now =
    ap length c.in_ok-groups.ensures ∙ length_grouped c.places.result.now (length c.params-params.result.now) in
    omega (arith, long, c.in_ok-groups.groups.ok.0, c.loop-index-test.true)

pub overflow_cast-index : goal.overflow_cast-index
overflow_cast-index c =
    let t = c.args.t.now in
    let same : length c.params-params.result.now ≡ length t.params = ap length (c.params-params.ensures
    ∙ ap (λ (x : TableRows). x.params) c.table-table.ensures) in
    omega (arith, same, c.loop-index-test.true, params_few t c.holds.ensures.in_range, samples_few t c.holds.ensures.sound)

own_places : (t : TableRows) (params : List ParamRow) (places : List PlaceRow) (groups : List (List PlaceRow)) (i : ℕ) (g now : List PlaceRow)
    → places ≡ t.places → groups ≡ grouped places (length params) → i < length params → g ≡ get_or groups i g → now ≡ g → now ≡ places_of t.places i
own_places t params places groups i g now same are l read is =
    is ∙ group_at places (length params) i groups g are l read ∙ ap (λ ps. places_of ps i) same

pub add_samples-requires-clause-in_range : goal.add_samples-requires-clause-in_range
add_samples-requires-clause-in_range c =
    let t = c.args.t.now in
    let i = c.loop-index.index in
    let places : c.places.result.now ≡ t.places = c.places.ensures ∙ ap (λ (x : TableRows). x.places) c.table-table.ensures in
    let own = own_places t c.params-params.result.now c.places.result.now c.in_ok-groups.groups.items i c.index.result.now c.places-places.result.now places
    c.in_ok-groups.ensures c.loop-index-test.true c.index.ensures c.places-places.ensures in
    subst (All IsPlaceInRange) (sym own) (All-filter (λ (p : PlaceRow). p.param == i) IsPlaceInRange t.places c.holds.ensures.in_range.places)

pub add_samples-requires-clause-widths : goal.add_samples-requires-clause-widths
add_samples-requires-clause-widths c =
    let t = c.args.t.now in
    let i = c.loop-index.index in
    let p = c.index-params-index.result in
    let places : c.places.result.now ≡ t.places = c.places.ensures ∙ ap (λ (x : TableRows). x.places) c.table-table.ensures in
    let params : c.params-params.result.now ≡ t.params = c.params-params.ensures ∙ ap (λ (x : TableRows). x.params) c.table-table.ensures in
    let own = own_places t c.params-params.result.now c.places.result.now c.in_ok-groups.groups.items i c.index.result.now c.places-places.result.now places
    c.in_ok-groups.ensures c.loop-index-test.true c.index.ensures c.places-places.ensures in
    let at : slice_get t.params i ≡ Some (get_or t.params i p) = slice_get-get_or t.params i p (omega (arith, ap length params, c.loop-index-test.true)) in
    subst (λ ps. HaveOneWidth ps i) (sym own) (own_width t i (get_or t.params i p) c.holds.ensures.sound at)

pub add_samples-requires-clause-within_superframe : goal.add_samples-requires-clause-within_superframe
add_samples-requires-clause-within_superframe c =
    let t = c.args.t.now in
    let i = c.loop-index.index in
    let d = c.loop-index.draft in
    let p = c.index-params-index.result in
    let params : c.params-params.result.now ≡ t.params = c.params-params.ensures ∙ ap (λ (x : TableRows). x.params) c.table-table.ensures in
    let is : p ≡ get_or t.params i p = c.index-params-index.is ∙ ap (λ ps. get_or ps i p) params in
    let rate : c.param.inside.rate ≡ p.rate = ap (λ (x : ParamRow). x.rate) c.param.view_is in
    omega (
      arith,
      rate,
      room_for_next t i p c.holds.ensures.sound (omega (arith, ap length params, c.loop-index-test.true)) is,
      draft_length (samples_before t i) d.list.items d.lasts.items d.parts.items d.starts.items c.loop-index.invariant.draft,
    )

pub loop-index-preserved : goal.loop-index-preserved
loop-index-preserved c =
    let t = c.args.t.now in
    let i = c.loop-index.index in
    let d = c.add_samples.new.draft in
    let p = c.index-params-index.result in
    let w = t.frame.words in
    let places : c.places.result.now ≡ t.places = c.places.ensures ∙ ap (λ (x : TableRows). x.places) c.table-table.ensures in
    let params : c.params-params.result.now ≡ t.params = c.params-params.ensures ∙ ap (λ (x : TableRows). x.params) c.table-table.ensures in
    let words : c.words.inside.words ≡ w =
    ap (λ (f : FrameRow). f.words) (c.words.view_is ∙ c.frame.ensures ∙ ap (λ (x : TableRows). x.frame) c.table-table.ensures) in
    let is : p ≡ get_or t.params i p = c.index-params-index.is ∙ ap (λ ps. get_or ps i p) params in
    let rate : c.param.inside.rate ≡ p.rate = ap (λ (x : ParamRow). x.rate) c.param.view_is in
    let own = own_places t c.params-params.result.now c.places.result.now c.in_ok-groups.groups.items i c.index.result.now c.places-places.result.now places
    c.in_ok-groups.ensures c.loop-index-test.true c.index.ensures c.places-places.ensures in
    let same : samples_before t i ++ samples_of c.words.inside.words c.places-places.result.now i c.param.inside.rate ≡ samples_before t (i + 1) =
    ap (λ v. samples_before t i ++ samples_of v c.places-places.result.now i c.param.inside.rate) words
    ∙ ap (λ ps. samples_before t i ++ samples_of w ps i c.param.inside.rate) own
    ∙ ap (λ r. samples_before t i ++ samples_of w (places_of t.places i) i r) rate
    ∙ ap (λ xs. samples_before t i ++ xs) (samples_of_own w t.places i p.rate)
    ∙ sym (samples_next t i p (omega (arith, ap length params, c.loop-index-test.true)) is) in
    record {
      draft = subst (λ (xs : List Sample). AreDrafted xs d.list.items d.lasts.items d.parts.items d.starts.items) same
          (c.in_ok-add_samples.ensures.samples (samples_before t i) c.loop-index.invariant.draft);
      parts = c.in_ok-add_samples.ensures.parts;
    }

pub returns-clause-draft : goal.returns-clause-draft
returns-clause-draft c =
    let t = c.args.t.now in
    let d = c.loop-index.draft in
    let params : c.params-params.result.now ≡ t.params = c.params-params.ensures ∙ ap (λ (x : TableRows). x.params) c.table-table.ensures in
    subst (λ (xs : List Sample). AreDrafted xs d.list.items d.lasts.items d.parts.items d.starts.items)
    (all_samples t c.loop-index.index (omega (arith, ap length params, c.loop-index-test.false))) c.loop-index.invariant.draft
