use Rattle.std.proofs.Common.{◌≡◌, not, length, ap, ◌∙◌, arith}
use Rattle.fdr_table.specs.Rows.{ParamRow}
use Rattle.fdr_check.specs.Faults.{has_parts}
use Rattle.fdr_check.proofs.Grouping.{length_grouped}
use Rattle.fdr_check.proofs.Searches.{find_later}
use Rattle.fdr_check.proofs.Enumerating.{is_incomplete, parts_here, parts_found, parts_none}
use Rattle.fdr_check.proofs.faults.parts_fault.Goals as goal
use Rattle.fdr_check.proofs.faults.parts_fault.Goals.{After-has_parts}

pub bounds-groups-index : goal.bounds-groups-index
bounds-groups-index c =
    let same : length c.params-params.result.now ≡ length c.args.t.now.params = ap length c.params-params.ensures in
    let len : length c.args.groups.now ≡ length c.args.t.now.params = ap length c.requires ∙ length_grouped c.args.t.now.places (length c.args.t.now.params) in
    omega (arith, same, len, c.loop-index-test.true)

here : (c : After-has_parts) → is_incomplete c.args.t.now.places (c.loop-index.index, c.index-params-index.result) ≡ not c.has_parts.result
here c =
    parts_here c.args.t.now c.args.groups.now c.loop-index.index c.index-params-index.result c.index-groups-index.result _ c.requires
    (omega (arith, ap length c.params-params.ensures, c.loop-index-test.true)) c.index-groups-index.is
    (c.has_parts.ensures ∙ ap (λ ps. has_parts ps c.loop-index.index c.index-params-index.result) c.places.ensures)

pub returns-then-not-has_parts : goal.returns-then-not-has_parts
returns-then-not-has_parts c =
    parts_found c.args.t.now c.params-params.result.now c.loop-index.index c.index-params-index.result c.param.inside.row c.params-params.ensures
    c.loop-index-test.true c.index-params-index.is c.loop-index.invariant
    (here (goal.at.returns-then-not-has_parts c).After-has_parts ∙ ap not c.if-not-has_parts.true) (ap (λ (x : ParamRow). x.row) c.param.view_is)

pub loop-index-preserved : goal.loop-index-preserved
loop-index-preserved c =
    find_later (is_incomplete c.args.t.now.places) c.params-params.result.now c.loop-index.index c.index-params-index.result c.loop-index-test.true
    c.index-params-index.is c.loop-index.invariant (here (goal.at.loop-index-preserved c).After-has_parts ∙ ap not c.if-not-has_parts.false)

pub returns : goal.returns
returns c = parts_none c.args.t.now c.params-params.result.now c.loop-index.index c.params-params.ensures c.loop-index-test.false c.loop-index.invariant
