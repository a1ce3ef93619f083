use Rattle.std.proofs.Common.{◌≡◌, Some, ap, sym, ◌∙◌, arith}
use Rattle.fdr_table.specs.Rows.{ParamRow}
use Rattle.fdr_check.specs.Walks.{off_rate_at}
use Rattle.fdr_check.proofs.Rating.{rate_found, no_rate}
use Rattle.fdr_check.proofs.parts.rate_of.Goals as goal

pub returns-in-Some : goal.returns-in-Some
returns-in-Some c =
    let p = c.args.param.now in
    let rate : c.param.inside.rate ≡ p.rate = ap (λ (x : ParamRow). x.rate) c.param.view_is in
    let row : c.param.inside.row ≡ p.row = ap (λ (x : ParamRow). x.row) c.param.view_is in
    let off : off_rate_at c.args.words c.args.places.now c.args.index p.rate c.loop-part.part ≡ Some c.in-Some.counted =
    ap (λ r. off_rate_at c.args.words c.args.places.now c.args.index r c.loop-part.part) (sym rate) ∙ sym c.off_rate.ensures ∙ c.in-Some.is in
    rate_found c.args.words c.args.places.now c.args.index p c.loop-part.part c.in-Some.counted c.param.inside.row c.param.inside.rate c.loop-part.auto.part
    (omega (arith, c.loop-part-test.true)) rate row off c.loop-part.invariant

pub returns : goal.returns
returns c =
    no_rate c.args.words c.args.places.now c.args.index c.args.param.now
    (λ k low high. c.loop-part.invariant k low (omega (arith, high, c.loop-part-test.false)))
