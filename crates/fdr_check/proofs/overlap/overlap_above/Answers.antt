use Rattle.std.proofs.Common.{sym, ap, ◌∙◌, arith}
use Rattle.std.proofs.lemmas.Grind.{common_steps}
use Rattle.fdr_table.specs.Rows.{PlaceRow}
use Rattle.fdr_check.proofs.Overlapping.{overlap_with_no_place, overlap_not_yet, overlap_found, shared_by_marks}
use Rattle.fdr_check.proofs.overlap.overlap_above.Goals as goal

pub loop-other-init : goal.loop-other-init
loop-other-init c = overlap_with_no_place c.args.words c.args.place.now

pub returns-in-Some : goal.returns-in-Some
returns-in-Some c =
    let w = c.args.words in
    let p = c.other-item.result in
    let q = c.args.place.now in
    overlap_found w c.args.above.now q c.loop-other.other-index p c.in-Some.bit c.place.inside.row c.overlap_at.result c.loop-other-test.true c.other-item.is
    c.loop-other.invariant
    (sym (c.in-Some.ensures ∙ shared_by_marks w p q c.args.marks.now c.requires.marks)) (ap (λ (x : PlaceRow). x.row) c.place.view_is) c.overlap_at.ensures

pub loop-other-preserved : goal.loop-other-preserved
loop-other-preserved c =
    let w = c.args.words in
    let p = c.other-item.result in
    let q = c.args.place.now in
    overlap_not_yet w c.args.above.now q c.loop-other.other-index p c.loop-other-test.true c.other-item.is c.loop-other.invariant
    (sym (c.in_default.ensures ∙ shared_by_marks w p q c.args.marks.now c.requires.marks))

pub returns : goal.returns
returns c = grind (arith, common_steps) steps 2000000
