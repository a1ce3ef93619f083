use Rattle.std.proofs.Common.{◌≡◌, ◌==◌, ◌-◌, Bool, true, false, get_or, sym, ap, ◌∙◌, arith}
use Rattle.std.proofs.lemmas.Bool.{eq-eqb, ne_eqb}
use Rattle.std.proofs.lemmas.List.FromFn.{get_or-map-range_with_len}
use Rattle.fdr_table.specs.Rows.{PlaceRow}
use Rattle.fdr_check.specs.Occurrences.{part_width}
use Rattle.fdr_check.proofs.Counting.{not_all_filtered}
use Rattle.fdr_check.proofs.parts.have_equal_widths.Goals as goal

pub returns-then-place-widths : goal.returns-then-place-widths
returns-then-place-widths c =
    let n = c.args.param in
    let p = c.place-item.result in
    let i = c.loop-place.place-index in
    let widths = part_width c.args.places.now n in
    let f : PlaceRow → Bool = λ l. l.param == n in
    let t : PlaceRow → Bool = λ l. l.width == widths l.part in
    let param : c.place.inside.param ≡ p.param = ap (λ (l : PlaceRow). l.param) c.place.view_is in
    let width : c.place.inside.width ≡ p.width = ap (λ (l : PlaceRow). l.width) c.place.view_is in
    let part : c.place.inside.part ≡ p.part = ap (λ (l : PlaceRow). l.part) c.place.view_is in
    let kept : f p ≡ true = eq-eqb _ _ (sym param ∙ c.if-place-param.true) in
    let read : get_or c.part_widths-widths.result (c.place.inside.part - 1) 0 ≡ widths p.part =
    ap (λ xs. get_or xs (c.place.inside.part - 1) 0) c.part_widths-widths.ensures
    ∙ get_or-map-range_with_len widths 1 4 (c.place.inside.part - 1) p.part 0 (omega (arith, c.place.invariant.part_low, c.place.invariant.part_high))
    (omega (arith, part, c.place.invariant.part_low)) in
    let fails : t p ≡ false = ne_eqb _ _ (λ e. c.if-place-widths.true (width ∙ e ∙ sym read)) in
    sym (not_all_filtered f t c.args.places.now i p c.loop-place-test.true (ap f (sym c.place-item.is) ∙ kept) (ap t (sym c.place-item.is) ∙ fails))
