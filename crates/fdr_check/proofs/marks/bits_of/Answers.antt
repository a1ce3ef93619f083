use Rattle.std.proofs.Common.{◌+◌, ◌-◌, ◌*◌, ◌%◌, ◌^◌, refl, subst, arith}
use Rattle.fdr_table.specs.Rows.{PlaceRow}
use Rattle.fdr_table.specs.Views.{place_view}
use Rattle.fdr_check.specs.Walks.{AreItsBits}
use Rattle.fdr_check.proofs.Marking.{mask_is, mask_order}
use Rattle.fdr_check.proofs.marks.bits_of.Goals as goal

pub overflow_sub-result : goal.overflow_sub-result
overflow_sub-result c =
    let p = c.place.inside in
    mask_order (p.lsb - 1) (p.lsb - 1 + p.width) (omega arith) (omega (arith, c.place.invariant.lsb_low, c.place.invariant.bits))

pub returns : goal.returns
returns c =
    let p = c.place.inside in
    let low = p.lsb - 1 in
    subst (λ (x : PlaceRow). AreItsBits x (1 * 2 ^ (low + p.width) % 65536 - 1 * 2 ^ low % 65536)) c.place.view_is
    (mask_is (place_view p) low (low + p.width) _ (omega (arith, c.place.invariant.lsb_low)) refl
    (omega (arith, c.place.invariant.lsb_low, c.place.invariant.bits)) refl)
