use Rattle.std.proofs.Common.{◌<◌, length, sym, subst, arith}
use Rattle.fdr_stream.specs.Kept.{StreamKept, HasEmptySlots}
use Rattle.fdr_stream.specs.View.{drawing_kept}
use Rattle.fdr_stream.proofs.LateSlots.{HasEmptySlots-run}
use Rattle.fdr_stream.proofs.drawing.Drawing.next_empty_slots.Goals as goal

pub returns : goal.returns
returns c =
    let k = drawing_kept c.self.inside in
    let room = subst (λ (x : StreamKept). length x.bytes < x.payload) (sym c.self.view_is) c.requires.room in
    subst (λ (x : StreamKept). HasEmptySlots x c.min.result) c.self.view_is
    (HasEmptySlots-run k c.next_empty_slots.result c.min.result c.next_empty_slots.ensures (omega (arith, c.min.ensures))
    (omega (arith, c.min.ensures, c.len.ensures.len)) room)
