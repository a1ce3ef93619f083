use Rattle.std.proofs.Common.{sym, subst, arith}
use Rattle.fdr_stream.specs.Kept.{StreamKept, HasEmptySlots}
use Rattle.fdr_stream.specs.View.{drawing_kept}
use Rattle.fdr_stream.proofs.LateSlots.{zeros_fit}
use Rattle.fdr_stream.proofs.drawing.Drawing.draw_empty_slots.Goals as goal

pub pack_zeros-requires-clause-within_block : goal.pack_zeros-requires-clause-within_block
pack_zeros-requires-clause-within_block c =
    let k = drawing_kept c.self.inside in
    let empty : HasEmptySlots k c.args.count = subst (λ (x : StreamKept). HasEmptySlots x c.args.count) (sym c.self.view_is) c.requires.empty in
    omega (arith, c.draw_empty_slots-count.ensures.most, zeros_fit k c.args.count empty, c.self.invariant.high)

pub pack_zeros-requires-clause-room : goal.pack_zeros-requires-clause-room
pack_zeros-requires-clause-room c =
    let k = drawing_kept c.self.inside in
    let empty : HasEmptySlots k c.args.count = subst (λ (x : StreamKept). HasEmptySlots x c.args.count) (sym c.self.view_is) c.requires.empty in
    omega (arith, c.draw_empty_slots-count.ensures.most, zeros_fit k c.args.count empty)
