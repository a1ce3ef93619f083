use Rattle.std.proofs.Common.{◌++◌, None, length, ap, ◌∙◌, arith}
use Rattle.fdr_stream.specs.Packing.{last_byte}
use Rattle.fdr_stream.specs.Waiting.{WaitingBytes}
use Rattle.fdr_stream.proofs.Rooms.{byte_filled, length_whole}
use Rattle.fdr_stream.proofs.waiting.Waiting.fill_byte.Goals as goal

pub returns : goal.returns
returns c =
    let room = c.self.inside.room.items in
    let whole = length_whole room c.self.inside.halves c.self.invariant in
    let items = ap (λ (w : WaitingBytes). length w.items) c.self.view_is in
    let capacity = ap (λ (w : WaitingBytes). w.capacity) c.self.view_is in
    byte_filled room c.self.inside.halves c.self.invariant (omega (arith, whole, items, capacity, c.requires))
    ∙ ap (λ (w : WaitingBytes). record w { items = w.items ++ last_byte w.odd; odd = None }) c.self.view_is
