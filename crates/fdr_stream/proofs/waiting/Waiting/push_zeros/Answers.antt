use Rattle.std.proofs.Common.{◌+◌, ◌*◌, ◌≤◌, length, replicate, ap, ◌∙◌, arith}
use Rattle.fdr_stream.specs.Waiting.{WaitingBytes, with_words}
use Rattle.fdr_stream.proofs.Rooms.{zeros_pushed, IsWaiting-more, length_whole}
use Rattle.fdr_stream.proofs.waiting.Waiting.push_zeros.Goals as goal

fits : (c : goal.After-self-1) → c.self.inside.halves + 3 * c.args.count ≤ 2 * length c.self.inside.room.items
fits c =
    let whole = length_whole c.self.inside.room.items c.self.inside.halves c.self.invariant in
    let items = ap (λ (w : WaitingBytes). length w.items) c.self.view_is in
    let room = ap (λ (w : WaitingBytes). w.capacity) c.self.view_is in
    omega (arith, whole, items, room, c.requires.room)

pub invariant_of-self : goal.invariant_of-self
invariant_of-self c = IsWaiting-more c.self.inside.room.items c.self.inside.halves (3 * c.args.count) c.self.invariant (fits c)

pub returns : goal.returns
returns c =
    zeros_pushed c.self.inside.room.items c.self.inside.halves c.args.count c.self.invariant (fits c)
    ∙ ap (λ (w : WaitingBytes). with_words w (replicate c.args.count 0)) c.self.view_is
