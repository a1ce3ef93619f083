use Rattle.std.proofs.Common.{rules, ◌≡◌, ◌+◌, ◌≤◌, length, replicate, sym, subst, ap, ◌∙◌, arith}
use Rattle.std.specs.Vec.{vec_len}
use Rattle.std.proofs.lemmas.Grind.{get_or_default_zero, common_steps}
use Rattle.fdr_stream.specs.Waiting.{WaitingBytes, IsZeroFrom}
use Rattle.fdr_stream.proofs.Rooms.{IsWaiting-moved, length_whole, zeros_only}
use Rattle.fdr_stream.proofs.waiting.Waiting.give.Goals as goal

pub invariant_of-self : goal.invariant_of-self
invariant_of-self c =
    let room = c.self.inside.room.items in
    let n = c.args.count in
    let whole = length_whole room c.self.inside.halves c.self.invariant in
    let items = ap (λ (w : WaitingBytes). length w.items) c.self.view_is in
    let capacity = ap (λ (w : WaitingBytes). w.capacity) c.self.view_is in
    let inside : n + 2 ≤ length room = omega (arith, capacity, c.requires.room) in
    let filled : c.fill.new.self.items ≡ replicate (vec_len c.self.inside.room) 0 = c.fill.ensures.items (λ y zero. zero) in
    let long : length c.fill.new.self.items ≡ length room = search rules in
    IsWaiting-moved room c.fill.new.self.items c.self.inside.halves n c.index-next.result.now c.index-last.result.now c.self.invariant
    (omega (arith, whole, items, c.requires.whole)) (omega (arith, whole, items, c.requires.few_left)) (omega (arith, long, inside))
    (subst (λ xs. IsZeroFrom xs 0) (sym filled) (zeros_only (vec_len c.self.inside.room)))
    (c.index-next.ensures ∙ get_or_default_zero room n c.index-next.result.now (omega (arith, inside)))
    (c.index-last.ensures ∙ get_or_default_zero room (n + 1) c.index-last.result.now (omega (arith, inside)))

pub returns-clause-given : goal.returns-clause-given
returns-clause-given c = grind (arith, common_steps) steps 2000000

pub returns-clause-rest : goal.returns-clause-rest
returns-clause-rest c = grind (arith, common_steps) steps 2000000
