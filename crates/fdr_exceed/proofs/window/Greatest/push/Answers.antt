use Rattle.std.proofs.Common.{◌∙◌, ap, sym, subst, length, arith, [], ◌∷◌, ◌++◌, length-append}
use Rattle.std.specs.Prelude.{ℤ, All}
use Rattle.std.proofs.lemmas.Int.{to_z-of_z}
use Rattle.std.proofs.lemmas.List.Elements.{All-append, All-cons, All-drop, All-nil}
use Rattle.circular_buffer.specs.Buffer.{Buffer}
use Rattle.fdr_exceed.specs.Windows.{IsWatched, unsurpassed}
use Rattle.fdr_exceed.proofs.Falling.{push-leaves, unsurpassed-fewer}
use mir.Syntax.{w64}
use mir.Val.{to_z, of_z}
use Rattle.fdr_exceed.proofs.window.Greatest.push.Goals as goal

pub enter-requires : goal.enter-requires
enter-requires c =
    let inv = c.self.invariant in
    let values = c.self.inside.values in
    let v = to_z w64 (of_z w64 c.args.value) in
    let left = push-leaves values.capacity values.items c.self.inside.falling.items c.leave.new.falling.items v c.push_back-first.result
    inv.some_room inv.within inv.falls
    c.push_back-first.ensures.value c.leave.ensures.none c.leave.ensures.first in
    record { room = omega (arith, ap (length {A = ℤ}) left.falls, unsurpassed-fewer left.rest, left.room, c.leave.ensures.room, inv.room) }

pub invariant_of-self : goal.invariant_of-self
invariant_of-self c =
    let inv = c.self.invariant in
    let values = c.self.inside.values in
    let v = to_z w64 (of_z w64 c.args.value) in
    let left = push-leaves values.capacity values.items c.self.inside.falling.items c.leave.new.falling.items v c.push_back-first.result
    inv.some_room inv.within inv.falls
    c.push_back-first.ensures.value c.leave.ensures.none c.leave.ensures.first in
    let kept = ap (λ (b : Buffer ℤ). b.items) c.push_back-first.ensures.items in
    let room = ap (λ (b : Buffer ℤ). b.capacity) c.push_back-first.ensures.items in
    let items = kept ∙ left.keeps in
    let watched : IsWatched v = subst IsWatched (sym (to_z-of_z w64 c.args.value c.ranges.value)) c.requires in
    record {
      some_room = omega (arith, room, inv.some_room);
      within = omega (arith, room, ap (length {A = ℤ}) items, length-append left.rest (v ∷ []), left.room);
      room = c.enter.ensures.room ∙ c.leave.ensures.room ∙ inv.room ∙ sym room;
      falls = c.enter.ensures.entered left.rest left.falls ∙ ap unsurpassed (sym items);
      watched = subst (All IsWatched) (sym kept)
          (All-drop IsWatched _ (values.items ++ v ∷ []) (All-append IsWatched values.items (v ∷ []) inv.watched (All-cons IsWatched v [] watched
          (All-nil IsWatched))));
    }
