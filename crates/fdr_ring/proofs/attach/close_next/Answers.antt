use Rattle.std.proofs.Common.{◌≡◌, ◌∙◌, ℕ, List, ap, subst, arith, rules}
use Rattle.std.specs.Prelude.{IsTrue}
use Rattle.fdr_deck.proofs.Composing.{refusal, Succeeds-then}
use Rattle.fdr_slot.specs.Places.{gate_at}
use Rattle.fdr_ring.specs.Rings.{IsAttaching, ChangesImage, HasAttached}
use Rattle.fdr_ring.specs.Closing.{IsTurned, image_with_closed_gate}
use Rattle.fdr_ring.proofs.Attaching.{IsFound, IsFound-deck, attaching_image, attaching_quiet, attached_run, attached_ring}
use Rattle.fdr_ring.proofs.attach.close_next.Given.{Over}
use Rattle.fdr_ring.proofs.attach.close_next.Goals.{After-shut_gate, In_ok-shut_gate}
use Rattle.fdr_ring.proofs.attach.close_next.Goals as goal

-- the number that was found
found : (g : Over) (c : After-shut_gate g) → IsTrue g.D.Deck.tells.bytes
    → IsFound c.args.h.now c.in_ok-found.found.next (g.D.Deck.state c.args.deck.now).held
found g c = IsFound-deck _ _ _ _ c.requires.limits (g.met.D.Deck.sound c.args.deck.now) c.requires.whole c.in_ok-found.ensures.next

-- the image, whether or not the gate was closed, and the moments until then
changes : (g : Over) (c : After-shut_gate g) → let s = g.D.Deck.state in
    ChangesImage g.D.Deck.tells (IsAttaching c.args.h.now) (s c.args.deck.now) (s c.shut_gate.new.deck)
changes g c = record {
  keeps = λ told.
      let Turned : List ℕ → Type 0 = λ held. IsTurned c.gate_at.result held (g.D.Deck.state c.shut_gate.new.deck).held in
      attaching_image _ _ _ _ _ (found g c told) c.gate_at.ensures.at
      (subst Turned c.scan.ensures.looks.disk.held (c.shut_gate.ensures.closes.turned told));
  extent = c.shut_gate.ensures.closes.extent ∙ c.scan.ensures.looks.extent;
  disk_work = attaching_quiet _ _ _ _ _ _ _ (g.met.D.Deck.sound c.args.deck.now) (found g c) c.gate_at.ensures.at c.scan.ensures.looks.disk
      c.scan.ensures.looks.disk_work c.shut_gate.ensures.closes.disk_work;
}

-- where the call succeeded, the gate of that number is closed
closed : (g : Over) (c : In_ok-shut_gate g) → IsTrue g.D.Deck.tells.bytes → (g.D.Deck.state c.shut_gate.new.deck).held
    ≡ image_with_closed_gate (gate_at c.args.h.now c.in_ok-found.found.next) (g.D.Deck.state c.args.deck.now).held
closed g c told =
    c.in_ok-shut_gate.ensures.closed.held told ∙ ap (image_with_closed_gate c.gate_at.result) c.scan.ensures.looks.disk.held
    ∙ ap (λ at. image_with_closed_gate at (g.D.Deck.state c.args.deck.now).held) c.gate_at.ensures.at

-- the run was not found
pub returns-in_err-found : goal.returns-in_err-found
returns-in_err-found g c = rw (refusal _ _ c.from_residual.ensures.1) (search (rules, g.met.D.Deck.sound, c.in_err-found.ensures))

-- the gate was not closed
pub returns-in_err-shut_gate : goal.returns-in_err-shut_gate
returns-in_err-shut_gate g c =
    let at = goal.at.returns-in_err-shut_gate g c in
    rw (refusal _ _ c.from_residual-in_err-shut_gate.ensures.1, ← c.in_ok-found.ensures.succeeds.disk_faults)
    (search (rules, changes g at.After-shut_gate, g.met.D.Deck.rest_then, c.in_err-shut_gate.ensures, c.scan.ensures))

-- the run is answered
pub returns : goal.returns
returns g c =
    let was = c.in_ok-found.ensures in
    let s = g.D.Deck.state in
    let at = goal.at.returns g c in
    let is = closed g at.In_ok-shut_gate in
    let attached : HasAttached g.D.Deck.tells c.args.h.now c.in_ok-found.found.next (s c.args.deck.now) (s c.shut_gate.new.deck) = record {
      next = was.next;
      held = λ told. is told
          ∙ ap (λ n. image_with_closed_gate (gate_at c.args.h.now n) (s c.args.deck.now).held) (was.next told);
      run = λ told. attached_run _ _ _ _ (found g at.After-shut_gate told) (is told);
      settled = c.in_ok-shut_gate.ensures.settled;
      succeeds = Succeeds-then _ _ _ was.succeeds c.in_ok-shut_gate.ensures.closed.succeeds;
    } in
    let fact = attached_ring _ _ _ (s c.args.deck.now) (s c.shut_gate.new.deck) (g.met.D.Deck.sound c.args.deck.now)
    (omega (arith, c.requires.whole, c.scan.ensures.looks.extent, c.shut_gate.ensures.closes.extent)) (found g at.After-shut_gate)
    is c.in_ok-shut_gate.ensures.settled in
    search (rules, attached, fact, changes g at.After-shut_gate, g.met.D.Deck.rest_then, was.session, was.old_version, was, c.in_ok-shut_gate.ensures)
