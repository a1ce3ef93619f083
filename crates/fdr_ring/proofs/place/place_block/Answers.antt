use Rattle.std.proofs.Common.{◌≡◌, ◌∙◌, length, arith, rules}
use Rattle.std.specs.Prelude.{IsTrue}
use Rattle.fdr_deck.specs.Disk.{IsSettled}
use Rattle.fdr_deck.specs.Calls.{Succeeds}
use Rattle.fdr_deck.proofs.Composing.{refusal, Succeeds-then, always_ok}
use Rattle.fdr_ring.specs.Bodies.{image_to_commit}
use Rattle.fdr_ring.specs.Rings.{IsPrepared, IsPreparing, ChangesImage, HasPlaced}
use Rattle.fdr_ring.proofs.Changing.{ChangesImage-sync}
use Rattle.fdr_ring.proofs.Results.{map_both}
use Rattle.fdr_ring.proofs.Placing.{IsReady, IsReady-deck, body_image, body_quiet, placing_image, placing_quiet, prepared_held}
use Rattle.fdr_ring.proofs.Placing.{prepared_block, prepared_run, prepared_ring}
use Rattle.fdr_ring.proofs.place.place_block.Given.{Over}
use Rattle.fdr_ring.proofs.place.place_block.Goals.{After-write_body, After-close_open_gate, After-sync}
use Rattle.fdr_ring.proofs.place.place_block.Goals as goal

-- the ring has room for the block
ready : (g : Over) (c : After-write_body g) → IsTrue g.D.Deck.tells.bytes
    → IsReady c.args.h.now c.args.next (length c.args.bytes.now) (g.D.Deck.state c.args.deck.now).held
ready g c = IsReady-deck _ _ _ _ _ c.requires.limits c.requires.fits (g.met.D.Deck.sound c.args.deck.now) c.requires.fact

-- the body and the following gate, before they are synced
closing : (g : Over) (b : After-write_body g) (c : After-close_open_gate g) → let s = g.D.Deck.state in
    ChangesImage g.D.Deck.tells (IsPreparing c.args.h.now c.args.next (length c.args.bytes.now)) (s c.args.deck.now) (s c.close_open_gate.new.deck)
closing g b c = record {
  keeps = λ told. placing_image _ _ _ _ _ _ _ (IsReady-deck _ _ _ _ _ c.requires.limits c.requires.fits
      (g.met.D.Deck.sound c.args.deck.now) c.requires.fact told)
      (c.write_body.ensures.changes.keeps told) c.gate_at.ensures.at (c.close_open_gate.ensures.closes.turned told);
  extent = c.close_open_gate.ensures.closes.extent ∙ c.write_body.ensures.changes.extent;
  disk_work = placing_quiet _ _ _ _ _ _ _ _ (g.met.D.Deck.sound c.args.deck.now) (g.met.D.Deck.sound c.write_body.new.deck)
      (IsReady-deck _ _ _ _ _ c.requires.limits c.requires.fits (g.met.D.Deck.sound c.args.deck.now) c.requires.fact)
      c.gate_at.ensures.at c.write_body.ensures.changes.keeps c.write_body.ensures.changes.disk_work c.close_open_gate.ensures.closes.disk_work;
}

-- what the disk holds then
held : (g : Over) (c : After-sync g) → IsTrue g.D.Deck.tells.bytes → (g.D.Deck.state c.sync.new.self).held
    ≡ image_to_commit c.args.h.now c.args.next c.args.session c.args.bytes.now (g.D.Deck.state c.args.deck.now).held
held g c told =
    prepared_held c.args.h.now c.args.next c.args.session _ _ _ _ _ _ c.gate_at.ensures.at (c.in_ok-write_body.ensures.written told)
    (c.in_ok-close_open_gate.ensures.closed.held told) c.sync.ensures.held

-- the body was not written
pub returns-in_err-write_body : goal.returns-in_err-write_body
returns-in_err-write_body g c =
    let s = g.D.Deck.state in
    let at = (goal.at.returns-in_err-write_body g c).After-write_body in
    let changes : ChangesImage g.D.Deck.tells (IsPreparing c.args.h.now c.args.next (length c.args.bytes.now)) (s c.args.deck.now) (s c.write_body.new.deck) =
    record {
      keeps = λ told. body_image _ _ _ _ _ (ready g at told) (c.write_body.ensures.changes.keeps told);
      extent = c.write_body.ensures.changes.extent;
      disk_work = body_quiet _ _ _ _ _ _ (g.met.D.Deck.sound c.args.deck.now) (ready g at) c.write_body.ensures.changes.disk_work;
    } in
    rw (refusal _ _ c.from_residual.ensures.1) (search (rules, changes, c.in_err-write_body.ensures))

-- the following gate was not closed
pub returns-in_err-close_open_gate : goal.returns-in_err-close_open_gate
returns-in_err-close_open_gate g c =
    let at = goal.at.returns-in_err-close_open_gate g c in
    rw (refusal _ _ c.from_residual-in_err-close_open_gate.ensures.1, ← c.in_ok-write_body.ensures.succeeds.disk_faults)
    (search (rules, closing g at.After-write_body at.After-close_open_gate, g.met.D.Deck.rest_then, c.in_err-close_open_gate.ensures, c.write_body.ensures))

-- both were synced
pub returns : goal.returns
returns g c =
    let deck = g.met.D.Deck in
    let s = g.D.Deck.state in
    let at = goal.at.returns g c in
    let now = s c.sync.new.self in
    let done = c.in_ok-close_open_gate.ensures.closed.succeeds in
    let Settled : Type 0 = IsTrue g.D.Deck.tells.stops → IsSettled now in
    let Placed : Type 0 = HasPlaced g.D.Deck.tells c.args.h.now c.args.next c.args.session c.args.bytes.now (s c.args.deck.now) now in
    let is = held g at.After-sync in
    let before = closing g at.After-write_body at.After-close_open_gate in
    let placed = map_both c.sync.result Settled (Succeeds (s c.close_open_gate.new.deck) now) Placed
    (λ settled synced. record {
      held = is;
      block = λ told. prepared_block _ _ c.args.session _ _ _ (ready g at.After-write_body told) c.requires.number (omega arith) c.requires.session
          c.requires.some_bytes (is told);
      run = λ told. prepared_run _ _ c.args.session c.args.bytes.now _ _ (ready g at.After-write_body told) (is told);
      settled = settled;
      succeeds = Succeeds-then _ _ _ c.in_ok-write_body.ensures.succeeds (Succeeds-then _ _ _ done synced);
    })
    c.sync.ensures.settles c.sync.ensures.succeeds in
    let fact = always_ok c.sync.result (IsPrepared g.D.Deck.tells c.args.h.now c.args.next now)
    (prepared_ring _ _ _ c.args.session c.args.bytes.now (s c.args.deck.now) _
    (ready g at.After-write_body) c.requires.number (omega arith) c.requires.session c.requires.some_bytes
    (omega (arith, c.requires.fact.extent, c.write_body.ensures.changes.extent, c.close_open_gate.ensures.closes.extent, c.sync.ensures.extent))
    is) in
    rw (← c.in_ok-write_body.ensures.succeeds.disk_faults, ← done.disk_faults)
    (search (rules, ChangesImage-sync, before, placed, fact, deck.sound, deck.rest_then, c.sync.ensures, c.close_open_gate.ensures, c.write_body.ensures))
