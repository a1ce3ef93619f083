use Rattle.std.proofs.Common.{◌≡◌, ◌∙◌, [], ◌∷◌, sym, ap, arith, rules}
use Rattle.std.specs.Prelude.{slice_index, IsTrue}
use Rattle.fdr_deck.specs.Disk.{Writes, patched}
use Rattle.fdr_deck.specs.Calls.{Succeeds}
use Rattle.fdr_deck.proofs.Composing.{refusal, Succeeds-then}
use Rattle.fdr_ring.specs.Closing.{HasClosedGate}
use Rattle.fdr_ring.proofs.Results.{map_both}
use Rattle.fdr_ring.proofs.Bytes.{byte_read, shut_open, shut_closed}
use Rattle.fdr_ring.proofs.Changing.{ClosesGate-look, ClosesGate-write}
use Rattle.fdr_ring.proofs.close.close_open_gate.Goals as goal

-- the gate was not read
pub returns-in_err-read : goal.returns-in_err-read
returns-in_err-read g c = rw (refusal _ _ c.from_residual.ensures.1) (search (rules, ClosesGate-look, g.met.D.Deck.sound, c.in_err-read.ensures))

-- it is closed
pub returns-then-gate-ne-OPEN : goal.returns-then-gate-ne-OPEN
returns-then-gate-ne-OPEN g c =
    let held = (g.D.Deck.state c.args.deck.now).held in
    let closed : HasClosedGate g.D.Deck.tells c.args.at (g.D.Deck.state c.args.deck.now) (g.D.Deck.state c.read.new.self) = record {
      held = λ told.
          let byte : slice_index held c.args.at ≡ slice_index c.read.new.buf 0 =
          byte_read c.args.at held c.read.new.buf (c.in_ok-read.ensures.reads told) (omega arith) in
          c.read.ensures.disk.held ∙ sym (shut_closed c.args.at held
          (λ open_gate. c.if-gate-ne-OPEN.true (sym byte ∙ open_gate)));
      succeeds = c.in_ok-read.ensures.succeeds;
    } in
    search (rules, ClosesGate-look, closed, g.met.D.Deck.sound, c.in_ok-read.ensures)

-- it was written
pub returns : goal.returns
returns g c =
    let s = g.D.Deck.state in
    let held = (s c.args.deck.now).held in
    let open_gate : IsTrue g.D.Deck.tells.bytes → slice_index held c.args.at ≡ 0x5a = λ told.
    byte_read c.args.at held c.read.new.buf (c.in_ok-read.ensures.reads told) (omega arith) ∙ c.if-gate-ne-OPEN.false in
    let closed = map_both c.write.result (Writes g.D.Deck.tells c.args.at (0 ∷ []) (s c.read.new.self) (s c.write.new.self))
    (Succeeds (s c.read.new.self) (s c.write.new.self)) (HasClosedGate g.D.Deck.tells c.args.at (s c.args.deck.now) (s c.write.new.self))
    (λ wrote done. record {
      held = λ told. wrote.held told ∙ ap (patched c.args.at (0 ∷ [])) c.read.ensures.disk.held ∙ sym (shut_open c.args.at held (open_gate told));
      succeeds = Succeeds-then _ _ _ c.in_ok-read.ensures.succeeds done;
    })
    c.write.ensures.writes c.write.ensures.succeeds in
    rw (← c.in_ok-read.ensures.succeeds.disk_faults)
    (search (rules, ClosesGate-look, ClosesGate-write, closed, open_gate, g.met.D.Deck.sound, g.met.D.Deck.rest_then, c.read.ensures, c.write.ensures))
