use Rattle.std.proofs.Common.{rules}
use Rattle.fdr_deck.proofs.Composing.{refusal, calls}
use Rattle.fdr_ring.proofs.Changing.{ClosesGate-sync, HasClosedGate-sync}
use Rattle.fdr_ring.proofs.attach.shut_gate.Goals as goal

pub returns-in_err-close_open_gate : goal.returns-in_err-close_open_gate
returns-in_err-close_open_gate g c =
    rw (refusal _ _ c.from_residual.ensures.1) (search (rules, c.in_err-close_open_gate.ensures))

pub returns : goal.returns
returns g c =
    let deck = g.met.D.Deck in
    rw (← c.in_ok-close_open_gate.ensures.closed.succeeds.disk_faults)
    (search (rules, calls, ClosesGate-sync, HasClosedGate-sync, deck.sound, deck.rest_then, c.in_ok-close_open_gate.ensures, c.sync.ensures))
