use Rattle.std.proofs.Common.{rules}
use Rattle.fdr_deck.proofs.Composing.{refusal, calls, held_last}
use Rattle.fdr_ring.proofs.Changing.{ChangesImage-write, ChangesImage-sync}
use Rattle.fdr_ring.proofs.write.open_gate.Goals as goal

pub returns-in_err-write : goal.returns-in_err-write
returns-in_err-write g c =
    rw (refusal _ _ c.from_residual.ensures.1) (search (rules, calls, ChangesImage-write, g.met.D.Deck.sound, c.in_err-write.ensures))

pub returns : goal.returns
returns g c =
    let written = held_last c.sync.result c.sync.ensures.held c.in_ok-write.ensures.writes.held in
    rw (← c.in_ok-write.ensures.succeeds.disk_faults)
    (search (rules, calls, ChangesImage-sync, ChangesImage-write, g.met.D.Deck.sound, g.met.D.Deck.rest_then, c.in_ok-write.ensures, c.sync.ensures, written))
