use Rattle.std.proofs.Common.{rules}
use Rattle.fdr_deck.proofs.Composing.{refusal}
use Rattle.fdr_ring.proofs.ring.Ring.attach.Goals as goal

-- the gate was not closed
pub returns-in_err-found : goal.returns-in_err-found
returns-in_err-found g c = rw (refusal _ _ c.from_residual.ensures.1) (search (rules, c.in_err-found.ensures))

-- a ring is answered
pub returns : goal.returns
returns g c = search (rules, c.in_ok-found.ensures.session, c.in_ok-found.ensures.old_version, c.in_ok-found.ensures)
