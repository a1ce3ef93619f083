use Rattle.std.proofs.Common.{rules}
use Rattle.fdr_deck.proofs.Composing.{refusal, calls}
use Rattle.fdr_recover.proofs.Looking.{looks}
use Rattle.fdr_recover.proofs.slots.head_in.Goals as goal

pub returns-in_err-read : goal.returns-in_err-read
returns-in_err-read g c =
    rw (refusal _ _ c.from_residual.ensures.1) (search (rules, calls, looks, g.met.D.Deck.sound, c.in_err-read.ensures))

pub returns-clause-looks : goal.returns-clause-looks
returns-clause-looks g c = search (looks, g.met.D.Deck.sound, c.read.ensures)

pub returns-clause-succeeds : goal.returns-clause-succeeds
returns-clause-succeeds g c = c.in_ok-read.ensures.succeeds

pub returns-clause-rest : goal.returns-clause-rest
returns-clause-rest g c = c.read.ensures.rest
