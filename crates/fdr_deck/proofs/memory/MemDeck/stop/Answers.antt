use Rattle.std.proofs.Common.{◌≡◌, subst}
use Rattle.std.specs.Prelude.{IfOk}
use Rattle.fdr_deck.specs.Memory.{Memory, MayStopWithin}
use Rattle.fdr_deck.specs.Stops.{stopped_image}
use Rattle.fdr_deck.proofs.memory.MemDeck.stop.Goals as goal

pub returns-clause-left : goal.returns-clause-left
returns-clause-left c = subst (λ (m : Memory). IfOk c.stop_at.result
    (λ image. MayStopWithin m c.args.call image.items)) c.self.view_is
    (rw (c.deref.ensures.value, c.deref-2.ensures.value) at c.stop_at.ensures.left)

pub returns-clause-image : goal.returns-clause-image
returns-clause-image c = subst (λ (m : Memory). IfOk c.stop_at.result
    (λ image. image.items ≡ stopped_image c.args.tear m c.args.call)) c.self.view_is
    (rw (c.deref.ensures.value, c.deref-2.ensures.value) at c.stop_at.ensures.image)
