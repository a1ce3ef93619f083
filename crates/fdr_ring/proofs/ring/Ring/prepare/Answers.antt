use Rattle.std.proofs.Common.{length, refl, rules}
use Rattle.std.specs.Prelude.{IsTrue}
use Rattle.fdr_deck.proofs.Composing.{refusal}
use Rattle.fdr_deck.proofs.Moments.{IsDiskWork-here}
use Rattle.fdr_slot.proofs.HeaderLemmas.{in_limits-is}
use Rattle.fdr_ring.specs.Rings.{IsPreparing, ChangesImage}
use Rattle.fdr_ring.proofs.Bytes.{Torn-of-same}
use Rattle.fdr_ring.proofs.Placing.{IsReady, IsReady-deck, body_image}
use Rattle.fdr_ring.proofs.ring.Ring.prepare.Goals as goal

-- there is no number left
pub returns-then-self-eq-SEQUENCE_END : goal.returns-then-self-eq-SEQUENCE_END
returns-then-self-eq-SEQUENCE_END g c =
    let h = c.args.self.header in
    let d = g.D.Deck.state c.args.deck.now in
    let sound = g.met.D.Deck.sound c.args.deck.now in
    let ready : IsTrue g.D.Deck.tells.bytes → IsReady h c.args.self.next (length c.args.bytes.now) d.held =
    IsReady-deck _ _ _ _ _ (in_limits-is h c.args.self.limits) c.requires.fits sound c.requires.fact in
    let changes : ChangesImage g.D.Deck.tells (IsPreparing h c.args.self.next (length c.args.bytes.now)) d d = record {
      keeps = λ told. body_image _ _ _ _ _ (ready told) (Torn-of-same _ _ _ _ refl);
      extent = refl;
      disk_work = IsDiskWork-here _ _ _ sound
          (λ told image leaves settled. body_image _ _ _ _ _ (ready (sound.stops_need_bytes told)) (Torn-of-same _ _ _ _ (settled image leaves)));
    } in
    search (rules, changes, c.if-self-eq-SEQUENCE_END.true, g.met.D.Deck.rest_here)

-- the block was not placed
pub returns-in_err-place_block : goal.returns-in_err-place_block
returns-in_err-place_block g c = rw (refusal _ _ c.from_residual.ensures.1) (search (rules, c.if-self-eq-SEQUENCE_END.false, c.in_err-place_block.ensures))

-- it was placed
pub returns : goal.returns
returns g c = search (rules, c.if-self-eq-SEQUENCE_END.false, c.in_ok-place_block.ensures)
