use Rattle.std.proofs.Common.{◌≡◌, ◌+◌, ◌∙◌, List, ℕ, length, take, ap, arith, rules}
use Rattle.std.specs.Prelude.{IsTrue}
use Rattle.std.proofs.lemmas.List.{length-take}
use Rattle.fdr_deck.specs.Disk.{Writes, patched}
use Rattle.fdr_deck.proofs.Composing.{calls}
use Rattle.fdr_slot.specs.Places.{gate_at}
use Rattle.fdr_ring.specs.Bodies.{body_bytes, image_with_body}
use Rattle.fdr_ring.proofs.Changing.{ChangesImage-write}
use Rattle.fdr_ring.proofs.Results.{map_ok}
use Rattle.fdr_ring.proofs.write.write_body.Goals as goal

pub returns : goal.returns
returns g c =
    let s = g.D.Deck.state in
    let old = (s c.args.deck.now).held in
    let part : List ℕ = take (15 + length c.args.bytes.now) c.body_of-body.result in
    let changes = ChangesImage-write _ (gate_at c.args.h.now c.args.seq + 1) (15 + length c.args.bytes.now) _ _ _ _
    (g.met.D.Deck.sound c.args.deck.now) c.write.ensures.tears
    (omega (arith, c.gate_at.ensures.at)) (omega (arith, c.gate_at.ensures.at, length-take (15 + length c.args.bytes.now) c.body_of-body.result))
    c.write.ensures.extent c.write.ensures.passes c.write.ensures.moments in
    let written = map_ok c.write.result (Writes g.D.Deck.tells (c.gate_at.result + 1) part (s c.args.deck.now) (s c.write.new.self))
    (IsTrue g.D.Deck.tells.bytes → (s c.write.new.self).held ≡ image_with_body c.args.h.now c.args.seq c.args.session c.args.bytes.now old)
    (λ wrote told. wrote.held told ∙ ap (λ (l : List ℕ). patched (c.gate_at.result + 1) l old) c.body_of-body.ensures
    ∙ ap (λ k. patched (k + 1) (body_bytes c.args.seq c.args.session c.args.bytes.now) old) c.gate_at.ensures.at)
    c.write.ensures.writes in
    search (rules, calls, changes, written, c.write.ensures)
