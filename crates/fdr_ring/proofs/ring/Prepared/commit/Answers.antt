use Rattle.std.proofs.Common.{◌≡◌, ◌∙◌, ℕ, Some, [], ◌∷◌, ap, arith, rules}
use Rattle.std.specs.Prelude.{IsTrue}
use Rattle.fdr_deck.specs.Disk.{patched}
use Rattle.fdr_deck.proofs.Composing.{refusal}
use Rattle.fdr_slot.proofs.HeaderLemmas.{in_limits-is}
use Rattle.fdr_recover.specs.Blocks.{Block}
use Rattle.fdr_ring.specs.Gates.{image_with_open_gate, waiting_block}
use Rattle.fdr_ring.specs.Rings.{IsCommitting, ChangesImage}
use Rattle.fdr_ring.proofs.Committed.{committing_deck, committing_quiet, committed, committed_ring}
use Rattle.fdr_ring.proofs.ring.Prepared.commit.Given.{Over}
use Rattle.fdr_ring.proofs.ring.Prepared.commit.Goals.{After-open_gate}
use Rattle.fdr_ring.proofs.ring.Prepared.commit.Goals as goal

-- the image, whether or not the gate was opened, and the moments until then
changes : (g : Over) (c : After-open_gate g) → let s = g.D.Deck.state in
    ChangesImage g.D.Deck.tells (IsCommitting c.args.self.header c.args.self.next) (s c.args.deck.now) (s c.open_gate.new.deck)
changes g c = record {
  keeps = λ told. committing_deck _ _ _ _ _ _ (in_limits-is c.args.self.header c.args.self.limits) (g.met.D.Deck.sound c.args.deck.now)
      c.requires c.gate_at.ensures.at told (c.open_gate.ensures.changes.keeps told);
  extent = c.open_gate.ensures.changes.extent;
  disk_work = committing_quiet _ _ _ _ _ _ (in_limits-is c.args.self.header c.args.self.limits) (g.met.D.Deck.sound c.args.deck.now)
      c.requires c.gate_at.ensures.at c.open_gate.ensures.changes.disk_work;
}

-- the gate was not opened
pub returns-in_err-open_gate : goal.returns-in_err-open_gate
returns-in_err-open_gate g c =
    rw (refusal _ _ c.from_residual.ensures.1)
    (search (rules, changes g (goal.at.returns-in_err-open_gate g c).After-open_gate, c.in_err-open_gate.ensures))

-- it was opened
pub returns : goal.returns
returns g c =
    let h = c.args.self.header in
    let number = c.args.self.next in
    let old = g.D.Deck.state c.args.deck.now in
    let new = g.D.Deck.state c.open_gate.new.deck in
    let limits = in_limits-is h c.args.self.limits in
    let sound = g.met.D.Deck.sound c.args.deck.now in
    let held : IsTrue g.D.Deck.tells.bytes → new.held ≡ image_with_open_gate h old.held number =
    λ told. c.in_ok-open_gate.ensures.written told ∙ ap (λ (at : ℕ). patched at (0x5a ∷ []) old.held) c.gate_at.ensures.at in
    let added = λ (told : IsTrue g.D.Deck.tells.bytes) (b : Block) (waits : waiting_block h old.held number ≡ Some b).
    committed h number b old.held new.held limits (c.requires.ring.next told) (c.requires.ring.closed told)
    (omega (arith, c.requires.ring.extent, sound.size told)) waits (held told) in
    let fact = committed_ring _ h number old new limits sound c.requires c.open_gate.ensures.changes.extent held c.in_ok-open_gate.ensures.settled in
    search (rules, changes g (goal.at.returns g c).After-open_gate, held, added, fact, c.in_ok-open_gate.ensures)
