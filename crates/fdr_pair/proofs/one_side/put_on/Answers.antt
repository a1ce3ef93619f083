use Rattle.std.proofs.Common.{List, [], ◌∷◌, ℕ, sym, ◌∙◌, subst}
use Rattle.std.proofs.lemmas.Result.{IfOk-weaker, on_ok_weaker}
use Rattle.fdr_twin.specs.Pair.{seen}
use Rattle.fdr_twin.specs.Same.{IsSameState}
use Rattle.fdr_twin.proofs.Same.{IsSame-sym, IsSettled-same}
use Rattle.fdr_recover.specs.Blocks.{Block}
use Rattle.fdr_pair.specs.Putting.{AddsExactly, HasPut, MayPut}
use Rattle.fdr_pair.proofs.Sides.{serves_side, facing_side, turned_side, rose_side, no_fault_side, IsRing-same, IsSureRing-same}
use Rattle.fdr_pair.proofs.one_side.put_on.Given.{Over}
use Rattle.fdr_pair.proofs.one_side.put_on.Goals.{After-turn}
use Rattle.fdr_pair.proofs.one_side.put_on.Goals as goal
use Rattle.fdr_pair.proofs.Nearness.{near_shown}
use Rattle.fdr_pair.proofs.SideCounts.{counted_turned}

-- the twin's deck, once it is turned to the side
turned : (g : Over) (c : After-turn g) → IsSameState (seen c.args.side (g.T.Twin.pair c.args.twin.now)) (g.T.Deck.state c.turn.new.self)
turned g c = turned_side _ _ _ _ c.turn.ensures.turns (g.met.T.Twin.faces c.turn.new.self)

pub put_block-requires-clause-fact : goal.put_block-requires-clause-fact
put_block-requires-clause-fact g c =
    let same = turned g (goal.at.put_block-requires-clause-fact g c).After-turn in
    IsRing-same _ _ _ _ _ same.extent same.held c.requires.fact

pub returns-clause-serves : goal.returns-clause-serves
returns-clause-serves g c =
    serves_side _ (MayPut c.args.ring.header (record { number = c.args.ring.next; session = c.args.session; payload = c.args.bytes.now })) _ _ _ _ _ _
    (g.met.T.Twin.sound_pair c.args.twin.now) (g.met.T.Twin.sound_pair c.turn.new.self) c.turn.ensures.turns
    (g.met.T.Twin.faces c.turn.new.self) (g.met.T.Twin.faces c.put_block.new.deck)
    (g.met.T.Twin.leaves_rest c.turn.new.self c.put_block.new.deck c.put_block.ensures.rest) c.put_block.ensures.disk_work

pub returns-clause-fact : goal.returns-clause-fact
returns-clause-fact g c =
    let rest = g.met.T.Twin.leaves_rest c.turn.new.self c.put_block.new.deck c.put_block.ensures.rest in
    let faces = facing_side _ _ c.args.side (g.met.T.Twin.faces c.put_block.new.deck) (rest.turned ∙ c.turn.ensures.turns.turned) in
    IfOk-weaker c.put_block.result _ _ (λ r sure. IsSureRing-same _ _ _ _ _ faces.extent faces.held faces.left sure) c.put_block.ensures.fact

pub returns-clause-settled : goal.returns-clause-settled
returns-clause-settled g c =
    let rest = g.met.T.Twin.leaves_rest c.turn.new.self c.put_block.new.deck c.put_block.ensures.rest in
    let faces = facing_side _ _ c.args.side (g.met.T.Twin.faces c.put_block.new.deck) (rest.turned ∙ c.turn.ensures.turns.turned) in
    IfOk-weaker c.put_block.result _ _ (λ r settled told. IsSettled-same _ _ faces (settled told)) c.put_block.ensures.settled

pub returns-clause-put : goal.returns-clause-put
returns-clause-put g c =
    let rest = g.met.T.Twin.leaves_rest c.turn.new.self c.put_block.new.deck c.put_block.ensures.rest in
    let faces = facing_side _ _ c.args.side (g.met.T.Twin.faces c.put_block.new.deck) (rest.turned ∙ c.turn.ensures.turns.turned) in
    let b : Block = record { number = c.args.ring.next; session = c.args.session; payload = c.args.bytes.now } in
    let held = (turned g (goal.at.returns-clause-put g c).After-turn).held in
    IfOk-weaker c.put_block.result _ _
    (λ r put told. subst (λ (l : List ℕ). HasPut c.args.ring.header b l (seen c.args.side (g.T.Twin.pair c.put_block.new.deck)).held) held
    (subst (λ (l : List ℕ). HasPut c.args.ring.header b (g.T.Deck.state c.turn.new.self).held l) (sym faces.held) (put told)))
    c.put_block.ensures.put

pub returns-clause-exact : goal.returns-clause-exact
returns-clause-exact g c =
    let rest = g.met.T.Twin.leaves_rest c.turn.new.self c.put_block.new.deck c.put_block.ensures.rest in
    let faces = facing_side _ _ c.args.side (g.met.T.Twin.faces c.put_block.new.deck) (rest.turned ∙ c.turn.ensures.turns.turned) in
    let b : Block = record { number = c.args.ring.next; session = c.args.session; payload = c.args.bytes.now } in
    let held = (turned g (goal.at.returns-clause-exact g c).After-turn).held in
    IfOk-weaker c.put_block.result _ _
    (λ r exact told. subst (λ (l : List ℕ). AddsExactly c.args.ring.header (b ∷ []) l (seen c.args.side (g.T.Twin.pair c.put_block.new.deck)).held) held
    (subst (λ (l : List ℕ). AddsExactly c.args.ring.header (b ∷ []) (g.T.Deck.state c.turn.new.self).held l) (sym faces.held) (exact told)))
    c.put_block.ensures.exact

pub returns-clause-no_fault : goal.returns-clause-no_fault
returns-clause-no_fault g c =
    on_ok_weaker c.put_block.result (no_fault_side _ _ _ _ _ _ c.turn.ensures.turns (g.met.T.Twin.faces c.turn.new.self)
    (g.met.T.Twin.faces c.put_block.new.deck) (g.met.T.Twin.leaves_rest c.turn.new.self c.put_block.new.deck c.put_block.ensures.rest))
    c.put_block.ensures.succeeds

pub returns-clause-cause : goal.returns-clause-cause
returns-clause-cause g c fails =
    rose_side _ _ _ _ _ _ c.turn.ensures.turns (g.met.T.Twin.faces c.turn.new.self) (g.met.T.Twin.faces c.put_block.new.deck)
    (g.met.T.Twin.leaves_rest c.turn.new.self c.put_block.new.deck c.put_block.ensures.rest) (c.put_block.ensures.cause fails)

pub returns-clause-counts : goal.returns-clause-counts
returns-clause-counts g c =
    counted_turned _ c.args.side _ _ _ (g.met.T.Twin.sound_pair c.args.twin.now) (g.met.T.Twin.sound_pair c.turn.new.self) c.turn.ensures.turns
    (g.met.T.Twin.leaves_rest c.turn.new.self c.put_block.new.deck c.put_block.ensures.rest)

pub returns-clause-near : goal.returns-clause-near
returns-clause-near g c settled told =
    let rest = g.met.T.Twin.leaves_rest c.turn.new.self c.put_block.new.deck c.put_block.ensures.rest in
    let faces = facing_side _ _ c.args.side (g.met.T.Twin.faces c.put_block.new.deck) (rest.turned ∙ c.turn.ensures.turns.turned) in
    let same = turned g (goal.at.returns-clause-near g c).After-turn in
    near_shown _ _ _ _ _ _ _ (IsSame-sym _ _ same) faces
    (c.put_block.ensures.near (λ stops. IsSettled-same _ _ same (settled stops)) (same.announced ∙ told))
