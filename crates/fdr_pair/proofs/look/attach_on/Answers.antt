use Rattle.std.proofs.Common.{◌≡◌, ◌∙◌, ℕ, ◌-◌, List, ap, subst, sym, arith}
use Rattle.std.specs.Prelude.{IfOk}
use Rattle.std.proofs.lemmas.Result.{IfOk-weaker, on_err_weaker}
use Rattle.fdr_recover.specs.Images.{next_of, recovered_run}
use Rattle.fdr_recover.specs.Stretches.{last_session}
use Rattle.fdr_ring.specs.Runs.{last_blocks}
use Rattle.fdr_ring.specs.Rings.{IsAttaching}
use Rattle.fdr_twin.specs.Pair.{disk_on, seen}
use Rattle.fdr_twin.specs.Same.{IsSameState}
use Rattle.fdr_twin.proofs.Same.{IsSettled-same}
use Rattle.fdr_pair.proofs.Sides.{serves_side, facing_side, turned_side, rose_side, no_fault_side, IsSureRing-same}
use Rattle.fdr_pair.proofs.look.attach_on.Given.{Over}
use Rattle.fdr_pair.proofs.look.attach_on.Goals.{After-turn}
use Rattle.fdr_pair.proofs.look.attach_on.Goals as goal
use Rattle.fdr_pair.proofs.SideCounts.{counted_turned}

-- the twin's deck, once it is turned to the side
turned : (g : Over) (c : After-turn g) → IsSameState (seen c.args.side (g.T.Twin.pair c.args.twin.now)) (g.T.Deck.state c.turn.new.self)
turned g c = turned_side _ _ _ _ c.turn.ensures.turns (g.met.T.Twin.faces c.turn.new.self)

pub attach-requires-clause-whole : goal.attach-requires-clause-whole
attach-requires-clause-whole g c = omega (arith, c.requires.whole, (turned g (goal.at.attach-requires-clause-whole g c).After-turn).extent)

pub returns-clause-next : goal.returns-clause-next
returns-clause-next g c told =
    let held = (turned g (goal.at.returns-clause-next g c).After-turn).held in
    IfOk-weaker c.attach.result _ _ (λ r attached. attached.next told ∙ ap (λ (l : List ℕ). next_of c.args.h l) held) c.attach.ensures.attached

pub returns-clause-session : goal.returns-clause-session
returns-clause-session g c told =
    subst (λ (l : List ℕ). IfOk c.attach.result (λ r. r.session ≡ last_session (recovered_run c.args.h l)))
    (turned g (goal.at.returns-clause-session g c).After-turn).held (c.attach.ensures.session told)

pub returns-clause-serves : goal.returns-clause-serves
returns-clause-serves g c =
    serves_side _ (IsAttaching c.args.h) _ _ _ _ _ _ (g.met.T.Twin.sound_pair c.args.twin.now) (g.met.T.Twin.sound_pair c.turn.new.self) c.turn.ensures.turns
    (g.met.T.Twin.faces c.turn.new.self) (g.met.T.Twin.faces c.attach.new.deck)
    (g.met.T.Twin.leaves_rest c.turn.new.self c.attach.new.deck c.attach.ensures.rest) c.attach.ensures.changes.disk_work

pub returns-clause-fact : goal.returns-clause-fact
returns-clause-fact g c =
    let rest = g.met.T.Twin.leaves_rest c.turn.new.self c.attach.new.deck c.attach.ensures.rest in
    let faces = facing_side _ _ c.args.side (g.met.T.Twin.faces c.attach.new.deck) (rest.turned ∙ c.turn.ensures.turns.turned) in
    IfOk-weaker c.attach.result _ _ (λ r sure. IsSureRing-same _ _ _ _ _ faces.extent faces.held faces.left sure) c.attach.ensures.fact

pub returns-clause-settled : goal.returns-clause-settled
returns-clause-settled g c =
    let rest = g.met.T.Twin.leaves_rest c.turn.new.self c.attach.new.deck c.attach.ensures.rest in
    let faces = facing_side _ _ c.args.side (g.met.T.Twin.faces c.attach.new.deck) (rest.turned ∙ c.turn.ensures.turns.turned) in
    IfOk-weaker c.attach.result _ _ (λ r attached told. IsSettled-same _ _ faces (attached.settled told)) c.attach.ensures.attached

-- what the side holds after the ring is attached
pub returns-clause-keeps : goal.returns-clause-keeps
returns-clause-keeps g c told =
    let rest = g.met.T.Twin.leaves_rest c.turn.new.self c.attach.new.deck c.attach.ensures.rest in
    let faces = facing_side _ _ c.args.side (g.met.T.Twin.faces c.attach.new.deck) (rest.turned ∙ c.turn.ensures.turns.turned) in
    subst (λ (l : List ℕ). IsAttaching c.args.h l (disk_on c.args.side (g.T.Twin.pair c.attach.new.deck)).held)
    (turned g (goal.at.returns-clause-keeps g c).After-turn).held
    (subst (λ (l : List ℕ). IsAttaching c.args.h (g.T.Deck.state c.turn.new.self).held l) (sym faces.held) (c.attach.ensures.changes.keeps told))

pub returns-clause-run : goal.returns-clause-run
returns-clause-run g c =
    let rest = g.met.T.Twin.leaves_rest c.turn.new.self c.attach.new.deck c.attach.ensures.rest in
    let faces = facing_side _ _ c.args.side (g.met.T.Twin.faces c.attach.new.deck) (rest.turned ∙ c.turn.ensures.turns.turned) in
    let held = (turned g (goal.at.returns-clause-run g c).After-turn).held in
    IfOk-weaker c.attach.result _ _
    (λ r attached told. ap (recovered_run c.args.h) faces.held ∙ attached.run told
    ∙ ap (λ (l : List ℕ). last_blocks (c.args.h.slots - 1) (recovered_run c.args.h l)) held)
    c.attach.ensures.attached

pub returns-clause-extent : goal.returns-clause-extent
returns-clause-extent g c =
    let rest = g.met.T.Twin.leaves_rest c.turn.new.self c.attach.new.deck c.attach.ensures.rest in
    let faces = facing_side _ _ c.args.side (g.met.T.Twin.faces c.attach.new.deck) (rest.turned ∙ c.turn.ensures.turns.turned) in
    faces.extent ∙ c.attach.ensures.changes.extent ∙ (turned g (goal.at.returns-clause-extent g c).After-turn).extent

pub returns-clause-no_fault : goal.returns-clause-no_fault
returns-clause-no_fault g c =
    let rest = g.met.T.Twin.leaves_rest c.turn.new.self c.attach.new.deck c.attach.ensures.rest in
    IfOk-weaker c.attach.result _ _
    (λ r attached. no_fault_side _ _ _ _ _ _ c.turn.ensures.turns (g.met.T.Twin.faces c.turn.new.self) (g.met.T.Twin.faces c.attach.new.deck) rest
    attached.succeeds)
    c.attach.ensures.attached

pub returns-clause-cause : goal.returns-clause-cause
returns-clause-cause g c =
    on_err_weaker c.attach.result (rose_side _ _ _ _ _ _ c.turn.ensures.turns (g.met.T.Twin.faces c.turn.new.self) (g.met.T.Twin.faces c.attach.new.deck)
    (g.met.T.Twin.leaves_rest c.turn.new.self c.attach.new.deck c.attach.ensures.rest)) c.attach.ensures.cause

pub returns-clause-counts : goal.returns-clause-counts
returns-clause-counts g c =
    counted_turned _ c.args.side _ _ _ (g.met.T.Twin.sound_pair c.args.twin.now) (g.met.T.Twin.sound_pair c.turn.new.self) c.turn.ensures.turns
    (g.met.T.Twin.leaves_rest c.turn.new.self c.attach.new.deck c.attach.ensures.rest)
