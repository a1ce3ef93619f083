use Rattle.std.proofs.Common.{◌≡◌, ◌↔◌, ℕ, List, None, take, subst, arith}
use Rattle.std.specs.Prelude.{IfOk}
use Rattle.std.proofs.lemmas.Result.{on_ok_weaker, on_err_weaker}
use Rattle.fdr_recover.specs.Images.{block_numbered, payload_at, session_at}
use Rattle.fdr_twin.specs.Pair.{seen}
use Rattle.fdr_twin.specs.Same.{IsSameState}
use Rattle.fdr_pair.proofs.Sides.{looks_side, turned_side, rose_side, no_fault_side}
use Rattle.fdr_pair.proofs.PairWorks.{looked_content}
use Rattle.fdr_pair.proofs.read.block_on.Given.{Over}
use Rattle.fdr_pair.proofs.read.block_on.Goals.{After-turn}
use Rattle.fdr_pair.proofs.read.block_on.Goals as goal
use Rattle.fdr_pair.proofs.SideCounts.{counted_turned}

-- the twin's deck, once it is turned to the side
turned : (g : Over) (c : After-turn g) → IsSameState (seen c.args.side (g.T.Twin.pair c.args.twin.now)) (g.T.Deck.state c.turn.new.self)
turned g c = turned_side _ _ _ _ c.turn.ensures.turns (g.met.T.Twin.faces c.turn.new.self)

pub block-requires-clause-whole : goal.block-requires-clause-whole
block-requires-clause-whole g c = omega (arith, c.requires.whole, (turned g (goal.at.block-requires-clause-whole g c).After-turn).extent)

pub returns-clause-payload : goal.returns-clause-payload
returns-clause-payload g c told =
    subst (λ (l : List ℕ). IfOk c.block.result (λ info. take info.len c.block.new.buf ≡ payload_at c.args.h.now l c.args.seq))
    (turned g (goal.at.returns-clause-payload g c).After-turn).held (c.block.ensures.payload told)

pub returns-clause-session : goal.returns-clause-session
returns-clause-session g c told =
    subst (λ (l : List ℕ). IfOk c.block.result (λ info. info.session ≡ session_at c.args.h.now l c.args.seq))
    (turned g (goal.at.returns-clause-session g c).After-turn).held (c.block.ensures.session told)

pub returns-clause-none : goal.returns-clause-none
returns-clause-none g c told =
    subst (λ (l : List ℕ). IfOk c.block.result (λ info. (info.len ≡ 0) ↔ (block_numbered c.args.h.now l c.args.seq ≡ None)))
    (turned g (goal.at.returns-clause-none g c).After-turn).held (c.block.ensures.none told)

pub returns-clause-serves : goal.returns-clause-serves
returns-clause-serves g c =
    looks_side _ _ _ _ _ _ _ (g.met.T.Twin.sound_pair c.args.twin.now) (g.met.T.Twin.sound_pair c.turn.new.self) c.turn.ensures.turns
    (g.met.T.Twin.faces c.turn.new.self) (g.met.T.Twin.faces c.block.new.deck)
    (g.met.T.Twin.leaves_rest c.turn.new.self c.block.new.deck c.block.ensures.rest) c.block.ensures.looks.disk_work

pub returns-clause-content : goal.returns-clause-content
returns-clause-content g c =
    looked_content _ _ _ _ _ _ _ c.turn.ensures.turns (g.met.T.Twin.faces c.turn.new.self) (g.met.T.Twin.faces c.block.new.deck)
    (g.met.T.Twin.leaves_rest c.turn.new.self c.block.new.deck c.block.ensures.rest) c.block.ensures.looks

pub returns-clause-no_fault : goal.returns-clause-no_fault
returns-clause-no_fault g c =
    on_ok_weaker c.block.result (no_fault_side _ _ _ _ _ _ c.turn.ensures.turns (g.met.T.Twin.faces c.turn.new.self) (g.met.T.Twin.faces c.block.new.deck)
    (g.met.T.Twin.leaves_rest c.turn.new.self c.block.new.deck c.block.ensures.rest)) c.block.ensures.succeeds

pub returns-clause-cause : goal.returns-clause-cause
returns-clause-cause g c =
    on_err_weaker c.block.result (rose_side _ _ _ _ _ _ c.turn.ensures.turns (g.met.T.Twin.faces c.turn.new.self) (g.met.T.Twin.faces c.block.new.deck)
    (g.met.T.Twin.leaves_rest c.turn.new.self c.block.new.deck c.block.ensures.rest)) c.block.ensures.cause

pub returns-clause-counts : goal.returns-clause-counts
returns-clause-counts g c =
    counted_turned _ c.args.side _ _ _ (g.met.T.Twin.sound_pair c.args.twin.now) (g.met.T.Twin.sound_pair c.turn.new.self) c.turn.ensures.turns
    (g.met.T.Twin.leaves_rest c.turn.new.self c.block.new.deck c.block.ensures.rest)
