use Rattle.std.proofs.Common.{◌≡◌, ◌+◌, ℕ, List, Result, Ok, Err, length, subst, arith}
use Rattle.std.specs.Prelude.{IfOk}
use Rattle.std.proofs.lemmas.Result.{on_ok_weaker, on_err_weaker}
use Rattle.fdr_recover.specs.Images.{next_of, recovered_run}
use Rattle.fdr_recover.specs.Stretches.{last_session}
use Rattle.fdr_twin.specs.Pair.{seen}
use Rattle.fdr_twin.specs.Same.{IsSameState}
use Rattle.fdr_pair.specs.Differ.{HasFound}
use Rattle.fdr_pair.proofs.Sides.{looks_side, turned_side, rose_side, no_fault_side}
use Rattle.fdr_pair.proofs.PairWorks.{looked_content}
use Rattle.fdr_pair.proofs.look.scan_on.Given.{Over}
use Rattle.fdr_pair.proofs.look.scan_on.Goals.{After-turn}
use Rattle.fdr_pair.proofs.look.scan_on.Goals as goal
use Rattle.fdr_pair.proofs.SideCounts.{counted_turned}

-- the twin's deck, once it is turned to the side
turned : (g : Over) (c : After-turn g) → IsSameState (seen c.args.side (g.T.Twin.pair c.args.twin.now)) (g.T.Deck.state c.turn.new.self)
turned g c = turned_side _ _ _ _ c.turn.ensures.turns (g.met.T.Twin.faces c.turn.new.self)

-- two facts of a value
both : {T E : Type 0} (r : Result T E) (P Q R : T → Type 0) → ((x : T) → P x → Q x → R x) → IfOk r P → IfOk r Q → IfOk r R
both (Ok x) P Q R f p q = f x p q
both (Err e) P Q R f p q = tt

pub scan-requires-clause-whole : goal.scan-requires-clause-whole
scan-requires-clause-whole g c = omega (arith, c.requires.whole, (turned g (goal.at.scan-requires-clause-whole g c).After-turn).extent)

pub returns-clause-next : goal.returns-clause-next
returns-clause-next g c told =
    subst (λ (l : List ℕ). IfOk c.scan.result (λ f. f.next ≡ next_of c.args.h.now l)) (turned g (goal.at.returns-clause-next g c).After-turn).held
    (c.scan.ensures.next told)

pub returns-clause-session : goal.returns-clause-session
returns-clause-session g c told =
    subst (λ (l : List ℕ). IfOk c.scan.result (λ f. f.session ≡ last_session (recovered_run c.args.h.now l)))
    (turned g (goal.at.returns-clause-session g c).After-turn).held (c.scan.ensures.session told)

pub returns-clause-found : goal.returns-clause-found
returns-clause-found g c told =
    subst (λ (l : List ℕ). IfOk c.scan.result (λ f. HasFound c.args.h.now f l)) (turned g (goal.at.returns-clause-found g c).After-turn).held
    (both c.scan.result (λ f. f.next ≡ next_of c.args.h.now (g.T.Deck.state c.turn.new.self).held)
    (λ f. f.first + length (recovered_run c.args.h.now (g.T.Deck.state c.turn.new.self).held) ≡ f.next)
    (λ f. HasFound c.args.h.now f (g.T.Deck.state c.turn.new.self).held) (λ f next first. record { next = next; first = first })
    (c.scan.ensures.next told) (c.scan.ensures.first told))

pub returns-clause-serves : goal.returns-clause-serves
returns-clause-serves g c =
    looks_side _ _ _ _ _ _ _ (g.met.T.Twin.sound_pair c.args.twin.now) (g.met.T.Twin.sound_pair c.turn.new.self) c.turn.ensures.turns
    (g.met.T.Twin.faces c.turn.new.self) (g.met.T.Twin.faces c.scan.new.deck)
    (g.met.T.Twin.leaves_rest c.turn.new.self c.scan.new.deck c.scan.ensures.rest) c.scan.ensures.looks.disk_work

pub returns-clause-content : goal.returns-clause-content
returns-clause-content g c =
    looked_content _ _ _ _ _ _ _ c.turn.ensures.turns (g.met.T.Twin.faces c.turn.new.self) (g.met.T.Twin.faces c.scan.new.deck)
    (g.met.T.Twin.leaves_rest c.turn.new.self c.scan.new.deck c.scan.ensures.rest) c.scan.ensures.looks

pub returns-clause-held : goal.returns-clause-held
returns-clause-held g c =
    (looked_content _ _ _ _ _ _ _ c.turn.ensures.turns (g.met.T.Twin.faces c.turn.new.self) (g.met.T.Twin.faces c.scan.new.deck)
    (g.met.T.Twin.leaves_rest c.turn.new.self c.scan.new.deck c.scan.ensures.rest) c.scan.ensures.looks).held

pub returns-clause-no_fault : goal.returns-clause-no_fault
returns-clause-no_fault g c =
    on_ok_weaker c.scan.result (no_fault_side _ _ _ _ _ _ c.turn.ensures.turns (g.met.T.Twin.faces c.turn.new.self) (g.met.T.Twin.faces c.scan.new.deck)
    (g.met.T.Twin.leaves_rest c.turn.new.self c.scan.new.deck c.scan.ensures.rest)) c.scan.ensures.succeeds

pub returns-clause-cause : goal.returns-clause-cause
returns-clause-cause g c =
    on_err_weaker c.scan.result (rose_side _ _ _ _ _ _ c.turn.ensures.turns (g.met.T.Twin.faces c.turn.new.self) (g.met.T.Twin.faces c.scan.new.deck)
    (g.met.T.Twin.leaves_rest c.turn.new.self c.scan.new.deck c.scan.ensures.rest)) c.scan.ensures.cause

pub returns-clause-counts : goal.returns-clause-counts
returns-clause-counts g c =
    counted_turned _ c.args.side _ _ _ (g.met.T.Twin.sound_pair c.args.twin.now) (g.met.T.Twin.sound_pair c.turn.new.self) c.turn.ensures.turns
    (g.met.T.Twin.leaves_rest c.turn.new.self c.scan.new.deck c.scan.ensures.rest)
