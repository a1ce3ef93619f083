use Rattle.std.proofs.Common.{◌≡◌}
use Rattle.std.specs.Prelude.{IsTrue}
use Rattle.fdr_recover.specs.Images.{blocks_between, recovered_run}
use Rattle.fdr_recover.proofs.Between.{between_run}
use Rattle.fdr_recover.proofs.Looking.{Looks-then}
use Rattle.fdr_top.proofs.SessionEntries.{first_none}
use Rattle.fdr_top.proofs.sessions.take_blocks.Given.{Over}
use Rattle.fdr_top.proofs.sessions.take_blocks.Goals.{In-Ok}
use Rattle.fdr_top.proofs.sessions.take_blocks.Goals as goal

-- the blocks of the found numbers are the recovered run
run_is : (g : Over) (c : In-Ok g) → IsTrue g.D.Deck.tells.bytes
    → blocks_between c.args.header.now (g.D.Deck.state c.args.deck.now).held c.in-Ok.found.first c.in-Ok.found.next
    ≡ recovered_run c.args.header.now (g.D.Deck.state c.args.deck.now).held
run_is g c told = between_run _ _ _ _ c.requires.limits (c.in-Ok.ensures.first told) (c.in-Ok.ensures.next told)

pub returns-in_default-clause-front : goal.returns-in_default-clause-front
returns-in_default-clause-front g c = λ told fails.
    first_none g.T.Taker.took g.T.Taker.failed_in g.met.T.Taker.laws _ _ _ _ _ c.requires.fresh.count

pub returns-clause-all : goal.returns-clause-all
returns-clause-all g c = λ told.
    rw (c.scan.ensures.looks.disk.held, run_is g (goal.at.returns-clause-all g c).In-Ok told) at c.take_between.ensures.all told

pub returns-clause-part : goal.returns-clause-part
returns-clause-part g c = λ told.
    rw (c.scan.ensures.looks.disk.held, run_is g (goal.at.returns-clause-part g c).In-Ok told) at c.take_between.ensures.part told

pub returns-clause-front : goal.returns-clause-front
returns-clause-front g c = λ told.
    rw (c.scan.ensures.looks.disk.held, run_is g (goal.at.returns-clause-front g c).In-Ok told) at c.take_between.ensures.front told

pub returns-clause-bounded : goal.returns-clause-bounded
returns-clause-bounded g c = λ told.
    rw (c.scan.ensures.looks.disk.held, run_is g (goal.at.returns-clause-bounded g c).In-Ok told) at c.take_between.ensures.bounded told

pub returns-clause-looks : goal.returns-clause-looks
returns-clause-looks g c = Looks-then _ _ _ _ (g.met.D.Deck.sound c.args.deck.now) c.scan.ensures.looks c.take_between.ensures.looks
