use Rattle.std.proofs.Common.{◌∙◌, sym, subst}
use Rattle.fdr_twin.specs.Pair.{seen}
use Rattle.fdr_twin.specs.Same.{IsSameState}
use Rattle.fdr_twin.proofs.Same.{IsSame-sym, IsSame-then}
use Rattle.fdr_twin.proofs.Turns.{Turns-seen}
use Rattle.fdr_pair.specs.Opening.{ReadsHeader}
use Rattle.fdr_pair.specs.declared.open.SideHeader.{SideHeader}
use Rattle.fdr_pair.proofs.Sides.{looks_side, facing_side}
use Rattle.fdr_pair.proofs.Opening.{reads_as}
use Rattle.fdr_pair.proofs.open.header_on.Goals as goal
use Rattle.fdr_pair.proofs.SideCounts.{counted_turned}

pub returns-clause-serves : goal.returns-clause-serves
returns-clause-serves g c =
    looks_side _ _ _ _ _ _ _ (g.met.T.Twin.sound_pair c.args.twin.now) (g.met.T.Twin.sound_pair c.turn.new.self) c.turn.ensures.turns
    (g.met.T.Twin.faces c.turn.new.self) (g.met.T.Twin.faces c.read_image_header-read.new.deck)
    (g.met.T.Twin.leaves_rest c.turn.new.self c.read_image_header-read.new.deck c.read_image_header-read.ensures.rest)
    c.read_image_header-read.ensures.disk_work

pub returns-clause-reads : goal.returns-clause-reads
returns-clause-reads g c =
    let p = g.T.Twin.pair c.args.twin.now in
    let q = g.T.Twin.pair c.read_image_header-read.new.deck in
    let s = g.T.Deck.state c.turn.new.self in
    let t = g.T.Deck.state c.read_image_header-read.new.deck in
    let side = c.args.side in
    let rest = g.met.T.Twin.leaves_rest c.turn.new.self c.read_image_header-read.new.deck c.read_image_header-read.ensures.rest in
    let mid : IsSameState s (seen side (g.T.Twin.pair c.turn.new.self)) =
    facing_side _ _ side (g.met.T.Twin.faces c.turn.new.self) c.turn.ensures.turns.turned in
    let before : IsSameState s (seen side p) = IsSame-sym _ _ (IsSame-then _ _ _ (Turns-seen side side _ _ c.turn.ensures.turns) (IsSame-sym _ _ mid)) in
    let after : IsSameState t (seen side q) =
    facing_side _ _ side (g.met.T.Twin.faces c.read_image_header-read.new.deck) (rest.turned ∙ c.turn.ensures.turns.turned) in
    let e = c.read_image_header-read.ensures in
    subst (λ (r : SideHeader). ReadsHeader g.T.Deck.tells side r p q) (sym c.side_header.ensures)
    (reads_as g.T.Deck.tells side s t p q before after e.learns e.disk _ e.read e.good e.first_fault e.small e.only e.limits e.whole e.succeeds e.cause)

pub returns-clause-counts : goal.returns-clause-counts
returns-clause-counts g c =
    counted_turned _ c.args.side _ _ _ (g.met.T.Twin.sound_pair c.args.twin.now) (g.met.T.Twin.sound_pair c.turn.new.self) c.turn.ensures.turns
    (g.met.T.Twin.leaves_rest c.turn.new.self c.read_image_header-read.new.deck c.read_image_header-read.ensures.rest)
