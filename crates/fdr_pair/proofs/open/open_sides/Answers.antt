use Rattle.std.proofs.Common.{◌≡◌, ◌∙◌, sym, ap}
use Rattle.std.specs.Prelude.{IsTrue, Ok}
use Rattle.fdr_twin.specs.declared.side.Side.TheVariants.{First, Second}
use Rattle.fdr_pair.specs.declared.open.Opened.{Opened}
use Rattle.fdr_pair.specs.declared.open.SideHeader.{SideHeader}
use Rattle.fdr_pair.specs.declared.outcome.PairOutcome.{PairOutcome}
use Rattle.fdr_pair.specs.Opening.{ReadsHeader, AreLiving, OnLiving, IsHeaderOn, IsHeaderAnswer, IsOpeningRefusal, IsRefusedByHeaders, header_after}
use Rattle.fdr_pair.specs.Opening.{common_header, opening}
use Rattle.fdr_pair.proofs.Opening.{reads_then, then_reads, both_looked, header_shown, living_sides, living_header, second_version, not_opened, opened_by}
use Rattle.fdr_pair.proofs.Opening.{refused_as_read}
use Rattle.fdr_pair.proofs.Opening.{IsOpenedBy, if_ok, if_err}
use Rattle.fdr_pair.proofs.open.open_sides.Given.{Over}
use Rattle.fdr_pair.proofs.open.open_sides.Goals.{After-opening}
use Rattle.fdr_pair.proofs.open.open_sides.Goals as goal

-- what was read of each side, from the start to the end
first_read : (g : Over) (c : After-opening g)
    → ReadsHeader g.T.Deck.tells First c.header_on-first.result (g.T.Twin.pair c.args.twin.now) (g.T.Twin.pair c.header_on-second.new.twin)
first_read g c = reads_then _ _ _ _ _ _ c.header_on-first.ensures.reads c.header_on-second.ensures.serves.other

second_read : (g : Over) (c : After-opening g)
    → ReadsHeader g.T.Deck.tells Second c.header_on-second.result (g.T.Twin.pair c.args.twin.now) (g.T.Twin.pair c.header_on-second.new.twin)
second_read g c = then_reads _ _ _ _ _ _ c.header_on-first.ensures.serves.other c.header_on-second.ensures.reads

-- the header by which both are opened
opened : (g : Over) (c : After-opening g) (o : Opened) → c.opening.result ≡ Ok o
    → IsOpenedBy c.args.words (common_header c.header_on-first.result c.header_on-second.result) o
opened g c o is = opened_by c.args.words c.header_on-first.result c.header_on-second.result o (sym c.opening.ensures ∙ is)

pub returns-clause-exact : goal.returns-clause-exact
returns-clause-exact g c told below =
    let d = (goal.at.returns-clause-exact g c).After-opening in
    let p = g.T.Twin.pair c.args.twin.now in
    let q = g.T.Twin.pair c.header_on-second.new.twin in
    let a = c.header_on-first.result in
    let b = c.header_on-second.result in
    let first = header_shown g.T.Deck.tells First a p q (first_read g d) told below.first in
    let second = header_shown g.T.Deck.tells Second b p q (second_read g d) told below.second in
    c.opening.ensures ∙ sym (ap (λ (x : SideHeader). opening c.args.words x b) first)
    ∙ sym (ap (λ (x : SideHeader). opening c.args.words (header_after p.first q.first) x) second)

pub returns-clause-living : goal.returns-clause-living
returns-clause-living g c =
    let d = (goal.at.returns-clause-living g c).After-opening in
    let p = g.T.Twin.pair c.args.twin.now in
    let q = g.T.Twin.pair c.header_on-second.new.twin in
    if_ok c.opening.result (λ (o : Opened). AreLiving o.living p q)
    (λ o is. living_sides g.T.Deck.tells p q c.header_on-first.result c.header_on-second.result o (first_read g d) (second_read g d) (opened g d o is).common)

pub returns-clause-header : goal.returns-clause-header
returns-clause-header g c =
    let d = (goal.at.returns-clause-header g c).After-opening in
    let p = g.T.Twin.pair c.args.twin.now in
    let q = g.T.Twin.pair c.header_on-second.new.twin in
    if_ok c.opening.result (λ (o : Opened). OnLiving o.living (λ side. IsHeaderOn g.T.Deck.tells o.header side p q))
    (λ o is. living_header g.T.Deck.tells p q c.header_on-first.result c.header_on-second.result o (first_read g d) (second_read g d) (opened g d o is).common)

pub returns-clause-words : goal.returns-clause-words
returns-clause-words g c =
    let d = (goal.at.returns-clause-words g c).After-opening in
    if_ok c.opening.result (λ (o : Opened). o.header.words ≡ c.args.words) (λ o is. (opened g d o is).words)

pub returns-clause-version : goal.returns-clause-version
returns-clause-version g c =
    let d = (goal.at.returns-clause-version g c).After-opening in
    let p = g.T.Twin.pair c.args.twin.now in
    let q = g.T.Twin.pair c.header_on-second.new.twin in
    if_ok c.opening.result (λ (o : Opened). o.header.version ≡ 2)
    (λ o is. second_version g.T.Deck.tells p q c.header_on-first.result c.header_on-second.result o (first_read g d) (second_read g d) (opened g d o is).common
    (opened g d o is).version)

pub returns-clause-cause : goal.returns-clause-cause
returns-clause-cause g c =
    let d = (goal.at.returns-clause-cause g c).After-opening in
    let p = g.T.Twin.pair c.args.twin.now in
    let q = g.T.Twin.pair c.header_on-second.new.twin in
    if_err c.opening.result (λ (why : PairOutcome). IsOpeningRefusal c.args.words why p q)
    (λ why is. not_opened g.T.Deck.tells p q c.args.words c.header_on-first.result c.header_on-second.result why (first_read g d) (second_read g d)
    (sym c.opening.ensures ∙ is))

pub returns-clause-first : goal.returns-clause-first
returns-clause-first g c = (first_read g (goal.at.returns-clause-first g c).After-opening).looks

pub returns-clause-second : goal.returns-clause-second
returns-clause-second g c = (second_read g (goal.at.returns-clause-second g c).After-opening).looks

pub returns-clause-work : goal.returns-clause-work
returns-clause-work g c =
    both_looked _ _ _ _ (g.met.T.Twin.sound_pair c.args.twin.now) (g.met.T.Twin.sound_pair c.header_on-first.new.twin)
    c.header_on-first.ensures.reads.looks.disk c.header_on-first.ensures.serves c.header_on-first.ensures.counts c.header_on-second.ensures.serves
    c.header_on-second.ensures.counts

pub returns-clause-refused : goal.returns-clause-refused
returns-clause-refused g c =
    let d = (goal.at.returns-clause-refused g c).After-opening in
    let p = g.T.Twin.pair c.args.twin.now in
    let q = g.T.Twin.pair c.header_on-second.new.twin in
    if_err c.opening.result (λ (why : PairOutcome). IsHeaderAnswer why → IsTrue g.T.Deck.tells.bytes → IsRefusedByHeaders c.args.words p q why)
    (λ why is. refused_as_read g.T.Deck.tells c.args.words c.header_on-first.result c.header_on-second.result p q why (first_read g d) (second_read g d)
    (sym c.opening.ensures ∙ is))
