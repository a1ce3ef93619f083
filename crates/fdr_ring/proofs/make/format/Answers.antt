use Rattle.std.proofs.Common.{◌≡◌, ◌∙◌, sym, ap, subst, arith, rules}
use Rattle.std.specs.Prelude.{IsTrue}
use Rattle.fdr_deck.specs.Calls.{IsDiskWork}
use Rattle.fdr_deck.proofs.Composing.{refusal, calls}
use Rattle.fdr_recover.specs.Images.{recovered_run}
use Rattle.fdr_ring.specs.Formatting.{IsFormatted, Making}
use Rattle.fdr_ring.proofs.Made.{asks_length, provides_zeros, lays_header, fresh_formatted, fresh_empty, fresh_ring}
use Rattle.fdr_ring.proofs.Made.{empty_run}
use Rattle.fdr_ring.proofs.make.format.Given.{Over}
use Rattle.fdr_ring.proofs.make.format.Goals.{After-provide}
use Rattle.fdr_ring.proofs.make.format.Goals as goal

-- the disk had no bytes
none : (g : Over) (c : After-provide g) → IsTrue g.D.Deck.tells.stops → (g.D.Deck.state c.args.deck.now).extent ≡ 0
none g c told = omega (arith, c.size.ensures.learns.stops told, c.in_ok-size.ensures.answer, c.if-branch-ne0.false)

-- and was provided
provided : (g : Over) (c : After-provide g) → let old = g.D.Deck.state c.args.deck.now in
    IsDiskWork g.D.Deck.tells (Making c.args.h.now old) old (g.D.Deck.state c.provide.new.self)
provided g c =
    let sound = g.met.D.Deck.sound c.args.deck.now in
    provides_zeros _ _ _ _ _ _ sound (g.met.D.Deck.sound c.size.new.self) (none g c) c.size.ensures.disk
    (asks_length _ _ _ _ sound c.size.ensures.disk c.size.ensures.passes c.size.ensures.moments)
    c.provide.ensures.passes c.provide.ensures.moments

-- no length was answered
pub returns-in_err-size : goal.returns-in_err-size
returns-in_err-size g c =
    let asked = asks_length _ c.args.h.now _ _ (g.met.D.Deck.sound c.args.deck.now) c.size.ensures.disk c.size.ensures.passes c.size.ensures.moments in
    rw (refusal _ _ c.from_residual.ensures.1) (search (rules, asked, c.in_err-size.ensures))

-- the disk is not empty
pub returns-then-branch-ne0 : goal.returns-then-branch-ne0
returns-then-branch-ne0 g c = search (rules, asks_length, g.met.D.Deck.sound, c.in_ok-size.ensures, c.if-branch-ne0.true)

-- no bytes were provided
pub returns-in_err-provide : goal.returns-in_err-provide
returns-in_err-provide g c =
    rw (refusal _ _ c.from_residual-in_err-provide.ensures.1, ← c.in_ok-size.ensures.succeeds.disk_faults)
    (search (rules, provided g (goal.at.returns-in_err-provide g c).After-provide, g.met.D.Deck.rest_then, c.in_err-provide.ensures, c.size.ensures))

-- the header was not written
pub returns-in_err-lay_header : goal.returns-in_err-lay_header
returns-in_err-lay_header g c =
    let at = (goal.at.returns-in_err-lay_header g c).After-provide in
    let laid = lays_header _ _ _ _ _ (g.met.D.Deck.sound c.args.deck.now) (none g at) (provided g at) c.lay_header.ensures.disk_work in
    rw (refusal _ _ c.from_residual-in_err-lay_header.ensures.1, ← c.in_ok-size.ensures.succeeds.disk_faults, ← c.in_ok-provide.ensures.succeeds.disk_faults)
    (search (rules, laid, g.met.D.Deck.rest_then, c.in_err-lay_header.ensures, c.provide.ensures, c.size.ensures))

-- the image was made
pub returns : goal.returns
returns g c =
    let h = c.args.h.now in
    let end = g.D.Deck.state c.lay_header.new.deck in
    let at = (goal.at.returns g c).After-provide in
    let done = c.in_ok-lay_header.ensures in
    let laid = lays_header _ _ _ _ _ (g.met.D.Deck.sound c.args.deck.now) (none g at) (provided g at) c.lay_header.ensures.disk_work in
    let empty : (g.D.Deck.state c.size.new.self).extent ≡ 0 = omega (arith, c.in_ok-size.ensures.answer, c.if-branch-ne0.false) in
    let extent = done.extent ∙ (c.in_ok-provide.ensures.provides empty).extent ∙ c.image_size.ensures in
    let fact = fresh_ring g.D.Deck.tells h end c.requires extent (g.met.D.Deck.sound c.args.deck.now).stops_need_bytes done.held done.settled in
    let formatted = λ (told : IsTrue g.D.Deck.tells.bytes). subst (IsFormatted h) (sym (done.held told)) (fresh_formatted h c.requires) in
    let run = λ (told : IsTrue g.D.Deck.tells.bytes). ap (recovered_run h) (done.held told) ∙ empty_run h _ (fresh_empty h) in
    search (rules, calls, laid, empty, extent, fact, formatted, run, g.met.D.Deck.rest_then, done, c.in_ok-provide.ensures, c.in_ok-size.ensures)
