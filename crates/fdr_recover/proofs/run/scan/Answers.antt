use Rattle.std.proofs.Common.{◌∙◌, rules}
use Rattle.std.specs.Prelude.{IsTrue}
use Rattle.fdr_deck.specs.Calls.{Succeeds}
use Rattle.fdr_deck.proofs.Composing.{refusal}
use Rattle.fdr_recover.proofs.Handing.{ok_both}
use Rattle.fdr_recover.proofs.Looking.{looks}
use Rattle.fdr_recover.proofs.BlockLemmas.{recovered}
use Rattle.fdr_recover.proofs.run.scan.Goals as goal

pub returns-in_err-next : goal.returns-in_err-next
returns-in_err-next g c =
    rw (refusal _ _ c.from_residual.ensures.1)
    (search (rules, recovered, c.in_err-next.ensures))

pub returns : goal.returns
returns g c =
    let deck = g.met.D.Deck in
    let held = c.next_number.ensures.looks.disk.held in
    let next = λ (told : IsTrue g.D.Deck.tells.bytes). rw (c.in_ok-next.ensures.next told) at c.run_below.ensures.next in
    let first = λ (told : IsTrue g.D.Deck.tells.bytes). rw (held, c.in_ok-next.ensures.next told) at (c.run_below.ensures.first told) in
    let session = λ (told : IsTrue g.D.Deck.tells.bytes). rw (held, c.in_ok-next.ensures.next told) at (c.run_below.ensures.session told) in
    let was = c.in_ok-next.ensures.succeeds in
    let succeeds = ok_both _ _ (Succeeds (g.D.Deck.state c.args.deck.now) (g.D.Deck.state c.run_below.new.deck)) c.run_below.result
    (λ fresh faults. record { disk_faults = faults ∙ was.disk_faults; fresh = fresh was.fresh })
    c.run_below.ensures.fresh c.run_below.ensures.faults in
    rw (← was.disk_faults)
    (search (rules, looks, next, first, session, succeeds, recovered, deck.sound, deck.rest_then, c.run_below.ensures, c.in_ok-next.ensures))
