use Rattle.std.proofs.Common.{◌≡◌, ◌+◌, ◌∙◌, Some, drop, ap, subst, arith, length-take, rules}
use Rattle.std.specs.Prelude.{option_map, IfSome, IsTrue}
use Rattle.fdr_deck.proofs.Composing.{refusal, calls}
use Rattle.fdr_slot.specs.Heads.{IsValid}
use Rattle.fdr_slot.specs.Places.{slot_number_of}
use Rattle.fdr_recover.specs.Images.{block_of, block_numbered}
use Rattle.fdr_recover.proofs.Looking.{looks}
use Rattle.fdr_recover.proofs.BlockLemmas.{read_payload}
use Rattle.fdr_recover.proofs.payload.block.Goals as goal

pub returns-in_err-head : goal.returns-in_err-head
returns-in_err-head g c = rw (refusal _ _ c.from_residual.ensures.1) (search (rules, c.in_err-head.ensures))

pub returns-in_default : goal.returns-in_default
returns-in_default g c = search (rules, c.in_default.is, c.in_ok-head.ensures)

pub returns-in_err-read : goal.returns-in_err-read
returns-in_err-read g c =
    rw (refusal _ _ c.from_residual-in_err-read.ensures.1, ← c.in_ok-head.ensures.succeeds.disk_faults)
    (search (rules, looks, g.met.D.Deck.sound, g.met.D.Deck.rest_then, c.in_err-read.ensures, c.head_numbered.ensures))

pub returns : goal.returns
returns g c =
    let h = c.args.h.now in
    let image = (g.D.Deck.state c.args.deck.now).held in
    let slot = slot_number_of h.slots c.args.seq in
    let held : IsTrue g.D.Deck.tells.bytes → block_numbered h image c.args.seq ≡ Some (block_of h image slot c.in-Some.head) =
    λ told. c.in_ok-head.ensures.held told ∙ ap (option_map (block_of h image slot)) c.in-Some.is in
    let valid : IsValid h slot c.in-Some.head = subst (λ o. IfSome o (IsValid h slot)) c.in-Some.is c.in_ok-head.ensures.valid in
    let payload = λ (told : IsTrue g.D.Deck.tells.bytes).
    read_payload h image (g.D.Deck.state c.head_numbered.new.deck).held c.read.new.buf (drop c.from-len.result c.args.buf.now)
    c.args.seq slot c.from-len.result (c.gate_at.result + 16) c.in-Some.head
    (held told) c.head_numbered.ensures.looks.disk.held (omega (arith, c.gate_at.ensures.at)) c.from-len.ensures
    (omega (arith, valid.fits, c.from-len.ensures, c.requires.room, length-take c.from-len.result c.args.buf.now)) (c.in_ok-read.ensures.reads told) in
    search (rules, calls, looks, payload, held, valid, g.met.D.Deck.sound, g.met.D.Deck.rest_then, c.in_ok-read.ensures, c.in_ok-head.ensures)
