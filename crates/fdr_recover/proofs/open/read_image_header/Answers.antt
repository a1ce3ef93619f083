use Rattle.std.proofs.Common.{◌≡◌, ◌≤◌, ◌∙◌, Some, ap, arith, rules}
use Rattle.std.specs.Prelude.{IsTrue}
use Rattle.fdr_slot.specs.Headers.{image_fault}
use Rattle.fdr_slot.specs.declared.image.ImageFault.TheVariants as fault
use Rattle.fdr_deck.proofs.Composing.{refusal, calls}
use Rattle.fdr_recover.specs.ImageHeader.{image_fault_of}
use Rattle.fdr_recover.proofs.ImageFaults.{small_fault, not_small}
use Rattle.fdr_recover.proofs.open.read_image_header.Goals as goal

pub returns-in_err-size : goal.returns-in_err-size
returns-in_err-size g c =
    rw (refusal _ _ c.from_residual.ensures.1) (search (rules, calls, g.met.D.Deck.sound, c.in_err-size.ensures))

pub returns-then-size-lt64 : goal.returns-then-size-lt64
returns-then-size-lt64 g c =
    let small : IsTrue g.D.Deck.tells.bytes → image_fault_of (g.D.Deck.state c.args.deck.now).held ≡ Some fault.Small =
    λ told. small_fault _ _ (omega (
      arith,
      c.if-size-lt64.true,
      c.in_ok-size.ensures.answer,
      c.size.ensures.learns.bytes told,
      (g.met.D.Deck.sound c.args.deck.now).size told,
    )) in
    search (rules, calls, g.met.D.Deck.sound, c.in_ok-size.ensures, small)

pub returns-in_err-read : goal.returns-in_err-read
returns-in_err-read g c =
    let deck = g.met.D.Deck in
    rw (refusal _ _ c.from_residual-in_err-read.ensures.1, ← c.in_ok-size.ensures.succeeds.disk_faults)
    (search (rules, calls, deck.sound, deck.rest_then, c.in_err-read.ensures, c.in_ok-size.ensures))

pub returns-in_err-read_header : goal.returns-in_err-read_header
returns-in_err-read_header g c =
    let deck = g.met.D.Deck in
    let e = c.in_err-read_header.field-0.0 in
    let fault_is : image_fault c.read.new.buf c.in_ok-size.size ≡ Some e = c.in_err-read_header.ensures.first_fault in
    let other : e ≡ fault.Small → ⊥ = λ small. not_small c.read.new.buf c.in_ok-size.size c.if-size-lt64.false (fault_is ∙ ap Some small) in
    let long : 64 ≤ (g.D.Deck.state c.read.new.self).extent = omega (arith, c.in_ok-size.ensures.answer, c.read.ensures.extent) in
    rw (refusal _ _ c.from_residual-in_err-read_header.ensures.1)
    (search (rules, calls, fault_is, other, long, deck.sound, deck.rest_then, c.in_err-read_header.ensures, c.in_ok-read.ensures, c.in_ok-size.ensures))

pub returns : goal.returns
returns g c =
    let deck = g.met.D.Deck in
    search (rules, calls, deck.sound, deck.rest_then, c.in_ok-read_header.ensures, c.in_ok-read.ensures, c.in_ok-size.ensures)
