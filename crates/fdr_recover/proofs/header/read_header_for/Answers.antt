use Rattle.std.proofs.Common.{◌∙◌, ap, sym, rules}
use Rattle.std.specs.Prelude.{IsTrue}
use Rattle.fdr_deck.proofs.Composing.{refusal}
use Rattle.fdr_slot.specs.declared.image.Header.{Header}
use Rattle.fdr_slot.specs.declared.image.ImageFault.{ImageFault}
use Rattle.fdr_recover.specs.ImageHeader.{IsFor}
use Rattle.fdr_recover.specs.declared.error.HeaderFault.TheVariants as fault
use Rattle.fdr_recover.proofs.Refused.{Above, image_below, words_not_below, disk_below, disk_above, has_header}
use Rattle.fdr_recover.proofs.header.read_header_for.Goals as goal

-- no header was read
pub returns-in_err-header : goal.returns-in_err-header
returns-in_err-header g c =
    let below = c.in_err-header.ensures in
    let e = c.in_err-header.field-0.0 in
    let first = λ (told : IsTrue g.D.Deck.tells.bytes) (why : ImageFault) (is : Above Header e (fault.Image why)).
    below.first_fault told why (image_below Header e why is) in
    let small = λ (why : ImageFault) (is : Above Header e (fault.Image why)). below.small why (image_below Header e why is) in
    let succeeds = λ (other : Above Header e fault.DiskFault → ⊥). below.succeeds (λ is. other (disk_above Header e is)) in
    let cause = λ (is : Above Header e fault.DiskFault). below.cause (disk_below Header e below.only is) in
    rw (refusal _ _ c.from_residual.ensures.1) (search (rules, words_not_below, first, small, succeeds, cause, below))

-- it is of an image for other words
pub returns-then-header-words : goal.returns-then-header-words
returns-then-header-words g c =
    let h = c.in_ok-header.ensures in
    search (rules, has_header, h.succeeds, h.good, h.read, h)

-- it is answered
pub returns : goal.returns
returns g c =
    let h = c.in_ok-header.ensures in
    let good : IsTrue g.D.Deck.tells.bytes → IsFor c.args.words (g.D.Deck.state c.args.deck.now).held =
    λ told. record { no_fault = h.good told; words = ap (λ (x : Header). x.words) (sym (h.read told)) ∙ c.if-header-words.false } in
    search (rules, good, h.succeeds, h)
