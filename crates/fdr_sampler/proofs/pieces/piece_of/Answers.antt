use Rattle.std.proofs.Common.{◌≡◌, ◌/◌, ◌%◌, ◌^◌, ◌∙◌, ap, subst}
use Rattle.std.specs.Prelude.{bit_and}
use Rattle.std.proofs.lemmas.Nat.{and_mask}
use Rattle.fdr_sampler.specs.Schedule.{SlotStep}
use Rattle.fdr_sampler.proofs.pieces.piece_of.Goals as goal

pub returns-clause-piece : goal.returns-clause-piece
returns-clause-piece c =
    let step = c.step.inside in
    let raw = c.from.result / 2 ^ step.shift in
    let P : SlotStep → Type 0 = λ s. bit_and raw c.from-2.result ≡ c.args.raw / 2 ^ s.shift % 2 ^ s.width in
    subst P c.step.view_is
    (ap (bit_and raw) (c.from-2.ensures ∙ c.step.invariant.3) ∙ and_mask raw step.width ∙ ap (λ r. r / 2 ^ step.shift % 2 ^ step.width) c.from.ensures)
