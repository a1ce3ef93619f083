use Rattle.std.proofs.Common.{◌∷◌, [], ◌++◌, ap, ◌∙◌, arith}
use Rattle.std.proofs.lemmas.Grind.{common_steps}
use Rattle.fdr_sampler.proofs.Drawing.{first_read}
use Rattle.fdr_sampler.proofs.pieces.first_slots.Goals as goal

pub loop-number-preserved : goal.loop-number-preserved
loop-number-preserved c =
    c.in_ok-push.ensures ∙ ap (λ xs. xs ++ c.first_slot.result ∷ []) c.loop-number.invariant
    ∙ first_read c.args.layout.now c.loop-number.number c.parts.result.now c.first_slot.result
    (omega (arith, c.loop-number-test.true, c.samples-number-end.ensures)) c.parts.ensures.parts c.first_slot.ensures

pub returns : goal.returns
returns c = grind (arith, common_steps) steps 2000000
