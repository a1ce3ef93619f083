use Rattle.std.proofs.Common.{◌≡◌, ◌+ℤ◌, pos, to_z, of_z, w64, ap, ◌∙◌, arith}
use Rattle.std.proofs.lemmas.Int.{ints}
use Rattle.fdr_recon.proofs.SmallValues.{small_value}
use Rattle.fdr_recon.proofs.scale.SmallScale.value.Goals as goal

pub returns : goal.returns
returns c p small below =
    let offset = c.args.self.now.offset in
    let quotient : c.from.result ≡ pos c.quotient.result = omega (arith, ints, c.from.ensures) in
    let sum : to_z w64 (of_z w64 (to_z w64 (of_z w64 offset) +ℤ to_z w64 (of_z w64 c.from.result))) ≡ offset +ℤ pos c.quotient.result =
    omega (arith, ints, quotient, small.offset_low, small.offset_high) in
    sum ∙ ap (λ n. offset +ℤ pos n) c.quotient.ensures ∙ small_value p c.args.self.now c.args.raw small below
