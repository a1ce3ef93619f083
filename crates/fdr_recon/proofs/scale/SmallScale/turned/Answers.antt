use Rattle.std.proofs.Common.{◌≡◌, ◌+◌, ◌-◌, ◌%◌, ◌^◌, bit_and, ap, sym, ◌∙◌, arith}
use Rattle.std.proofs.lemmas.Nat.{and_mask}
use Rattle.fdr_recon.proofs.scale.SmallScale.turned.Goals as goal

pub returns-clause-value : goal.returns-clause-value
returns-clause-value c =
    let sum = c.args.raw + c.args.self.now.half in
    let bits = c.requires.mask.0 in
    let mask : c.from-3.result ≡ 2 ^ bits - 1 = omega (arith, c.from-3.ensures, c.requires.mask.1) in
    let number : c.from.result + c.from-2.result ≡ sum = omega (arith, c.from.ensures, c.from-2.ensures) in
    ap (λ n. bit_and n c.from-3.result) number ∙ ap (bit_and sum) mask ∙ and_mask sum bits ∙ ap (λ n. sum % n) (sym c.requires.mask.1)
