use Rattle.std.proofs.Common.{◌≡◌, ◌-◌, ◌^◌, ap, ◌∙◌, arith}
use Rattle.std.proofs.lemmas.Nat.Bits.{ones_shr}
use Rattle.fdr_sampler.proofs.source.ones.Goals as goal

pub returns : goal.returns
returns c =
    let rest : 32 - (32 - c.args.count) ≡ c.args.count = omega (arith, c.requires.few) in
    ones_shr 32 (32 - c.args.count) (omega arith) ∙ ap (λ n. 2 ^ n - 1) rest
