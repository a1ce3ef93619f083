use Rattle.std.proofs.Common.{◌≡◌, ◌-◌, ◌/◌, ◌^◌, ap, ◌∙◌, arith}
use Rattle.std.proofs.lemmas.Nat.{pow_pos}
use Rattle.std.proofs.lemmas.Nat.Bits.{ones_shr}
use Rattle.fdr_table.specs.Rows.{ParamRow}
use Rattle.fdr_recon.proofs.scale.raw_mask.Goals as goal

pub returns-clause-value : goal.returns-clause-value
returns-clause-value c =
    let width = c.param.inside.width in
    let rest : 32 - (32 - width) ≡ width = omega (arith, c.param.invariant.lsb_low, c.param.invariant.bits) in
    let mask : 4294967295 / 2 ^ (32 - width) ≡ 2 ^ width - 1 = ones_shr 32 (32 - width) (omega arith) ∙ ap (λ n. 2 ^ n - 1) rest in
    let some = pow_pos width in
    omega (arith, mask, some) ∙ ap (λ (p : ParamRow). 2 ^ p.width) c.param.view_is
