use Rattle.std.proofs.Common.{◌≡◌, ◌-◌, ◌/◌, ◌^◌, ap, ◌∙◌, subst, sym, arith, ◌<◌}
use Rattle.std.specs.Prelude.{bit_and}
use Rattle.std.proofs.lemmas.Nat.{and_mask, mod_below, pow_pos}
use Rattle.std.proofs.lemmas.Nat.Bits.{ones_shr}
use Rattle.fdr_bus.proofs.field.Goals as goal

pub returns-clause-value : goal.returns-clause-value
returns-clause-value c =
    let rest : 32 - (32 - c.args.width) ≡ c.args.width = omega arith in
    ap (bit_and (c.args.word / 2 ^ (c.args.lsb - 1))) (ones_shr 32 (32 - c.args.width) (omega arith) ∙ ap (λ n. 2 ^ n - 1) rest)
    ∙ and_mask (c.args.word / 2 ^ (c.args.lsb - 1)) c.args.width

pub returns-clause-fits : goal.returns-clause-fits
returns-clause-fits c =
    subst (λ x. x < 2 ^ c.args.width) (sym (returns-clause-value c)) (mod_below (c.args.word / 2 ^ (c.args.lsb - 1)) (2 ^ c.args.width) (pow_pos c.args.width))
