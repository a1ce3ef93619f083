use Rattle.std.proofs.Common.{◌-◌, ◌/◌, ◌^◌, ap, ◌∙◌, arith}
use Rattle.std.proofs.lemmas.Nat.{and_mask, one_shl}
use Rattle.std.specs.Prelude.{bit_and}
use Rattle.fdr_bits.proofs.get_bits.Goals as goal

pub returns-clause-value : goal.returns-clause-value
returns-clause-value c =
    ap (λ m. bit_and (c.args.word / 2 ^ (c.args.lsb - 1)) (m - 1)) (one_shl c.args.width 16 (omega arith))
    ∙ and_mask (c.args.word / 2 ^ (c.args.lsb - 1)) c.args.width
