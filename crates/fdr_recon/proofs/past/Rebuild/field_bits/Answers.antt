use Rattle.std.proofs.Common.{◌*◌, ◌/◌, ◌^◌, ◌<◌, ap, ◌∙◌, arith}
use Rattle.std.specs.Prelude.{bit_and}
use Rattle.std.proofs.lemmas.Nat.{and_le_r}
use Rattle.fdr_recon.proofs.KeptWords.{shifted}
use Rattle.fdr_recon.proofs.past.Rebuild.field_bits.Goals as goal
use Rattle.fdr_recon.proofs.past.Rebuild.field_bits.Goals.{After-from}

-- at most 12 bits
small : (c : After-from) → c.from.result < 2 ^ 12
small c =
    let f = c.args.field.now in
    omega (arith, c.from.ensures, and_le_r (c.word_back-word.result / 2 ^ f.low) f.ones, c.requires.ones)

pub returns-clause-bits : goal.returns-clause-bits
returns-clause-bits c =
    let f = c.args.field.now in
    (shifted c.from.result f.shift (small (goal.at.returns-clause-bits c).After-from) c.requires.shift).0
    ∙ ap (λ n. n * 2 ^ f.shift) (c.from.ensures ∙ ap (λ n. bit_and (n / 2 ^ f.low) f.ones) c.word_back-word.ensures.word)

pub returns-clause-four_words : goal.returns-clause-four_words
returns-clause-four_words c =
    let s = shifted c.from.result c.args.field.now.shift (small (goal.at.returns-clause-four_words c).After-from) c.requires.shift in
    omega (arith, s.0, s.1)
