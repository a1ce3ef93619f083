use Rattle.std.proofs.Common.{ap, ◌∙◌, arith}
use Rattle.std.proofs.lemmas.Grind.{common_steps}
use Rattle.fdr_bits.specs.Bits.{word_at}
use Rattle.fdr_bits.proofs.PairLemmas.{first_of_pair, second_of_pair}
use Rattle.fdr_bits.proofs.pack_pair.Goals as goal

pub returns-clause-first : goal.returns-clause-first
returns-clause-first c = ap (λ bytes. word_at bytes 0) (grind (arith, common_steps))
    ∙ first_of_pair c.args.a c.args.b c.requires.first_fits c.requires.second_fits

pub returns-clause-second : goal.returns-clause-second
returns-clause-second c = ap (λ bytes. word_at bytes 12) (grind (arith, common_steps))
    ∙ second_of_pair c.args.a c.args.b c.requires.first_fits c.requires.second_fits
