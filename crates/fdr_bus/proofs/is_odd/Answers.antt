use Rattle.std.proofs.Common.{◌<◌, ◌^◌, arith}
use Rattle.fdr_bus.proofs.WordLemmas.{count_ones-word}
use Rattle.fdr_bus.proofs.is_odd.Goals as goal

pub returns : goal.returns
returns c =
    let fits : c.args.word < 2 ^ 32 = omega arith in
    rw (count_ones-word c.args.word fits) (λ odd. odd, λ odd. odd)
