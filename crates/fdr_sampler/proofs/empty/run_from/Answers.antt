use Rattle.std.proofs.Common.{◌+◌, refl}
use Rattle.std.proofs.lemmas.Bool.{both_ways}
use Rattle.fdr_sampler.proofs.EmptyRuns.{run_more, run_none}
use Rattle.fdr_sampler.proofs.empty.run_from.Goals as goal

pub returns-then-is_empty-clause-run : goal.returns-then-is_empty-clause-run
returns-then-is_empty-clause-run c =
    run_more c.args.frame c.args.layout.now c.args.slot (c.args.slot + 1) c.args.next refl c.requires.slot (c.is_empty.ensures.0 c.if-is_empty.true)
    c.requires.next

pub returns-else-is_empty-clause-run : goal.returns-else-is_empty-clause-run
returns-else-is_empty-clause-run c =
    run_none c.args.frame c.args.layout.now c.args.slot (λ empty. both_ways c.is_empty.result c.if-is_empty.false (c.is_empty.ensures.1 empty))
