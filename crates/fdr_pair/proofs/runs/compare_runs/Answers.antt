use Rattle.std.proofs.Common.{ℕ, Option, subst}
use Rattle.fdr_recover.specs.Images.{recovered_run}
use Rattle.fdr_pair.specs.Differ.{IsLeastDifference}
use Rattle.fdr_pair.proofs.runs.compare_runs.Goals as goal

pub returns-in-Ok-None-clause-found : goal.returns-in-Ok-None-clause-found
returns-in-Ok-None-clause-found g c =
    let p = g.T.Twin.pair c.args.twin.now in (
      c.requires.first_run,
      c.requires.second_run,
      c.in-Ok-None.ensures.no_fault,
      λ told. subst (λ (o : Option ℕ). IsLeastDifference (recovered_run c.args.h.now p.first.held) (recovered_run c.args.h.now p.second.held) o)
          c.in-Ok-None.field-0-is (c.in-Ok-None.ensures.least told),
    )

pub returns-in-Ok-Some-clause-refused : goal.returns-in-Ok-Some-clause-refused
returns-in-Ok-Some-clause-refused g c =
    let p = g.T.Twin.pair c.args.twin.now in (
      c.in-Ok-Some.ensures.no_fault,
      λ told. subst (λ (o : Option ℕ). IsLeastDifference (recovered_run c.args.h.now p.first.held) (recovered_run c.args.h.now p.second.held) o)
          c.in-Ok-Some.field-0-is (c.in-Ok-Some.ensures.least told),
    )
