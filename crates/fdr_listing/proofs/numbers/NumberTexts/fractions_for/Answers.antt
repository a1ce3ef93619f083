use Rattle.std.proofs.Common.{rules}
use Rattle.fdr_listing.proofs.Sizes.{ready_for}
use Rattle.fdr_listing.proofs.numbers.NumberTexts.fractions_for.Goals as goal

pub returns-then-size-limit-clause-fractions : goal.returns-then-size-limit-clause-fractions
returns-then-size-limit-clause-fractions c =
    ready_for c.self.inside.fractions.items c.args.decimals c.in_ok-fractions.fractions.now c.self.invariant.by_digits (search rules)
