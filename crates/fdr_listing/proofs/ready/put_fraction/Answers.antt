use Rattle.std.proofs.Common.{arith, ◌≤◌, length}
use Rattle.std.specs.Fmt.{decimal}
use Rattle.std.proofs.lemmas.Fmt.{length-decimal-le}
use Rattle.std.proofs.lemmas.Grind.{common_steps}
use Rattle.fdr_listing.proofs.ready.put_fraction.Goals as goal

pub overflow_sub-zeros : goal.overflow_sub-zeros
overflow_sub-zeros c =
    let digits : length (decimal c.args.n) ≤ c.args.decimals = length-decimal-le c.args.decimals c.args.n (omega arith) c.requires.below (omega arith) in
    rw (c.as_bytes-digits.ensures.value, c.format.ensures.text, c.from.ensures) digits

pub returns-clause-length : goal.returns-clause-length
returns-clause-length c =
    let digits : length (decimal c.args.n) ≤ c.args.decimals = length-decimal-le c.args.decimals c.args.n (omega arith) c.requires.below (omega arith) in
    grind (arith, common_steps)
