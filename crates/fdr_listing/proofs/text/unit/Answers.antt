use Rattle.std.proofs.Common.{◌≤◌, ◌^◌, arith, lit≤}
use Rattle.std.proofs.Math.Nat.{one-le-pow, pow-le-pow_right}
use Rattle.fdr_listing.proofs.text.unit.Goals as goal

pub returns-clause-low : goal.returns-clause-low
returns-clause-low c = rw c.pow.ensures (one-le-pow c.from.result 10 (omega arith))

pub returns-clause-high : goal.returns-clause-high
returns-clause-high c =
    let few : c.from.result ≤ 9 = omega arith in
    let high : 10 ^ c.from.result ≤ 10 ^ 9 = pow-le-pow_right {n = 10} (lit≤ tt) few in
    rw c.pow.ensures high
