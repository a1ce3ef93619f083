use Rattle.std.proofs.Common.{◌*◌, ◌%◌, ◌^◌, ◌≤◌, ◌≡◌, lit≤, arith}
use Rattle.std.proofs.lemmas.Nat.{one_shl}
use Rattle.std.proofs.Math.Nat.{pow-le-pow_right}
use Rattle.fdr_recon.proofs.plans.field_of.Goals as goal

pub returns-clause-fits : goal.returns-clause-fits
returns-clause-fits c =
    let width = c.part.inside.width in
    let is = c.part.invariant in
    let few : width ≤ 12 = omega (arith, is.low, is.high) in
    let power : 2 ^ width ≤ 2 ^ 12 = pow-le-pow_right {n = 2} (lit≤ tt) few in
    let ones : 1 * 2 ^ width % 65536 ≡ 2 ^ width = one_shl width 16 (omega (arith, few)) in
    record {
      low = omega (arith, is.low, is.high, is.not_empty);
      ones = omega (arith, ones, power);
      shift = is.shift_limit;
    }
