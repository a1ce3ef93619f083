use Rattle.std.proofs.Common.{◌/◌, ap, sym, subst, ◌∙◌, arith}
use Rattle.fdr_divisor.specs.Reach.{IsInReach}
use Rattle.fdr_divisor.proofs.Quotients.{shifted, quotient_fits, product_fits}
use Rattle.fdr_divisor.proofs.Divisor.quotient.Goals as goal

pub overflow_mul-result : goal.overflow_mul-result
overflow_mul-result c =
    let within = subst (λ d. IsInReach d c.args.n) (sym c.self.view_is) c.requires in
    let product = product_fits c.self.inside.by c.self.inside.factor c.args.n c.self.invariant.0 c.self.invariant.1 within in
    omega (arith, product)

pub overflow_cast-result : goal.overflow_cast-result
overflow_cast-result c =
    let within = subst (λ d. IsInReach d c.args.n) (sym c.self.view_is) c.requires in
    let quotient = shifted c.self.inside.by c.self.inside.factor c.args.n c.self.invariant.0 c.self.invariant.1 within in
    let low = quotient_fits c.self.inside.by c.args.n c.self.invariant.0 within in
    omega (arith, quotient, low)

pub returns : goal.returns
returns c =
    let within = subst (λ d. IsInReach d c.args.n) (sym c.self.view_is) c.requires in
    shifted c.self.inside.by c.self.inside.factor c.args.n c.self.invariant.0 c.self.invariant.1 within
    ∙ ap (λ d. c.args.n / d) c.self.view_is
