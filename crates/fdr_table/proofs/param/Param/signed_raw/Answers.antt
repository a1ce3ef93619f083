use Rattle.std.proofs.Common.{◌<◌, ◌≤◌, ◌^◌, ◌∙◌, sym, ap, subst, arith, rules}
use Rattle.fdr_table.specs.Rows.{ParamRow}
use Rattle.fdr_table.proofs.ValueFacts.{below-zero, highest-set, signed-below, turned-fits, turned-is}
use Rattle.fdr_table.specs.Value.{signed_of}
use Rattle.fdr_table.specs.Views.{param_view}
use Rattle.fdr_table.proofs.param.Param.signed_raw.Goals as goal

pub overflow_sub-result : goal.overflow_sub-result
overflow_sub-result c =
    let width = c.self.inside.width in
    let below : c.args.raw < 2 ^ width = subst (λ (p : ParamRow). c.args.raw < 2 ^ p.width) (sym c.self.view_is) c.requires in
    let narrow : width ≤ 32 = omega (arith, c.self.invariant.lsb_low, c.self.invariant.bits) in
    turned-fits c.from-raw.result c.args.raw width c.from-raw.ensures below narrow

pub returns-then-self-raw : goal.returns-then-self-raw
returns-then-self-raw c =
    let width = c.self.inside.width in
    let below : c.args.raw < 2 ^ width = subst (λ (p : ParamRow). c.args.raw < 2 ^ p.width) (sym c.self.view_is) c.requires in
    let narrow : width ≤ 32 = omega (arith, c.self.invariant.lsb_low, c.self.invariant.bits) in
    let within = below-zero c.args.raw width below narrow in
    let high = highest-set c.from-raw.result c.args.raw width c.from-raw.ensures below narrow c.if-self-raw.true in
    rw (turned-is c.from-raw.result c.args.raw width c.from-raw.ensures below narrow) (record {
      exactly = signed-below (param_view c.self.inside) c.args.raw c.if-self.true high ∙ ap (λ (p : ParamRow). signed_of p c.args.raw) c.self.view_is;
      low = within.0;
      high = within.1;
    })

pub returns-else-self-clause-exactly : goal.returns-else-self-clause-exactly
returns-else-self-clause-exactly c = search rules
