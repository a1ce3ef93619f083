use Rattle.std.proofs.Common.{◌≡◌, ℕ, List, [], length, ap, sym, ◌∙◌, subst, arith}
use Rattle.std.specs.List.{slice_index_or}
use Rattle.std.proofs.lemmas.List.{length-map}
use Rattle.fdr_layout.specs.Flat.{segment, AreStarts}
use Rattle.fdr_layout.specs.Samples.{Sample}
use Rattle.fdr_recon.specs.Plans.{Planned, RowPlan, row_plan, cycle_plans}
use Rattle.fdr_recon.proofs.Planning.{plan_starts, plan_starts_long, plans_of_cycle}
use Rattle.fdr_recon.proofs.plans.Plans.ending_in.Goals as goal

pub plans_at-requires-clause-starts : goal.plans_at-requires-clause-starts
plans_at-requires-clause-starts c =
    let p = c.self.inside in
    subst (λ (xs : List ℕ). AreStarts xs (length c.deref-2.result.now)) (sym c.deref.ensures.value)
    (subst (λ (ys : List RowPlan). AreStarts p.starts.items (length ys)) (sym c.deref-2.ensures.value)
    (plan_starts p.layout p.words p.starts.items p.rows.items c.self.invariant))

pub plans_at-requires-clause-within : goal.plans_at-requires-clause-within
plans_at-requires-clause-within c =
    let p = c.self.inside in
    omega (
      arith,
      ap (λ (xs : List ℕ). length xs) c.deref.ensures.value,
      plan_starts_long p.layout p.words p.starts.items p.rows.items c.self.invariant,
      c.requires,
    )

pub returns-clause-rows : goal.returns-clause-rows
returns-clause-rows c =
    let p = c.self.inside in
    c.plans_at.ensures ∙ ap (λ (xs : List ℕ). segment xs c.deref-2.result.now c.args.cycle) c.deref.ensures.value
    ∙ ap (λ (ys : List RowPlan). segment p.starts.items ys c.args.cycle) c.deref-2.ensures.value
    ∙ plans_of_cycle p.layout p.words p.starts.items p.rows.items c.args.cycle c.self.invariant c.requires
    ∙ ap (λ (x : Planned). cycle_plans x.laid x.words c.args.cycle) c.self.view_is

pub returns-clause-countable : goal.returns-clause-countable
returns-clause-countable c =
    let p = c.self.inside in
    let samples : List Sample = slice_index_or p.layout.cycles c.args.cycle [] in
    let same : c.plans_at.result.now ≡ cycle_plans p.layout p.words c.args.cycle =
    returns-clause-rows c ∙ ap (λ (x : Planned). cycle_plans x.laid x.words c.args.cycle) (sym c.self.view_is) in
    omega (
      arith,
      ap (λ (ys : List RowPlan). length ys) same,
      length-map samples (row_plan p.words c.args.cycle),
      c.self.invariant.countable c.args.cycle c.requires,
    )
