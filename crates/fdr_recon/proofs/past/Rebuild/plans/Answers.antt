use Rattle.std.proofs.Common.{◌≡◌, [], map, sym, ◌∙◌, ap, subst}
use Rattle.std.specs.List.{All}
use Rattle.std.proofs.lemmas.List.Elements.{All-nil}
use Rattle.fdr_layout.specs.Samples.{Sample}
use Rattle.fdr_recon.specs.Kept.{RebuildKept, kept_samples, kept_cycle, EndsInCycle, IsSampleOf}
use Rattle.fdr_recon.specs.Plans.{row_plan, cycle_plans}
use Rattle.fdr_recon.specs.View.{rebuild_kept}
use Rattle.fdr_recon.proofs.KeptRows.{kept_samples-empty, kept_samples-here, held_at}
use Rattle.fdr_recon.proofs.past.Rebuild.plans.Goals as goal

pub returns-then-is_empty-clause-rows : goal.returns-then-is_empty-clause-rows
returns-then-is_empty-clause-rows c =
    let P : RebuildKept → Type 0 = λ k. [] ≡ map (row_plan k.frame.words (kept_cycle k)) (kept_samples k) in
    let k = rebuild_kept c.self.inside in
    subst P c.self.view_is (ap (map (row_plan k.frame.words (kept_cycle k))) (sym (kept_samples-empty k (sym c.is_empty.ensures ∙ c.if-is_empty.true))))

pub returns-then-is_empty-clause-params : goal.returns-then-is_empty-clause-params
returns-then-is_empty-clause-params c =
    let P : RebuildKept → Type 0 = λ k. All (IsSampleOf k.params) (kept_samples k) in
    let k = rebuild_kept c.self.inside in
    subst P c.self.view_is (subst (All (IsSampleOf k.params)) (sym (kept_samples-empty k (sym c.is_empty.ensures ∙ c.if-is_empty.true)))
    (All-nil (IsSampleOf k.params)))

pub returns-then-is_empty-clause-ends : goal.returns-then-is_empty-clause-ends
returns-then-is_empty-clause-ends c =
    let P : RebuildKept → Type 0 = λ k. All (EndsInCycle k.frame.words (kept_cycle k)) (kept_samples k) in
    let k = rebuild_kept c.self.inside in
    let Ends : Sample → Type 0 = EndsInCycle k.frame.words (kept_cycle k) in
    subst P c.self.view_is (subst (All Ends) (sym (kept_samples-empty k (sym c.is_empty.ensures ∙ c.if-is_empty.true))) (All-nil Ends))

pub returns-else-is_empty-clause-rows : goal.returns-else-is_empty-clause-rows
returns-else-is_empty-clause-rows c =
    let P : RebuildKept → Type 0 = λ k. c.ending_in.result.now ≡ map (row_plan k.frame.words (kept_cycle k)) (kept_samples k) in
    let k = rebuild_kept c.self.inside in
    let cycle : c.cycle.result ≡ kept_cycle k = c.cycle.ensures.cycle ∙ ap kept_cycle (sym c.self.view_is) in
    subst P c.self.view_is
    (c.ending_in.ensures.rows ∙ ap (λ n. cycle_plans k.laid n c.cycle.result) c.self.invariant.planned_for
    ∙ ap (λ n. cycle_plans k.laid k.frame.words n) cycle
    ∙ ap (map (row_plan k.frame.words (kept_cycle k))) (sym (kept_samples-here k (sym c.is_empty.ensures ∙ c.if-is_empty.false))))

pub returns-else-is_empty-clause-params : goal.returns-else-is_empty-clause-params
returns-else-is_empty-clause-params c =
    let P : RebuildKept → Type 0 = λ k. All (IsSampleOf k.params) (kept_samples k) in
    let k = rebuild_kept c.self.inside in
    subst P c.self.view_is (subst (All (IsSampleOf k.params)) (sym (kept_samples-here k (sym c.is_empty.ensures ∙ c.if-is_empty.false)))
    (held_at (All (IsSampleOf k.params)) k.laid.cycles (kept_cycle k) c.self.invariant.params (All-nil (IsSampleOf k.params))))

pub returns-else-is_empty-clause-ends : goal.returns-else-is_empty-clause-ends
returns-else-is_empty-clause-ends c =
    let P : RebuildKept → Type 0 = λ k. All (EndsInCycle k.frame.words (kept_cycle k)) (kept_samples k) in
    let k = rebuild_kept c.self.inside in
    let Ends : Sample → Type 0 = EndsInCycle k.frame.words (kept_cycle k) in
    subst P c.self.view_is (subst (All Ends) (sym (kept_samples-here k (sym c.is_empty.ensures ∙ c.if-is_empty.false)))
    (c.self.invariant.ends (kept_cycle k)))
