use Rattle.std.proofs.Common.{◌≡◌, ℕ, sym, ◌∙◌, ap, List, [], Some, get_or, length, map, ◌<◌}
use Rattle.std.proofs.lemmas.List.{get_or-map}
use Rattle.std.proofs.lemmas.Option.{slice_get-get_or}
use Rattle.fdr_layout.specs.Samples.{Sample}
use Rattle.fdr_recon.specs.Kept.{kept_cycle, kept_samples}
use Rattle.fdr_recon.specs.Plans.{RowPlan, row_plan}
use Rattle.fdr_recon.proofs.StandingRows.{row-stands}
use Rattle.fdr_recon.proofs.past.Rebuild.row.Goals as goal

none : Sample
none = record { param = 0; index = 0; parts = [] }

-- a plan is that of the sample at its place
planned : (f : Sample → RowPlan) (samples : List Sample) (plans : List RowPlan) (i : ℕ) (p : RowPlan) → plans ≡ map f samples → i < length samples
    → p ≡ get_or plans i p → p ≡ f (get_or samples i none)
planned f samples plans i p are within is = is ∙ ap (λ (ps : List RowPlan). get_or ps i p) are ∙ get_or-map f samples i none p within

pub row_of-requires : goal.row_of-requires
row_of-requires c =
    let k = c.args.self.now in
    let i = c.args.i in
    let samples = kept_samples k in
    let is = planned (row_plan k.frame.words (kept_cycle k)) samples c.plans.result.now i c.index-plans-i.result c.plans.ensures.rows c.requires
    c.index-plans-i.is in
    (get_or samples i none, is, c.plans.ensures.params i none c.requires, c.plans.ensures.ends i none c.requires)

pub returns-clause-row : goal.returns-clause-row
returns-clause-row c t past stands =
    let k = c.args.self.now in
    let i = c.args.i in
    let s = get_or (kept_samples k) i none in
    let read = slice_get-get_or (kept_samples k) i none c.requires in
    row-stands k t past i s stands c.plans.ensures.frame read
    ∙ ap Some (sym (c.row_of.ensures.row s (planned (row_plan k.frame.words (kept_cycle k)) (kept_samples k) c.plans.result.now i
    c.index-plans-i.result c.plans.ensures.rows c.requires c.index-plans-i.is) (c.plans.ensures.params i none c.requires)
    (c.plans.ensures.ends i none c.requires)))
