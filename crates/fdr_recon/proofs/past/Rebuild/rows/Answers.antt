use Rattle.std.proofs.Common.{◌∙◌, ap, List, length}
use Rattle.std.proofs.lemmas.List.{length-map}
use Rattle.fdr_layout.specs.Samples.{Sample}
use Rattle.fdr_recon.specs.Kept.{kept_cycle, kept_samples}
use Rattle.fdr_recon.specs.Plans.{RowPlan, row_plan}
use Rattle.fdr_recon.proofs.StandingRows.{kept_samples-none, rows-stands}
use Rattle.fdr_recon.proofs.past.Rebuild.rows.Goals as goal

pub returns-clause-samples : goal.returns-clause-samples
returns-clause-samples c =
    let k = c.args.self.now in
    ap (λ (xs : List RowPlan). length xs) c.plans.ensures.rows ∙ length-map (kept_samples k) (row_plan k.frame.words (kept_cycle k))

pub returns-clause-before : goal.returns-clause-before
returns-clause-before c t s =
    returns-clause-samples c ∙ ap (λ (xs : List Sample). length xs) (kept_samples-none c.args.self.now t s)

pub returns-clause-rows : goal.returns-clause-rows
returns-clause-rows c t past s frames = returns-clause-samples c ∙ rows-stands c.args.self.now t past s c.plans.ensures.frame frames
