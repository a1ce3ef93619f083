use Rattle.std.proofs.Common.{◌≡◌, ℕ, List, [], sym, ap, ◌∙◌, subst, arith}
use Rattle.std.specs.List.{All, slice_index_or}
use Rattle.std.proofs.lemmas.Result.{IfOk-weaker}
use Rattle.fdr_table.specs.Rows.{FrameRow, ParamRow, TableRows}
use Rattle.fdr_layout.specs.Samples.{Sample}
use Rattle.fdr_layout.specs.SlotParts.{Laid}
use Rattle.fdr_recon.specs.Kept.{RebuildKept, EndsInCycle, IsSampleOf}
use Rattle.fdr_recon.specs.Past.{RepresentsRebuild}
use Rattle.fdr_recon.proofs.StandingSteps.{layout-ends, layout-samples, Stands-none}
use Rattle.fdr_frame.proofs.WordCounts.{word_count_bounds}
use Rattle.fdr_recon.proofs.past.Rebuild.new.Goals as goal

pub with_layout-requires-clause-params : goal.with_layout-requires-clause-params
with_layout-requires-clause-params c =
    let t = c.args.sound.now in
    let AreSamplesOf : List ParamRow → List (List Sample) → Type 0 = λ params layout. All (λ (samples : List Sample). All (IsSampleOf params) samples) layout in
    let params : c.params.result.now ≡ t.params = c.params.ensures ∙ ap (λ (t : TableRows). t.params) c.table-table.ensures in
    let cycles = ap (λ (l : Laid). l.cycles) c.requires in
    subst (λ ps. AreSamplesOf ps c.args.layout.cycles) (sym params)
    (subst (AreSamplesOf t.params) (sym cycles) (layout-samples t c.holds.ensures.in_range c.holds.ensures.sound))

pub with_layout-requires-clause-ends : goal.with_layout-requires-clause-ends
with_layout-requires-clause-ends c =
    let t = c.args.sound.now in
    let frame : c.frame.result ≡ t.frame = c.frame.ensures ∙ ap (λ (t : TableRows). t.frame) c.table-table.ensures in
    let Ends : ℕ → List (List Sample) → Type 0 = λ w cycles. (cycle : ℕ) → All (EndsInCycle w cycle) (slice_index_or cycles cycle []) in
    subst (λ (f : FrameRow). Ends f.words c.args.layout.cycles) (sym frame)
    (subst (Ends t.frame.words) (sym (ap (λ (l : Laid). l.cycles) c.requires))
    (λ cycle. layout-ends t cycle (omega (arith, (word_count_bounds t.frame.words c.holds.ensures.in_range.frame.words).0))))

pub returns : goal.returns
returns c =
    let t = c.args.sound.now in
    let frame : c.frame.result ≡ t.frame = c.frame.ensures ∙ ap (λ (t : TableRows). t.frame) c.table-table.ensures in
    let params : c.params.result.now ≡ t.params = c.params.ensures ∙ ap (λ (t : TableRows). t.params) c.table-table.ensures in
    IfOk-weaker c.with_layout.result _ _ (λ (k : RebuildKept) is.
    let P : RebuildKept → Type 0 = λ k. RepresentsRebuild k t [] in
    subst P (sym is) (Stands-none t c.frame.result c.params.result.now c.args.layout frame params c.requires))
    c.with_layout.ensures
