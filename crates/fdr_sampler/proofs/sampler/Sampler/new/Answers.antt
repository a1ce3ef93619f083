use Rattle.std.proofs.Common.{◌≡◌, ◌*◌, ◌<◌, ◌∙◌, List, length, map, sym, ap, subst, arith}
use Rattle.std.specs.List.{All}
use Rattle.std.proofs.lemmas.List.FromFn.{length-map-range_with_len}
use Rattle.std.specs.Result.{IfOk}
use Rattle.std.proofs.lemmas.Result.{IfOk-weaker}
use Rattle.fdr_table.specs.Rows.{FrameRow, ParamRow, TableRows}
use Rattle.fdr_layout.specs.Samples.{Sample, samples}
use Rattle.fdr_layout.specs.SlotParts.{Laid, laid_of, parts_in}
use Rattle.fdr_layout.proofs.Endings.{samples_params}
use Rattle.fdr_layout.proofs.Few.{params_few, samples_few}
use Rattle.fdr_sampler.specs.Kept.{SamplerKept, owners_of}
use Rattle.fdr_sampler.proofs.Owning.{owners_are}
use Rattle.fdr_sampler.specs.Past.{RepresentsSampler, sampler_made}
use Rattle.fdr_sampler.proofs.Standing.{Stands-made_of}
use Rattle.fdr_sampler.proofs.sampler.Sampler.new.Goals as goal

pub with_layout-requires-clause-slots : goal.with_layout-requires-clause-slots
with_layout-requires-clause-slots c =
    let t = c.table-table.result.now in
    let laid : c.args.layout ≡ laid_of t = c.requires ∙ ap laid_of (sym c.table-table.ensures) in
    ap (λ (l : Laid). length l.slots) laid ∙ length-map-range_with_len (parts_in t) 0 (64 * t.frame.words)
    ∙ ap (λ (f : FrameRow). 64 * f.words) (sym c.frame.ensures)

pub with_layout-requires-clause-params : goal.with_layout-requires-clause-params
with_layout-requires-clause-params c =
    let t = c.table-table.result.now in
    let laid : c.args.layout ≡ laid_of t = c.requires ∙ ap laid_of (sym c.table-table.ensures) in
    let P : List Sample → List ParamRow → Type 0 = λ ss ps. All (λ (s : Sample). s.param < length ps) ss in
    subst (λ (l : Laid). P l.samples c.params.result.now) (sym laid)
    (subst (P (samples t)) (sym c.params.ensures) (samples_params t))

pub with_layout-requires-clause-few : goal.with_layout-requires-clause-few
with_layout-requires-clause-few c =
    let t = c.args.sound.now in
    let params = ap length (c.params.ensures ∙ ap (λ (x : TableRows). x.params) c.table-table.ensures) in
    omega (arith, params, params_few t c.holds.ensures.in_range, samples_few t c.holds.ensures.sound)

pub with_layout-requires-clause-owners : goal.with_layout-requires-clause-owners
with_layout-requires-clause-owners c =
    let t = c.table-table.result.now in
    let laid : c.args.layout ≡ laid_of t = c.requires ∙ ap laid_of (sym c.table-table.ensures) in
    ap owners_of c.params.ensures ∙ owners_are t ∙ sym (ap (λ (l : Laid). map (λ (s : Sample). s.param) l.samples) laid)

pub returns : goal.returns
returns c =
    let t = c.table-table.result.now in
    let laid : c.args.layout ≡ laid_of t = c.requires ∙ ap laid_of (sym c.table-table.ensures) in
    subst (λ (x : TableRows). IfOk c.with_layout.result (λ s. RepresentsSampler s (sampler_made x))) c.table-table.ensures
    (IfOk-weaker c.with_layout.result _ _ (λ (k : SamplerKept) is.
    subst (λ (x : SamplerKept). RepresentsSampler x (sampler_made t)) (sym is)
    (Stands-made_of t c.frame.result c.params.result.now c.args.layout c.frame.ensures c.params.ensures laid))
    c.with_layout.ensures)
