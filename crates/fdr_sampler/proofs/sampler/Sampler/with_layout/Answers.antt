use Rattle.std.proofs.Common.{◌≡◌, ◌*◌, ◌<◌, ◌∙◌, length, None, sym, ap, subst, arith}
use Rattle.std.proofs.lemmas.Grind.{moves}
use Rattle.std.specs.List.{All}
use Rattle.std.proofs.lemmas.List.{length-map, length-replicate}
use Rattle.fdr_layout.specs.Samples.{Sample}
use Rattle.fdr_layout.specs.SlotParts.{Laid}
use Rattle.fdr_sampler.specs.Empty.{AreEmptyRuns}
use Rattle.fdr_sampler.specs.Held.{source_of}
use Rattle.std.proofs.Math.Nat.{zero-mod}
use Rattle.fdr_frame.proofs.WordCounts.{word_count_bounds}
use Rattle.fdr_table.specs.Rows.{FrameRow}
use Rattle.fdr_sampler.specs.SlotWord.{slot_within}
use Rattle.fdr_sampler.proofs.EmptyRuns.{run_first}
use Rattle.fdr_sampler.proofs.sampler.Sampler.with_layout.Goals as goal

pub invariant_of-result : goal.invariant_of-result
invariant_of-result c =
    let params = c.args.params.now in
    let sources : length c.in_ok-held.held.sources ≡ length params = ap length c.in_ok-held.ensures.sources ∙ length-map params source_of in
    let laid = sym c.in_ok-schedule.ensures in (
      record {
        words = subst (λ (f : FrameRow). 0 < f.words) c.frame.view_is (omega (arith, word_count_bounds c.frame.inside.words c.frame.invariant.words));
        slots = subst (λ (l : Laid). length l.slots ≡ 64 * c.args.frame.words) laid c.requires.slots;
        params = subst (λ (l : Laid). All (λ (s : Sample). s.param < length c.in_ok-held.held.sources) l.samples) laid
            (subst (λ n. All (λ (s : Sample). s.param < n) c.args.layout.samples) (sym sources) c.requires.params);
        held = ap length c.in_ok-held.ensures.words ∙ length-replicate (length params) None ∙ sym sources;
        raws = ap length c.in_ok-raws.ensures ∙ length-replicate c.samples.result 0 ∙ c.samples.ensures ∙ ap (λ (l : Laid). length l.samples) laid;
        slots_drawn = omega arith;
      },
      subst (λ (l : Laid). AreEmptyRuns c.args.frame l c.in_ok-empty_runs.empty_runs.items) laid c.in_ok-empty_runs.ensures,
      run_first c.args.frame c.in_ok-schedule.schedule (slot_within c.args.frame.words 0) (zero-mod (64 * c.args.frame.words)),
    )

pub returns-in_err-held : goal.returns-in_err-held
returns-in_err-held c = grind (arith, moves) steps 2000000

pub returns-in_err-empty_runs : goal.returns-in_err-empty_runs
returns-in_err-empty_runs c = grind (arith, moves) steps 2000000
