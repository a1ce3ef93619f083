use Rattle.std.proofs.Common.{◌≡◌, ◌+◌, ◌-◌, ◌*◌, ◌∙◌, length, replicate, refl, ap, subst, arith}
use Rattle.std.proofs.lemmas.List.{length-set, length-replicate}
use Rattle.fdr_table.specs.Rows.{FrameRow}
use Rattle.fdr_sampler.specs.Empty.{IsEmptyRun}
use Rattle.fdr_sampler.proofs.EmptyRuns.{run_past, run_put, runs_begun}
use Rattle.fdr_sampler.proofs.empty.empty_runs.Goals as goal

pub loop-slots_after-init : goal.loop-slots_after-init
loop-slots_after-init c =
    let count = 64 * c.frame.inside.words in
    let same : count ≡ 64 * c.args.frame.words = ap (λ (f : FrameRow). 64 * f.words) c.frame.view_is in
    record {
      long = ap length c.in_ok-runs.ensures ∙ length-replicate count 0;
      each = λ k from. runs_begun c.args.frame c.args.layout.now c.in_ok-runs.runs.items (c.in_ok-runs.ensures ∙ ap (λ n. replicate n 0) same) k
          (omega (arith, from, same));
      run = run_past c.args.frame c.args.layout.now (count - 0) 0 refl (omega (arith, same));
      few = omega arith;
    }

pub run_from-run-requires-clause-next : goal.run_from-run-requires-clause-next
run_from-run-requires-clause-next c =
    let count = 64 * c.frame.inside.words in
    let at : count - c.loop-slots_after.slots_after ≡ count - 1 - c.loop-slots_after.slots_after + 1 = omega (arith, c.loop-slots_after-test.true) in
    subst (λ m. IsEmptyRun c.args.frame c.args.layout.now m c.loop-slots_after.run) at c.loop-slots_after.invariant.run

pub loop-slots_after-preserved : goal.loop-slots_after-preserved
loop-slots_after-preserved c =
    let count = 64 * c.frame.inside.words in
    let runs = c.loop-slots_after.runs.items in
    let slot = count - 1 - c.loop-slots_after.slots_after in
    let run = c.run_from-run.result in
    let at : slot ≡ count - (c.loop-slots_after.slots_after + 1) = omega (arith, c.loop-slots_after-test.true) in
    record {
      long = length-set runs slot run ∙ c.loop-slots_after.invariant.long;
      each = λ k from. run_put c.args.frame c.args.layout.now runs slot run (omega (arith, c.loop-slots_after.invariant.long, c.loop-slots_after-test.true))
          c.run_from-run.ensures.run (λ j slots_after. c.loop-slots_after.invariant.each j (omega (arith, slots_after, c.loop-slots_after-test.true)))
          k (omega (arith, from, at));
      run = subst (λ m. IsEmptyRun c.args.frame c.args.layout.now m run) at c.run_from-run.ensures.run;
      few = omega (arith, c.run_from-run.ensures.more, c.loop-slots_after.invariant.few);
    }

pub returns : goal.returns
returns c = record {
  long = c.loop-slots_after.invariant.long ∙ ap (λ (f : FrameRow). 64 * f.words) c.frame.view_is;
  each = λ k. c.loop-slots_after.invariant.each k (omega (arith, c.loop-slots_after.auto.slots_after-end, c.loop-slots_after-test.false));
}
