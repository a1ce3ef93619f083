use Rattle.std.proofs.Common.{◌≡◌, ◌∙◌, ap, sym, None, set, arith, get_or-set_same, get_or-set_other, ⊎_elim}
use Rattle.std.proofs.lemmas.Bool.{cases_lt}
use Rattle.fdr_exceed.specs.Watching.{cleared, window_at}
use Rattle.fdr_exceed.proofs.Stepping.{read-at}
use Rattle.fdr_exceed.proofs.windows.clear_windows.Goals as goal

pub loop-i-preserved : goal.loop-i-preserved
loop-i-preserved c =
    let i = c.loop-i.i in
    let now = c.loop-i.windows in
    let w = c.clear_window.new.window in
    let within = c.loop-i-test.true in
    record {
      done = λ j low. ⊎_elim
          (λ before. get_or-set_other now i j w None (omega arith) ∙ c.loop-i.invariant.done j before)
          (λ here. let same : j ≡ i = omega arith in
          ap (window_at (set now i w)) same ∙ get_or-set_same now i w None (omega (arith, within, c.loop-i.auto.windows)) ∙ c.clear_window.ensures
          ∙ ap cleared (sym c.index-windows-i.is
          ∙ read-at now i c.index-windows-i.result None (omega (arith, within, c.loop-i.auto.windows)) c.index-windows-i.is
          ∙ c.loop-i.invariant.rest i (omega arith)) ∙ ap (λ k. cleared (window_at c.args.windows.now k)) (sym same))
          (cases_lt j i);
      rest = λ j low. get_or-set_other now i j w None (omega arith) ∙ c.loop-i.invariant.rest j (omega arith);
    }

pub returns : goal.returns
returns c j low = c.loop-i.invariant.done j (omega (arith, low, c.loop-i-test.false))
