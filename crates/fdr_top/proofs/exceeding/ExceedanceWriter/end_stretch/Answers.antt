use Rattle.std.proofs.Common.{◌∷◌, [], length, sym, subst}
use Rattle.std.specs.Prelude.{OnOk, OnErr}
use Rattle.fdr_exceed.specs.Exceedances.{ResetStep, exceedances}
use Rattle.fdr_top.specs.Exceeding.{FailsInSteps, GivesSteps, HasTakenLines, WriterKept}
use Rattle.fdr_top.proofs.Coding.{ok_both, on_err, on_ok}
use Rattle.fdr_top.proofs.WatchLines.{step_failed, step_given}
use Rattle.fdr_top.proofs.exceeding.ExceedanceWriter.end_stretch.Goals as goal

pub returns-clause-all : goal.returns-clause-all
returns-clause-all g c = λ steps had.
    let a : WriterKept = record { watch = c.self.inside.watch; waits = c.self.inside.buffer } in
    let now : WriterKept = record { watch = c.write_lines.new.watch; waits = c.write_lines.new.buffer } in
    let before : HasTakenLines a.watch steps = subst (λ (k : WriterKept). HasTakenLines k.watch steps) (sym c.self.view_is) had in
    let stood = c.reset.ensures.stands steps (length (exceedances a.watch.rules steps)) before in
    subst (λ (k : WriterKept). OnOk c.write_lines.result (GivesSteps (g.O.Sink.written c.args.out.now) (g.O.Sink.written c.write_lines.new.out) k now steps
    (ResetStep ∷ []))) c.self.view_is
    (on_ok c.write_lines.result
    (λ both. step_given _ _ a now c.reset.new.self.rules steps ResetStep both.0.0 c.reset.ensures.rules both.0.1 both.1 both.0.2)
    (ok_both _ _ c.write_lines.result (c.write_lines.ensures.all _ _ stood) (c.write_lines.ensures.stands _ _ stood)))

pub returns-clause-part : goal.returns-clause-part
returns-clause-part g c = λ steps had.
    let a : WriterKept = record { watch = c.self.inside.watch; waits = c.self.inside.buffer } in
    let before : HasTakenLines a.watch steps = subst (λ (k : WriterKept). HasTakenLines k.watch steps) (sym c.self.view_is) had in
    let stood = c.reset.ensures.stands steps (length (exceedances a.watch.rules steps)) before in
    subst (λ (k : WriterKept). OnErr c.write_lines.result (FailsInSteps (g.O.Sink.written c.args.out.now) (g.O.Sink.written c.write_lines.new.out) k steps
    (ResetStep ∷ []))) c.self.view_is
    (on_err c.write_lines.result
    (λ failed. step_failed _ _ a c.reset.new.self.rules steps ResetStep failed.0 c.reset.ensures.rules failed.1 failed.2)
    (c.write_lines.ensures.part _ _ stood))
