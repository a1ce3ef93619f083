use Rattle.std.proofs.Common.{Bool, List, ◌∷◌, [], ap, sym, refl, ◌∙◌, subst, add-zero}
use Rattle.fdr_exceed.specs.Exceedances.{WatchStep}
use Rattle.fdr_readout.specs.Entries.{FrameEntry}
use Rattle.fdr_top.specs.Exceed.{steps_of_entries}
use Rattle.fdr_top.specs.Exceeding.{FailsInSteps, GivesSteps, HasTakenLines}
use Rattle.fdr_top.specs.ExceedSound.{takes_nothing}
use Rattle.fdr_top.proofs.Coding.{on_err, on_ok}
use Rattle.fdr_top.proofs.WatchLines.{each_err, each_ok, entries_given}
use Rattle.fdr_top.proofs.exceeding.ExceedanceWriterTaker.frame.Goals as goal

-- the steps of a frame
abbrev frame_steps : Bool → List WatchStep
frame_steps linked = steps_of_entries (FrameEntry linked ∷ [])

pub returns-then-linked-clause-all : goal.returns-then-linked-clause-all
returns-then-linked-clause-all g c = λ t.
    takes_nothing (g.O.Sink.written c.args.out.now) c.args.self.now (FrameEntry c.args.linked ∷ []) (ap frame_steps c.if-linked.true) refl

pub returns-clause-all : goal.returns-clause-all
returns-clause-all g c = λ t.
    let a = c.args.self.now in
    let o = g.O.Sink.written c.args.out.now in
    let p = g.O.Sink.written c.end_stretch.new.out in
    on_ok c.end_stretch.result
    (λ gave. entries_given o p a c.end_stretch.new.self (FrameEntry c.args.linked ∷ []) c.end_stretch.ensures.rules
    (λ few. c.end_stretch.ensures.rows ∙ sym (add-zero a.watch.rows))
    (λ few steps had. subst (GivesSteps o p a c.end_stretch.new.self steps) (ap frame_steps (sym c.if-linked.false)) (gave steps had)))
    (each_ok (HasTakenLines a.watch) _ c.end_stretch.result c.end_stretch.ensures.all)

pub returns-clause-part : goal.returns-clause-part
returns-clause-part g c = λ t.
    let a = c.args.self.now in
    let o = g.O.Sink.written c.args.out.now in
    let p = g.O.Sink.written c.end_stretch.new.out in
    on_err c.end_stretch.result
    (λ failed few steps had. subst (FailsInSteps o p a steps) (ap frame_steps (sym c.if-linked.false)) (failed steps had))
    (each_err (HasTakenLines a.watch) _ c.end_stretch.result c.end_stretch.ensures.part)
