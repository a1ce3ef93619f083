use Rattle.std.proofs.Common.{List, ℕ, length, arith, length-drop, ap, ◌∙◌}
use Rattle.std.proofs.lemmas.List.{take_rest}
use Rattle.fdr_io.proofs.OutputSteps.{failed_or_not}
use Rattle.fdr_storage_deck.proofs.Filling.{Filled-here, Filled-keeps, Filled-goes, Filled-gave_up, Filled-more, Filled-none, Filled-whole}
use Rattle.fdr_storage_deck.proofs.whole.read_whole.Goals as goal

pub loop-done-init : goal.loop-done-init
loop-done-init g c = Filled-here g.S.Storage.tells c.args.at c.args.buf.now (g.S.Storage.disk c.args.storage.now) (g.met.S.Storage.sound c.args.storage.now)

pub returns-in_err-count-clause-disk : goal.returns-in_err-count-clause-disk
returns-in_err-count-clause-disk g c = Filled-keeps g.S.Storage.tells c.args.at c.loop-done.done c.loop-done.buf (g.S.Storage.disk c.args.storage.now)
    (g.S.Storage.disk c.loop-done.storage) (g.S.Storage.disk c.read_some.new.storage) (g.met.S.Storage.sound c.read_some.new.storage) c.loop-done.invariant
    c.read_some.ensures.disk c.read_some.ensures.goes

pub returns-in_err-count-clause-goes : goal.returns-in_err-count-clause-goes
returns-in_err-count-clause-goes g c = Filled-goes g.S.Storage.tells c.args.at c.loop-done.done c.loop-done.buf (g.S.Storage.disk c.args.storage.now)
    (g.S.Storage.disk c.loop-done.storage) (g.S.Storage.disk c.read_some.new.storage) (g.met.S.Storage.sound c.read_some.new.storage) c.loop-done.invariant
    c.read_some.ensures.disk c.read_some.ensures.goes

pub returns-in_err-count-clause-cause : goal.returns-in_err-count-clause-cause
returns-in_err-count-clause-cause g c = failed_or_not c.from_residual.result (Filled-gave_up g.S.Storage.tells c.args.at c.loop-done.done c.loop-done.buf
    (g.S.Storage.disk c.args.storage.now)
    (g.S.Storage.disk c.loop-done.storage) (g.S.Storage.disk c.read_some.new.storage) (g.met.S.Storage.sound c.read_some.new.storage) c.loop-done.invariant
    c.read_some.ensures.disk c.read_some.ensures.goes c.in_err-count.ensures.cause)

pub returns-then-count-eq0-clause-disk : goal.returns-then-count-eq0-clause-disk
returns-then-count-eq0-clause-disk g c = Filled-keeps g.S.Storage.tells c.args.at c.loop-done.done c.loop-done.buf (g.S.Storage.disk c.args.storage.now)
    (g.S.Storage.disk c.loop-done.storage) (g.S.Storage.disk c.read_some.new.storage) (g.met.S.Storage.sound c.read_some.new.storage) c.loop-done.invariant
    c.read_some.ensures.disk c.read_some.ensures.goes

pub returns-then-count-eq0-clause-goes : goal.returns-then-count-eq0-clause-goes
returns-then-count-eq0-clause-goes g c = Filled-goes g.S.Storage.tells c.args.at c.loop-done.done c.loop-done.buf (g.S.Storage.disk c.args.storage.now)
    (g.S.Storage.disk c.loop-done.storage) (g.S.Storage.disk c.read_some.new.storage) (g.met.S.Storage.sound c.read_some.new.storage) c.loop-done.invariant
    c.read_some.ensures.disk c.read_some.ensures.goes

pub returns-then-count-eq0-clause-cause : goal.returns-then-count-eq0-clause-cause
returns-then-count-eq0-clause-cause g c = Filled-none g.S.Storage.tells c.args.at c.loop-done.done c.in_ok-count.count c.loop-done.buf c.read_some.new.buf
    (g.S.Storage.disk c.args.storage.now) (g.S.Storage.disk c.loop-done.storage) (g.S.Storage.disk c.read_some.new.storage) c.loop-done.invariant
    c.loop-done-test.true (λ told. omega (arith, c.requires.within told, c.loop-done.auto.buf))
    (c.read_some.auto.buf ∙ ap (λ (l : List ℕ). length l) (take_rest c.loop-done.buf c.loop-done.done) ∙ length-drop c.loop-done.done c.loop-done.buf)
    c.if-count-eq0.true c.in_ok-count.ensures.reads

pub loop-done-preserved : goal.loop-done-preserved
loop-done-preserved g c = Filled-more g.S.Storage.tells c.args.at c.loop-done.done c.loop-done.buf (g.S.Storage.disk c.args.storage.now)
    (g.S.Storage.disk c.loop-done.storage) (g.S.Storage.disk c.read_some.new.storage) (g.met.S.Storage.sound c.read_some.new.storage) c.loop-done.invariant
    c.read_some.ensures.disk c.read_some.ensures.goes c.in_ok-count.count c.read_some.new.buf
    (c.read_some.auto.buf ∙ ap (λ (l : List ℕ). length l) (take_rest c.loop-done.buf c.loop-done.done) ∙ length-drop c.loop-done.done c.loop-done.buf)
    c.in_ok-count.ensures.bound c.in_ok-count.ensures.reads
    c.read_some.ensures.marks c.in_ok-count.ensures.no_fault

pub returns-clause-reads : goal.returns-clause-reads
returns-clause-reads g c = Filled-whole g.S.Storage.tells c.args.at c.loop-done.done c.loop-done.buf (g.S.Storage.disk c.args.storage.now)
    (g.S.Storage.disk c.loop-done.storage) c.loop-done-test.false c.loop-done.invariant

pub returns-clause-disk : goal.returns-clause-disk
returns-clause-disk g c = c.loop-done.invariant.keeps

pub returns-clause-goes : goal.returns-clause-goes
returns-clause-goes g c = c.loop-done.invariant.goes

pub returns-clause-no_fault : goal.returns-clause-no_fault
returns-clause-no_fault g c = c.loop-done.invariant.no_fault
