use Rattle.std.proofs.Common.{List, ℕ, subst}
use Rattle.fdr_storage.specs.Calls.{ReadsFile}
use Rattle.fdr_storage_deck.proofs.Waiting.{Waits-here, Waits-more, Waits-goes, Waits-counts, Waits-failed, Waits-out, Waits-keeps}
use Rattle.fdr_storage_deck.proofs.tries.read_some.Goals as goal

pub loop-attempt-init : goal.loop-attempt-init
loop-attempt-init g c = Waits-here g.S.Storage.tells (g.S.Storage.disk c.args.storage.now) (g.met.S.Storage.sound c.args.storage.now)

pub returns-in-Ok-clause-goes : goal.returns-in-Ok-clause-goes
returns-in-Ok-clause-goes g c = Waits-goes g.S.Storage.tells c.loop-attempt._attempt
    (g.S.Storage.disk c.args.storage.now) (g.S.Storage.disk c.loop-attempt.storage) (g.S.Storage.disk c.read_at.new.self)
    (g.met.S.Storage.sound c.read_at.new.self) c.loop-attempt.invariant c.read_at.ensures.goes

pub returns-in-Ok-clause-no_fault : goal.returns-in-Ok-clause-no_fault
returns-in-Ok-clause-no_fault g c = Waits-counts g.S.Storage.tells c.loop-attempt._attempt
    (g.S.Storage.disk c.args.storage.now) (g.S.Storage.disk c.loop-attempt.storage) (g.S.Storage.disk c.read_at.new.self)
    c.loop-attempt.invariant c.in-Ok.ensures.no_fault

pub returns-in-Err-Failed-clause-goes : goal.returns-in-Err-Failed-clause-goes
returns-in-Err-Failed-clause-goes g c = Waits-goes g.S.Storage.tells c.loop-attempt._attempt
    (g.S.Storage.disk c.args.storage.now) (g.S.Storage.disk c.loop-attempt.storage) (g.S.Storage.disk c.read_at.new.self)
    (g.met.S.Storage.sound c.read_at.new.self) c.loop-attempt.invariant c.read_at.ensures.goes

pub returns-in-Err-Failed-clause-cause : goal.returns-in-Err-Failed-clause-cause
returns-in-Err-Failed-clause-cause g c = Waits-failed g.S.Storage.tells c.loop-attempt._attempt
    (g.S.Storage.disk c.args.storage.now) (g.S.Storage.disk c.loop-attempt.storage) (g.S.Storage.disk c.read_at.new.self)
    c.loop-attempt.invariant (rw c.in-Err-Failed.field-0-is at c.in-Err-Failed.ensures.cause)

pub loop-attempt-preserved : goal.loop-attempt-preserved
loop-attempt-preserved g c = Waits-more g.S.Storage.tells c.loop-attempt._attempt
    (g.S.Storage.disk c.args.storage.now) (g.S.Storage.disk c.loop-attempt.storage) (g.S.Storage.disk c.read_at.new.self)
    (g.met.S.Storage.sound c.read_at.new.self) c.loop-attempt.invariant
    (c.read_at.ensures.disk, c.read_at.ensures.marks)
    c.read_at.ensures.goes
    (rw c.in-Err-Interrupted.field-0-is at c.in-Err-Interrupted.ensures.cause)

pub returns-clause-goes : goal.returns-clause-goes
returns-clause-goes g c = c.loop-attempt.invariant.goes

pub returns-clause-cause : goal.returns-clause-cause
returns-clause-cause g c = Waits-out g.S.Storage.tells c.loop-attempt._attempt
    (g.S.Storage.disk c.args.storage.now) (g.S.Storage.disk c.loop-attempt.storage) c.loop-attempt-test.false c.loop-attempt.invariant

pub returns-in-Ok-clause-disk : goal.returns-in-Ok-clause-disk
returns-in-Ok-clause-disk g c = Waits-keeps g.S.Storage.tells c.loop-attempt._attempt
    (g.S.Storage.disk c.args.storage.now) (g.S.Storage.disk c.loop-attempt.storage) (g.S.Storage.disk c.read_at.new.self)
    c.loop-attempt.invariant c.read_at.ensures.disk

pub returns-in-Err-Failed-clause-disk : goal.returns-in-Err-Failed-clause-disk
returns-in-Err-Failed-clause-disk g c = Waits-keeps g.S.Storage.tells c.loop-attempt._attempt
    (g.S.Storage.disk c.args.storage.now) (g.S.Storage.disk c.loop-attempt.storage) (g.S.Storage.disk c.read_at.new.self)
    c.loop-attempt.invariant c.read_at.ensures.disk

pub returns-clause-disk : goal.returns-clause-disk
returns-clause-disk g c = c.loop-attempt.invariant.keeps

pub returns-in-Ok-clause-reads : goal.returns-in-Ok-clause-reads
returns-in-Ok-clause-reads g c told = subst (λ (h : List ℕ). ReadsFile c.args.at c.in-Ok.count h c.read_at.new.buf) c.loop-attempt.invariant.keeps.held
    (c.in-Ok.ensures.reads told)
