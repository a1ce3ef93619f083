use Rattle.std.proofs.Common.{◌≡◌, ◌-◌, ◌<◌, List, ℕ, length, take, drop, arith, length-drop, ap, ◌∙◌}
use Rattle.std.proofs.lemmas.List.{take_rest}
use Rattle.fdr_storage_deck.proofs.Sending.{Sent-here, Sent-tears, Sent-goes, Sent-more, Sent-gave_up, Sent-room, Sent-whole}
use Rattle.fdr_storage_deck.proofs.whole.write_whole.Goals as goal

pub loop-sent-init : goal.loop-sent-init
loop-sent-init g c = Sent-here g.S.Storage.tells c.args.at c.args.bytes.now (g.S.Storage.disk c.args.storage.now) (g.met.S.Storage.sound c.args.storage.now)

pub write_some-requires : goal.write_some-requires
write_some-requires g c = Sent-room g.S.Storage.tells c.args.at c.loop-sent.sent c.args.bytes.now _ (g.S.Storage.disk c.args.storage.now)
    (g.S.Storage.disk c.loop-sent.storage) (take_rest c.args.bytes.now c.loop-sent.sent) c.loop-sent.invariant c.requires.within

pub returns-in_err-count-clause-tears : goal.returns-in_err-count-clause-tears
returns-in_err-count-clause-tears g c = Sent-tears g.S.Storage.tells c.args.at c.loop-sent.sent c.args.bytes.now _ (g.S.Storage.disk c.args.storage.now)
    (g.S.Storage.disk c.loop-sent.storage) (g.S.Storage.disk c.write_some.new.storage) (take_rest c.args.bytes.now c.loop-sent.sent)
    (g.met.S.Storage.sound c.write_some.new.storage) c.loop-sent.invariant c.write_some.ensures.tears c.write_some.ensures.goes

pub returns-in_err-count-clause-goes : goal.returns-in_err-count-clause-goes
returns-in_err-count-clause-goes g c = Sent-goes g.S.Storage.tells c.args.at c.loop-sent.sent c.args.bytes.now _ (g.S.Storage.disk c.args.storage.now)
    (g.S.Storage.disk c.loop-sent.storage) (g.S.Storage.disk c.write_some.new.storage) (take_rest c.args.bytes.now c.loop-sent.sent)
    (g.met.S.Storage.sound c.write_some.new.storage) c.loop-sent.invariant c.write_some.ensures.tears c.write_some.ensures.goes

pub returns-in_err-count-clause-cause : goal.returns-in_err-count-clause-cause
returns-in_err-count-clause-cause g c = Rattle.fdr_io.proofs.OutputSteps.failed_or_not c.from_residual.result
    (Sent-gave_up g.S.Storage.tells c.args.at c.loop-sent.sent c.args.bytes.now _ (g.S.Storage.disk c.args.storage.now)
    (g.S.Storage.disk c.loop-sent.storage) (g.S.Storage.disk c.write_some.new.storage) (take_rest c.args.bytes.now c.loop-sent.sent)
    (g.met.S.Storage.sound c.write_some.new.storage) c.loop-sent.invariant c.write_some.ensures.tears c.write_some.ensures.goes c.in_err-count.ensures.cause)

pub returns-then-count-eq0-clause-tears : goal.returns-then-count-eq0-clause-tears
returns-then-count-eq0-clause-tears g c = Sent-tears g.S.Storage.tells c.args.at c.loop-sent.sent c.args.bytes.now _ (g.S.Storage.disk c.args.storage.now)
    (g.S.Storage.disk c.loop-sent.storage) (g.S.Storage.disk c.write_some.new.storage) (take_rest c.args.bytes.now c.loop-sent.sent)
    (g.met.S.Storage.sound c.write_some.new.storage) c.loop-sent.invariant c.write_some.ensures.tears c.write_some.ensures.goes

pub returns-then-count-eq0-clause-goes : goal.returns-then-count-eq0-clause-goes
returns-then-count-eq0-clause-goes g c = Sent-goes g.S.Storage.tells c.args.at c.loop-sent.sent c.args.bytes.now _ (g.S.Storage.disk c.args.storage.now)
    (g.S.Storage.disk c.loop-sent.storage) (g.S.Storage.disk c.write_some.new.storage) (take_rest c.args.bytes.now c.loop-sent.sent)
    (g.met.S.Storage.sound c.write_some.new.storage) c.loop-sent.invariant c.write_some.ensures.tears c.write_some.ensures.goes

pub returns-then-count-eq0-clause-cause : goal.returns-then-count-eq0-clause-cause
returns-then-count-eq0-clause-cause g c told =
    let more = c.in_ok-count.ensures.some told in
    let long : length (take (length c.args.bytes.now - c.loop-sent.sent) (drop c.loop-sent.sent c.args.bytes.now)) ≡ length c.args.bytes.now - c.loop-sent.sent
    =
    ap (λ (l : List ℕ). length l) (take_rest c.args.bytes.now c.loop-sent.sent) ∙ length-drop c.loop-sent.sent c.args.bytes.now in
    let some : 0 < c.in_ok-count.count = more (omega (arith, long, c.loop-sent-test.true)) in
    let never : ⊥ = omega (arith, some, c.if-count-eq0.true) in
    absurd never

pub loop-sent-preserved : goal.loop-sent-preserved
loop-sent-preserved g c = Sent-more g.S.Storage.tells c.args.at c.loop-sent.sent c.args.bytes.now _ (g.S.Storage.disk c.args.storage.now)
    (g.S.Storage.disk c.loop-sent.storage) (g.S.Storage.disk c.write_some.new.storage) (take_rest c.args.bytes.now c.loop-sent.sent)
    (g.met.S.Storage.sound c.write_some.new.storage) c.loop-sent.invariant c.write_some.ensures.tears c.write_some.ensures.goes
    c.in_ok-count.count c.in_ok-count.ensures.bound c.requires.within c.in_ok-count.ensures.writes c.write_some.ensures.whole c.in_ok-count.ensures.no_fault

pub returns-clause-writes : goal.returns-clause-writes
returns-clause-writes g c = Sent-whole g.S.Storage.tells c.args.at c.loop-sent.sent c.args.bytes.now (g.S.Storage.disk c.args.storage.now)
    (g.S.Storage.disk c.loop-sent.storage) c.loop-sent-test.false c.loop-sent.invariant

pub returns-clause-tears : goal.returns-clause-tears
returns-clause-tears g c = c.loop-sent.invariant.tears

pub returns-clause-goes : goal.returns-clause-goes
returns-clause-goes g c = c.loop-sent.invariant.goes

pub returns-clause-no_fault : goal.returns-clause-no_fault
returns-clause-no_fault g c = c.loop-sent.invariant.no_fault
