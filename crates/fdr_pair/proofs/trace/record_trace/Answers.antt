use Rattle.std.proofs.Common.{Err, ap, subst, sym}
use Rattle.fdr_bus.specs.Records.{good_prefix}
use Rattle.fdr_twin.specs.Serving.{EachPairMoment}
use Rattle.fdr_recorder.specs.Supplied.{past_fed}
use Rattle.fdr_pair.proofs.Idling.{IsIdleUntilPull}
use Rattle.fdr_pair.proofs.TraceEnds.{closed_trace, unclosed_trace}
use Rattle.fdr_pair.proofs.Tracing.{settled_fed}
use Rattle.fdr_pair.proofs.trace.record_trace.Goals as goal

pub close-requires-clause-stands : goal.close-requires-clause-stands
close-requires-clause-stands g c =
    let r = c.requires in
    let whole = c.in-Ok.ensures.fed r.0 r.1 r.2 in
    (past_fed r.0 (good_prefix whole.pulled), whole.stands)

pub close-requires-clause-settled : goal.close-requires-clause-settled
close-requires-clause-settled g c =
    let r = c.requires in
    let whole = c.in-Ok.ensures.fed r.0 r.1 r.2 in
    settled_fed _ (past_fed r.0 (good_prefix whole.pulled)) _ _ _ _ _ (g.met.T.Twin.sound_pair c.feed_trace.new.twin) r.2.number whole.has

pub returns-in-Ok-close : goal.returns-in-Ok-close
returns-in-Ok-close g c = λ past reads is.
    let whole = c.in-Ok.ensures.fed past reads is in
    let before = past_fed past (good_prefix whole.pulled) in
    let e = c.in-Ok-close.ensures in
    closed_trace _ past _ _ _ _ _ _ (g.met.T.Twin.sound_pair c.feed_trace.new.twin) is.number whole (e.all before whole.stands)
    (e.records before whole.stands)
    (λ none. subst (λ twin. EachPairMoment g.T.Deck.tells (g.T.Twin.pair c.args.twin.now) (g.T.Twin.pair twin)
    (IsIdleUntilPull (g.T.Twin.pair c.args.twin.now))) (sym (e.untouched before whole.stands none)) whole.has.idle) _
    (e.recorded before whole.stands)

pub returns-in-Err-close : goal.returns-in-Err-close
returns-in-Err-close g c = λ past reads is.
    let whole = c.in-Ok.ensures.fed past reads is in
    let before = past_fed past (good_prefix whole.pulled) in
    let e = c.in-Err-close.ensures in
    unclosed_trace _ past _ _ _ _ _ _ (g.met.T.Twin.sound_pair c.feed_trace.new.twin) is.number whole (e.all before whole.stands)
    (e.records before whole.stands)
    (λ none. subst (λ twin. EachPairMoment g.T.Deck.tells (g.T.Twin.pair c.args.twin.now) (g.T.Twin.pair twin)
    (IsIdleUntilPull (g.T.Twin.pair c.args.twin.now))) (sym (e.untouched before whole.stands none)) whole.has.idle) c.in-Err-close.fault
    (λ ends. e.seq_end before whole.stands (ap Err ends)) (λ fails. e.both_failed (ap Err fails))
