use Rattle.std.proofs.Common.{◌≡◌, ◌∙◌, ◌++◌, ◌∷◌, [], Result, Err, ap, refl, sym, subst}
use Rattle.fdr_bus.specs.declared.BusRecord.{BusRecord}
use Rattle.fdr_slot.specs.Limits.{IsInLimits}
use Rattle.fdr_trace.specs.Reading.{RepresentsTrace}
use Rattle.fdr_trace.specs.declared.TraceStop.{TraceStop}
use Rattle.fdr_recorder.specs.Past.{MayFeedRecording, RecordingPast, recording_with_record}
use Rattle.fdr_recorder.specs.Supplied.{past_fed}
use Rattle.fdr_recorder.proofs.ReadRecords.{count_rises, good_with_next, is_end-no, is_end-yes}
use Rattle.fdr_pair.specs.PairPast.{RepresentsPair}
use Rattle.fdr_pair.specs.Traces.{HasFedPair, IsPairBegun}
use Rattle.fdr_pair.proofs.TraceEnds.{cut_trace, fed_to_end, fed_to_stop, gave_bytes, may_feed_next, parts_fed}
use Rattle.fdr_pair.proofs.Tracing.{fed_none, fed_pull, fed_record, settled_fed, idle_after}
use Rattle.fdr_pair.proofs.trace.feed_trace.Given.{Over}
use Rattle.fdr_pair.proofs.trace.feed_trace.Goals.{In-Ok, In-Ok-feed}
use Rattle.fdr_pair.proofs.trace.feed_trace.Goals as goal

err_same : (a b : TraceStop) → ◌≡◌ {A = Result BusRecord TraceStop} (Err a) (Err b) → a ≡ b
err_same a b e = cc

limits_of : (past : RecordingPast) (s : _) → RepresentsPair s past → IsInLimits past.header
limits_of past s stands = subst IsInLimits stands.header s.rings.limits

-- the session may be fed the record that came
may : (g : Over) (c : In-Ok g) (past : RecordingPast) (reads : RepresentsTrace c.args.trace.now [] [])
    (is : IsPairBegun g.T.Deck.tells c.args.session past (g.T.Twin.pair c.args.twin.now))
    → MayFeedRecording (past_fed past (c.loop-next.invariant.has past reads is).1) c.in-Ok.next
may g c past reads is =
    let at = c.loop-next.invariant.has past reads is in
    let next = c.in-Ok.ensures.next at.0 at.1 at.2 in
    may_feed_next past _ _ at.0 (at.0 ++ next.0) at.1 c.in-Ok.next at.2 next.2

-- what was pulled for it
pulled : (g : Over) (c : In-Ok g) (past : RecordingPast) (reads : RepresentsTrace c.args.trace.now [] [])
    (is : IsPairBegun g.T.Deck.tells c.args.session past (g.T.Twin.pair c.args.twin.now))
    → let at = c.loop-next.invariant.has past reads is in
    HasFedPair g.T.Deck.tells (past_fed past at.1) c.args.session.rings c.loop-next.session (at.0 ++ (c.in-Ok.ensures.next at.0 at.1 at.2).0)
    (g.T.Twin.pair c.args.twin.now) (g.T.Twin.pair c.next.new.deck)
pulled g c past reads is =
    let e = c.in-Ok.ensures in
    let at = c.loop-next.invariant.has past reads is in
    let next = e.next at.0 at.1 at.2 in
    fed_pull _ (past_fed past at.1) _ _ at.0 _ _ (g.met.T.Twin.sound_pair c.loop-next.twin) is.number at.4 _ _ _
    (g.met.T.Twin.faces c.loop-next.twin) (g.met.T.Twin.faces c.next.new.deck) (g.met.T.Twin.leaves_rest c.loop-next.twin c.next.new.deck e.rest)
    e.disk (g.met.T.Deck.sound c.loop-next.twin) next.0 next.1 next.3 e.announced e.fresh is.announced

quiet : (g : Over) (c : In-Ok g) → (g.T.Twin.pair c.next.new.deck).input_faults ≡ (g.T.Twin.pair c.args.twin.now).input_faults
quiet g c =
    let here = g.met.T.Twin.faces c.loop-next.twin in
    let there = g.met.T.Twin.faces c.next.new.deck in
    there.input_faults ∙ c.in-Ok.ensures.no_fault (λ x. absurd (cc)) ∙ sym here.input_faults ∙ c.loop-next.invariant.no_fault

-- once the session took it
has_fed : (g : Over) (c : In-Ok-feed g) (past : RecordingPast) (reads : RepresentsTrace c.args.trace.now [] [])
    (is : IsPairBegun g.T.Deck.tells c.args.session past (g.T.Twin.pair c.args.twin.now))
    → let at = c.loop-next.invariant.has past reads is in
    MayFeedRecording (past_fed past at.1) c.in-Ok.next
    → HasFedPair g.T.Deck.tells (past_fed past at.1) c.args.session.rings c.loop-next.session (at.0 ++ (c.in-Ok.ensures.next at.0 at.1 at.2).0)
    (g.T.Twin.pair c.args.twin.now) (g.T.Twin.pair c.next.new.deck)
    → HasFedPair g.T.Deck.tells (recording_with_record (past_fed past at.1) c.in-Ok.next) c.args.session.rings c.in-Ok-feed.session
    (at.0 ++ (c.in-Ok.ensures.next at.0 at.1 at.2).0) (g.T.Twin.pair c.args.twin.now) (g.T.Twin.pair c.feed.new.twin)
has_fed g c past reads is fits before =
    let f = c.in-Ok-feed.ensures in
    let at = c.loop-next.invariant.has past reads is in
    let next = c.in-Ok.ensures.next at.0 at.1 at.2 in
    let good = good_with_next _ (at.0 ++ next.0) at.1 c.in-Ok.next next.2 in
    fed_record _ (past_fed past at.1) _ _ _ _ _ (g.met.T.Twin.sound_pair c.next.new.deck) is.number before _ _ c.in-Ok.next
    (limits_of (past_fed past at.1) _ at.3) fits is.announced (gave_bytes _ at.1 good.0 c.in-Ok.next good.1)
    (f.records (past_fed past at.1) at.3 fits) (f.recorded (past_fed past at.1) at.3 fits)

quiet_fed : (g : Over) (c : In-Ok-feed g) → (g.T.Twin.pair c.feed.new.twin).input_faults ≡ (g.T.Twin.pair c.args.twin.now).input_faults
quiet_fed g c =
    let r = c.requires in
    let at = c.loop-next.invariant.has r.0 r.1 r.2 in
    let next = c.in-Ok.ensures.next at.0 at.1 at.2 in
    let fits = may_feed_next r.0 _ _ at.0 (at.0 ++ next.0) at.1 c.in-Ok.next at.2 next.2 in
    let here = g.met.T.Twin.faces c.loop-next.twin in
    let there = g.met.T.Twin.faces c.next.new.deck in
    (c.in-Ok-feed.ensures.records (past_fed r.0 at.1) at.3 fits).numbers.line.input_faults ∙ there.input_faults
    ∙ c.in-Ok.ensures.no_fault (λ x. absurd (cc)) ∙ sym here.input_faults ∙ c.loop-next.invariant.no_fault

pub loop-next-init : goal.loop-next-init
loop-next-init g c = record {
  has = λ past reads is.
      let stands = subst (λ l. RepresentsPair c.args.session (past_fed past l)) is.none is.stands in
      ([], [], reads, stands, fed_none _ _ past _ (g.met.T.Twin.sound_pair c.args.twin.now) is stands);
  no_fault = refl;
}

pub next-requires : goal.next-requires
next-requires g c = let r = c.requires in let at = c.loop-next.invariant.has r.0 r.1 r.2 in (at.0, at.1, at.2)

pub returns-in-Err-clause-fed : goal.returns-in-Err-clause-fed
returns-in-Err-clause-fed g c = λ past reads is.
    let e = c.in-Err.ensures in
    let at = c.loop-next.invariant.has past reads is in
    let next = e.next at.0 at.1 at.2 in
    let has = fed_pull _ (past_fed past at.1) _ _ at.0 _ _ (g.met.T.Twin.sound_pair c.loop-next.twin) is.number at.4 _ _ _
    (g.met.T.Twin.faces c.loop-next.twin) (g.met.T.Twin.faces c.next.new.deck) (g.met.T.Twin.leaves_rest c.loop-next.twin c.next.new.deck e.rest)
    e.disk (g.met.T.Deck.sound c.loop-next.twin) next.0 next.1 next.3 e.announced e.fresh is.announced in
    fed_to_stop _ past _ _ _ _ _ _ _ (at.0 ++ next.0) at.1 c.in-Err.why (g.met.T.Twin.faces c.loop-next.twin) (g.met.T.Twin.faces c.next.new.deck)
    at.3 has next.2 c.loop-next.invariant.no_fault (λ not. e.no_fault (λ x. not (err_same _ _ x)))

pub feed-requires-clause-stands : goal.feed-requires-clause-stands
feed-requires-clause-stands g c =
    let r = c.requires in
    let at = c.loop-next.invariant.has r.0 r.1 r.2 in
    (past_fed r.0 at.1, at.3, may g (goal.at.feed-requires-clause-stands g c).In-Ok r.0 r.1 r.2)

pub feed-requires-clause-settled : goal.feed-requires-clause-settled
feed-requires-clause-settled g c =
    let r = c.requires in
    let at = c.loop-next.invariant.has r.0 r.1 r.2 in
    settled_fed _ (past_fed r.0 at.1) _ _ _ _ _ (g.met.T.Twin.sound_pair c.next.new.deck) r.2.number
    (pulled g (goal.at.feed-requires-clause-settled g c).In-Ok r.0 r.1 r.2)

pub returns-in-Err-feed-clause-ended : goal.returns-in-Err-feed-clause-ended
returns-in-Err-feed-clause-ended g c = λ past reads is.
    let place = goal.at.returns-in-Err-feed-clause-ended g c in
    let f = c.in-Err-feed.ensures in
    let at = c.loop-next.invariant.has past reads is in
    let next = c.in-Ok.ensures.next at.0 at.1 at.2 in
    let fits = may g place.In-Ok past reads is in
    let good = good_with_next _ (at.0 ++ next.0) at.1 c.in-Ok.next next.2 in
    let parts = parts_fed past (at.0 ++ next.0) at.1 good.0 c.in-Ok.next (limits_of (past_fed past at.1) _ at.3) fits good.1 in
    let records = f.records (past_fed past at.1) at.3 fits in
    let idle = idle_after _ (past_fed past at.1) _ _ (at.0 ++ next.0) _ _ (g.met.T.Twin.sound_pair c.next.new.deck) is.number
    (pulled g place.In-Ok past reads is) _ _ records (gave_bytes _ at.1 good.0 c.in-Ok.next good.1) in
    cut_trace _ past _ _ (at.0 ++ next.0) at.1 _ _ _ (g.met.T.Twin.sound_pair c.next.new.deck) is.number (pulled g place.In-Ok past reads is)
    _ parts.0 records parts.1 idle c.in-Err-feed.fault (λ known. quiet g place.In-Ok)
    (λ ends. f.seq_end (past_fed past at.1) at.3 fits (ap Err ends)) (λ fails. f.both_failed (ap Err fails))

pub loop-next-smaller : goal.loop-next-smaller
loop-next-smaller g c =
    let r = c.requires in
    let at = c.loop-next.invariant.has r.0 r.1 r.2 in
    let next = c.in-Ok.ensures.next at.0 at.1 at.2 in
    count_rises _ _ at.0 (at.0 ++ next.0) at.1 c.in-Ok.next at.2 (next.2.more (is_end-no c.in-Ok.next c.in-Word.is))

pub loop-next-preserved : goal.loop-next-preserved
loop-next-preserved g c =
    let place = goal.at.loop-next-preserved g c in
    record {
      has = λ past reads is.
          let at = c.loop-next.invariant.has past reads is in
          let next = c.in-Ok.ensures.next at.0 at.1 at.2 in
          let fits = may g place.In-Ok past reads is in (
            at.0 ++ next.0,
            at.1 ++ c.in-Ok.next ∷ [],
            next.2.more (is_end-no c.in-Ok.next c.in-Word.is),
            c.in-Ok-feed.ensures.stands (past_fed past at.1) at.3 fits,
            has_fed g place.In-Ok-feed past reads is fits (pulled g place.In-Ok past reads is),
          );
      no_fault = quiet_fed g place.In-Ok-feed;
    }

pub returns-in-End-clause-fed : goal.returns-in-End-clause-fed
returns-in-End-clause-fed g c = λ past reads is.
    let place = goal.at.returns-in-End-clause-fed g c in
    let at = c.loop-next.invariant.has past reads is in
    let next = c.in-Ok.ensures.next at.0 at.1 at.2 in
    let ends = is_end-yes c.in-Ok.next c.in-End.is in
    let fits = may g place.In-Ok past reads is in
    let all = has_fed g place.In-Ok-feed past reads is fits (pulled g place.In-Ok past reads is) in
    fed_to_end _ past _ _ _ _ (at.0 ++ next.0) at.1 c.in-Ok.next (c.in-Ok-feed.ensures.stands (past_fed past at.1) at.3 fits) all
    (next.2.ends ends) ends (quiet_fed g place.In-Ok-feed)
