use Rattle.std.proofs.Common.{sym, subst}
use Rattle.fdr_recorder.specs.Past.{past_at_start}
use Rattle.fdr_pair.specs.PairRun.{KeepsPair}
use Rattle.fdr_pair.specs.declared.outcome.PairOutcome.{PairOutcome}
use Rattle.fdr_pair.proofs.PairComplete.{records_refused, records_started}
use Rattle.fdr_pair.proofs.PairGoing.{keeps_as_answered, refused_keeps}
use Rattle.fdr_pair.proofs.run.record_pair.Goals as goal
use Rattle.fdr_pair.proofs.SideCounts.{counted_then}

pub returns-in-Ok-clause-records : goal.returns-in-Ok-clause-records
returns-in-Ok-clause-records g c = λ rest faults.
    let t = c.args.sound.now in
    let s = c.in-Ok.start in
    let p0 = g.T.Twin.pair c.args.twin.now in
    let p5 = g.T.Twin.pair c.start_pair.new.twin in
    let p6 = g.T.Twin.pair c.record_trace.new.twin in
    let started = c.in-Ok.ensures.started in
    let records = c.record_trace.ensures (past_at_start t s.session.rings.header s.session.rings.next s.session.session) started.trace started.begun in
    records_started t _ s p5 c.record_trace.result started records c.recording_answer.ensures
    (subst (λ (x : PairOutcome). KeepsPair t g.T.Deck.tells records.pulled p0 p6 x) (sym c.recording_answer.ensures)
    (keeps_as_answered t g.T.Deck.tells s p0 p5 p6 c.record_trace.result (g.met.T.Twin.sound_pair c.start_pair.new.twin) started records))

pub returns-in-Err-clause-records : goal.returns-in-Err-clause-records
returns-in-Err-clause-records g c = λ rest faults.
    let refused = c.in-Err.ensures.refused in
    records_refused c.args.sound.now _ refused
    (refused_keeps c.args.sound.now g.T.Deck.tells (g.T.Twin.pair c.args.twin.now) (g.T.Twin.pair c.start_pair.new.twin) c.in-Err.answer refused)

pub returns-in-Ok-clause-counts : goal.returns-in-Ok-clause-counts
returns-in-Ok-clause-counts g c =
    let s = c.in-Ok.start in
    let started = c.in-Ok.ensures.started in
    let records = c.record_trace.ensures (past_at_start c.args.sound.now s.session.rings.header s.session.rings.next s.session.session) started.trace
    started.begun in
    counted_then _ _ _ _ (g.met.T.Twin.sound_pair c.start_pair.new.twin) started.time records.time started.counted records.counts

pub returns-in-Err-clause-counts : goal.returns-in-Err-clause-counts
returns-in-Err-clause-counts g c = c.in-Err.ensures.refused.counts
