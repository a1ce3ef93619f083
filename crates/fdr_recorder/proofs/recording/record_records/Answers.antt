use Rattle.std.proofs.Common.{◌≡◌, ◌∙◌, Err, refl, sym, ap, subst, arith, [], ◌∷◌, ◌++◌}
use Rattle.fdr_deck.specs.State.{State}
use Rattle.fdr_recorder.specs.Past.{MayFeedRecording, RecordingPast, blocks_due_at, recording_with_record}
use Rattle.fdr_recorder.specs.Recording.{RecordsFirstOf}
use Rattle.fdr_deck.specs.Pull.{KeepsInput}
use Rattle.fdr_deck.proofs.Composing.{same_fault}
use Rattle.fdr_recorder.specs.Supplied.{HasFed, IsBegun, past_fed}
use Rattle.fdr_recorder.specs.Supply.{RecordSupply}
use Rattle.fdr_recorder.proofs.ReadRecords.{is_end-no, is_end-yes}
use Rattle.fdr_recorder.proofs.Sessions.{HasFed-pull, HasFed-feed}
use Rattle.fdr_recorder.proofs.SessionEnds.{Continues-fault, HasEnded-at, HasFedAll-end, HasFedAll-stop}
use Rattle.fdr_recorder.proofs.SessionEnds.{RecordsAllOf-at, RecordsFirstOf-at, begun, bound_of}
use Rattle.fdr_recorder.proofs.SessionEnds.{keeps_input, ended_only, keeps_input_then, limits_of, line_failed, only_two, ring_at, sure_at, two_cut}
use Rattle.fdr_recorder.proofs.Supplies.{may_feed}
use Rattle.fdr_recorder.proofs.recording.record_records.Given.{Over}
use Rattle.fdr_recorder.proofs.recording.record_records.Goals.{In-Ok, After-feed, In-Ok-feed}
use Rattle.fdr_recorder.proofs.recording.record_records.Goals as goal

-- the session may be fed the record that came
may : (g : Over) (c : In-Ok g) (from : RecordSupply) (past : RecordingPast)
    (gave : g.S.RecordSource.gave from c.args.source.now [] []) (is : IsBegun g.D.Deck.tells c.args.session past (g.D.Deck.state c.args.deck.now))
    → MayFeedRecording (past_fed past (c.loop-next.invariant.has from past gave is).1) c.in-Ok.next
may g c from past gave is =
    let at = c.loop-next.invariant.has from past gave is in
    let next = c.in-Ok.ensures.next from at.0 at.1 at.2 in
    may_feed past from _ (at.0 ++ next.0) at.1 c.in-Ok.next next.2

-- what was pulled for it
pulled : (g : Over) (c : In-Ok g) (from : RecordSupply) (past : RecordingPast)
    (gave : g.S.RecordSource.gave from c.args.source.now [] []) (is : IsBegun g.D.Deck.tells c.args.session past (g.D.Deck.state c.args.deck.now))
    → let at = c.loop-next.invariant.has from past gave is in
    HasFed g.D.Deck.tells (past_fed past at.1) (at.0 ++ (c.in-Ok.ensures.next from at.0 at.1 at.2).0) (g.D.Deck.state c.args.deck.now)
    (g.D.Deck.state c.next_record.new.deck)
pulled g c from past gave is =
    let s = g.met.D.Deck.sound in
    let e = c.in-Ok.ensures in
    let at = c.loop-next.invariant.has from past gave is in
    let next = e.next from at.0 at.1 at.2 in
    HasFed-pull _ (past_fed past at.1) _ _ _ at.0 (s c.args.deck.now) is.ring is.settled is.announced at.4 next.0 (s c.loop-next.deck) next.1 next.3
    e.disk e.announced e.fresh e.time

-- what was recorded at it
records : (g : Over) (c : After-feed g) (from : RecordSupply) (past : RecordingPast)
    (gave : g.S.RecordSource.gave from c.args.source.now [] []) (is : IsBegun g.D.Deck.tells c.args.session past (g.D.Deck.state c.args.deck.now))
    → RecordsFirstOf g.D.Deck.tells c.loop-next.session.ring.header c.loop-next.session.ring.next
    (blocks_due_at (past_fed past (c.loop-next.invariant.has from past gave is).1) c.in-Ok.next)
    (g.D.Deck.state c.next_record.new.deck) (g.D.Deck.state c.feed.new.deck)
records g c from past gave is =
    let at = c.loop-next.invariant.has from past gave is in
    let next = c.in-Ok.ensures.next from at.0 at.1 at.2 in
    c.feed.ensures.records (past_fed past at.1) at.3 (may_feed past from _ (at.0 ++ next.0) at.1 c.in-Ok.next next.2)

quiet : (g : Over) (c : After-feed g) → (g.D.Deck.state c.feed.new.deck).input_faults ≡ (g.D.Deck.state c.args.deck.now).input_faults
quiet g c =
    let r = c.requires in
    (records g c r.0 r.1 r.2 r.3).input_faults ∙ c.in-Ok.ensures.no_fault (λ x. absurd (cc)) ∙ c.loop-next.invariant.no_fault

extent : (g : Over) (c : After-feed g) → (g.D.Deck.state c.feed.new.deck).extent ≡ (g.D.Deck.state c.args.deck.now).extent
extent g c = let r = c.requires in (records g c r.0 r.1 r.2 r.3).extent ∙ c.in-Ok.ensures.disk.extent ∙ c.loop-next.invariant.extent

unpulled : (g : Over) (c : After-feed g) → g.S.RecordSource.is_still c.args.source.now
    → KeepsInput (g.D.Deck.state c.args.deck.now) (g.D.Deck.state c.feed.new.deck)
    × ((g.D.Deck.state c.feed.new.deck).input_faults ≡ (g.D.Deck.state c.args.deck.now).input_faults)
unpulled g c is =
    let r = c.requires in
    let wrote = records g c r.0 r.1 r.2 r.3 in
    let before = c.loop-next.invariant.unpulled is in
    keeps_input_then _ _ _ _ (before.1, before.2) (ap g.D.Deck.state (c.in-Ok.ensures.still before.0).1) wrote.input wrote.input_faults

-- once the session took it
no_disk_fault : (g : Over) (c : In-Ok-feed g) → (g.D.Deck.state c.feed.new.deck).disk_faults ≡ (g.D.Deck.state c.args.deck.now).disk_faults
no_disk_fault g c =
    let e = c.in-Ok.ensures in
    let r = c.requires in
    let at = c.loop-next.invariant.has r.0 r.1 r.2 r.3 in
    let next = e.next r.0 at.0 at.1 at.2 in
    let fits = may_feed r.1 r.0 _ (at.0 ++ next.0) at.1 c.in-Ok.next next.2 in
    (c.in-Ok-feed.ensures.recorded (past_fed r.1 at.1) at.3 fits).disk_faults ∙ e.disk.disk_faults ∙ c.loop-next.invariant.no_disk_fault

has_fed : (g : Over) (c : In-Ok-feed g) (from : RecordSupply) (past : RecordingPast)
    (gave : g.S.RecordSource.gave from c.args.source.now [] []) (is : IsBegun g.D.Deck.tells c.args.session past (g.D.Deck.state c.args.deck.now))
    → let at = c.loop-next.invariant.has from past gave is in
    let bytes = at.0 ++ (c.in-Ok.ensures.next from at.0 at.1 at.2).0 in
    MayFeedRecording (past_fed past at.1) c.in-Ok.next
    → HasFed g.D.Deck.tells (past_fed past at.1) bytes (g.D.Deck.state c.args.deck.now) (g.D.Deck.state c.next_record.new.deck)
    → HasFed g.D.Deck.tells (recording_with_record (past_fed past at.1) c.in-Ok.next) bytes (g.D.Deck.state c.args.deck.now) (g.D.Deck.state c.feed.new.deck)
has_fed g c from past gave is fits before =
    let f = c.in-Ok-feed.ensures in
    let at = c.loop-next.invariant.has from past gave is in
    let next = c.in-Ok.ensures.next from at.0 at.1 at.2 in
    HasFed-feed _ (past_fed past at.1) _ _ _ (at.0 ++ next.0) (g.met.D.Deck.sound c.args.deck.now) is.ring is.settled is.announced before c.in-Ok.next
    (limits_of (past_fed past at.1) _ at.3) fits
    (RecordsFirstOf-at _ (past_fed past at.1) _ _ _ _ at.3 (f.records (past_fed past at.1) at.3 fits))
    (RecordsAllOf-at _ (past_fed past at.1) _ _ _ _ at.3 (f.recorded (past_fed past at.1) at.3 fits))

pub loop-next-init : goal.loop-next-init
loop-next-init g c = record {
  has = λ from past gave is. begun _ (g.S.RecordSource.gave from c.args.source.now) _ past _ (g.met.D.Deck.sound c.args.deck.now) gave is;
  no_fault = refl;
  no_disk_fault = refl;
  unpulled = λ is. (is, (keeps_input (g.D.Deck.state c.args.deck.now)).0, refl);
  extent = refl;
}

pub next_record-requires : goal.next_record-requires
next_record-requires g c = let r = c.requires in let at = c.loop-next.invariant.has r.0 r.1 r.2 r.3 in (r.0, at.0, at.1, at.2)

pub returns-in-Err-clause-fed : goal.returns-in-Err-clause-fed
returns-in-Err-clause-fed g c = λ from past gave is.
    let s = g.met.D.Deck.sound in
    let e = c.in-Err.ensures in
    let at = c.loop-next.invariant.has from past gave is in
    let next = e.next from at.0 at.1 at.2 in
    let has = HasFed-pull _ (past_fed past at.1) _ _ _ at.0 (s c.args.deck.now) is.ring is.settled is.announced at.4 next.0 (s c.loop-next.deck)
    next.1 next.3 e.disk e.announced e.fresh e.time in
    HasFedAll-stop from _ past _ _ _ _ (at.0 ++ next.0) at.1 c.in-Err.why is.ring at.3 has next.2
    c.loop-next.invariant.no_fault (λ not. e.no_fault (λ x. not (same_fault x)))

pub returns-in-Err-clause-input_fault : goal.returns-in-Err-clause-input_fault
returns-in-Err-clause-input_fault g c = λ fails.
    let r = c.requires in
    let at = c.loop-next.invariant.has r.0 r.1 r.2 r.3 in
    let next = c.in-Err.ensures.next r.0 at.0 at.1 at.2 in
    line_failed r.0 _ (g.D.Deck.state c.args.deck.now) (g.D.Deck.state c.loop-next.deck) (g.D.Deck.state c.next_record.new.deck) _ _ c.in-Err.why
    fails next.2 c.loop-next.invariant.no_fault

pub feed-requires-clause-stands : goal.feed-requires-clause-stands
feed-requires-clause-stands g c =
    let r = c.requires in
    let at = c.loop-next.invariant.has r.0 r.1 r.2 r.3 in
    (past_fed r.1 at.1, at.3, may g (goal.at.feed-requires-clause-stands g c).In-Ok r.0 r.1 r.2 r.3)

pub feed-requires-clause-fact : goal.feed-requires-clause-fact
feed-requires-clause-fact g c =
    let r = c.requires in
    let at = c.loop-next.invariant.has r.0 r.1 r.2 r.3 in
    ring_at _ (past_fed r.1 at.1) _ (g.D.Deck.state c.next_record.new.deck) at.3
    (sure_at _ (past_fed r.1 at.1) at.0 (g.D.Deck.state c.args.deck.now) (g.D.Deck.state c.loop-next.deck) (g.D.Deck.state c.next_record.new.deck)
    r.3.ring at.4 c.in-Ok.ensures.disk)

pub returns-in-Err-feed-clause-ended : goal.returns-in-Err-feed-clause-ended
returns-in-Err-feed-clause-ended g c = λ from past gave is.
    let place = goal.at.returns-in-Err-feed-clause-ended g c in
    let f = c.in-Err-feed.ensures in
    let at = c.loop-next.invariant.has from past gave is in
    let next = c.in-Ok.ensures.next from at.0 at.1 at.2 in
    let fits = may g place.In-Ok from past gave is in
    let good = next.2.begins in
    Continues-fault from _ past _ _ _ (at.0 ++ next.0) at.1 good.0 c.in-Ok.next c.in-Err-feed.fault
    (g.met.D.Deck.sound c.args.deck.now) c.args.session is (limits_of (past_fed past at.1) _ at.3) (pulled g place.In-Ok from past gave is) fits good.1
    next.2.unpulled
    (RecordsFirstOf-at _ (past_fed past at.1) _ _ _ _ at.3 (records g place.After-feed from past gave is))
    (c.in-Ok.ensures.no_fault (λ x. absurd (cc)) ∙ c.loop-next.invariant.no_fault)
    (bound_of (past_fed past at.1) c.loop-next.session at.3)
    (λ ends. HasEnded-at _ (past_fed past at.1) _ _ _ _ at.3 (f.seq_end (past_fed past at.1) at.3 fits (ap Err ends)))

pub returns-in-Err-feed-clause-extent : goal.returns-in-Err-feed-clause-extent
returns-in-Err-feed-clause-extent g c = extent g (goal.at.returns-in-Err-feed-clause-extent g c).After-feed

pub returns-in-Err-feed-clause-unpulled : goal.returns-in-Err-feed-clause-unpulled
returns-in-Err-feed-clause-unpulled g c = unpulled g (goal.at.returns-in-Err-feed-clause-unpulled g c).After-feed

pub returns-in-Err-feed-clause-only : goal.returns-in-Err-feed-clause-only
returns-in-Err-feed-clause-only g c = two_cut c.in-Err-feed.fault (only_two _ c.in-Err-feed.ensures.only)

pub loop-next-smaller : goal.loop-next-smaller
loop-next-smaller g c =
    let r = c.requires in
    let at = c.loop-next.invariant.has r.0 r.1 r.2 r.3 in
    c.in-Ok.ensures.fewer r.0 at.0 at.1 at.2 (is_end-no c.in-Ok.next c.in-Word.is)

pub loop-next-preserved : goal.loop-next-preserved
loop-next-preserved g c =
    let place = goal.at.loop-next-preserved g c in
    record {
      has = λ from past gave is.
          let at = c.loop-next.invariant.has from past gave is in
          let next = c.in-Ok.ensures.next from at.0 at.1 at.2 in
          let fits = may g place.In-Ok from past gave is in (
            at.0 ++ next.0,
            at.1 ++ c.in-Ok.next ∷ [],
            next.2.more (is_end-no c.in-Ok.next c.in-Word.is),
            c.in-Ok-feed.ensures.stands (past_fed past at.1) at.3 fits,
            has_fed g place.In-Ok-feed from past gave is fits (pulled g place.In-Ok from past gave is),
          );
      no_fault = quiet g place.After-feed;
      no_disk_fault = no_disk_fault g place.In-Ok-feed;
      unpulled = λ is. let left = unpulled g place.After-feed is in ((c.in-Ok.ensures.still (c.loop-next.invariant.unpulled is).0).0, left.0, left.1);
      extent = extent g place.After-feed;
    }

pub returns-in-End-clause-fed : goal.returns-in-End-clause-fed
returns-in-End-clause-fed g c = λ from past gave is.
    let place = goal.at.returns-in-End-clause-fed g c in
    let at = c.loop-next.invariant.has from past gave is in
    let next = c.in-Ok.ensures.next from at.0 at.1 at.2 in
    let ends = is_end-yes c.in-Ok.next c.in-End.is in
    let fits = may g place.In-Ok from past gave is in
    let all = has_fed g place.In-Ok-feed from past gave is fits (pulled g place.In-Ok from past gave is) in
    HasFedAll-end from _ past _ _ _ (at.0 ++ next.0) at.1 c.in-Ok.next is.ring (c.in-Ok-feed.ensures.stands (past_fed past at.1) at.3 fits) all
    (next.2.ends ends) ends next.2.unpulled (quiet g place.After-feed)

pub returns-in-End-clause-no_disk_fault : goal.returns-in-End-clause-no_disk_fault
returns-in-End-clause-no_disk_fault g c = no_disk_fault g (goal.at.returns-in-End-clause-no_disk_fault g c).In-Ok-feed

pub returns-in-End-clause-extent : goal.returns-in-End-clause-extent
returns-in-End-clause-extent g c = extent g (goal.at.returns-in-End-clause-extent g c).After-feed

pub returns-in-End-clause-unpulled : goal.returns-in-End-clause-unpulled
returns-in-End-clause-unpulled g c = unpulled g (goal.at.returns-in-End-clause-unpulled g c).After-feed

pub returns-in-Err-clause-unpulled : goal.returns-in-Err-clause-unpulled
returns-in-Err-clause-unpulled g c = λ is.
    let before = c.loop-next.invariant.unpulled is in
    let still = c.in-Err.ensures.still before.0 in
    subst (λ (d : State). KeepsInput (g.D.Deck.state c.args.deck.now) d × (d.input_faults ≡ (g.D.Deck.state c.args.deck.now).input_faults))
    (sym (ap g.D.Deck.state still.1)) (before.1, before.2)

pub returns-in-Err-feed-clause-disk_fault : goal.returns-in-Err-feed-clause-disk_fault
returns-in-Err-feed-clause-disk_fault g c = λ fails.
    let rose = c.in-Err-feed.ensures.cause (ap Err fails) in
    let same = c.in-Ok.ensures.disk.disk_faults ∙ c.loop-next.invariant.no_disk_fault in
    omega (arith, rose, same)

pub returns-in-Err-feed-clause-no_fault_if_cut : goal.returns-in-Err-feed-clause-no_fault_if_cut
returns-in-Err-feed-clause-no_fault_if_cut g c = λ other.
    let r = c.requires in
    let at = c.loop-next.invariant.has r.0 r.1 r.2 r.3 in
    let fits = may g (goal.at.returns-in-Err-feed-clause-no_fault_if_cut g c).In-Ok r.0 r.1 r.2 r.3 in
    let ends = ended_only c.in-Err-feed.fault (only_two _ c.in-Err-feed.ensures.only) other in
    (c.in-Err-feed.ensures.seq_end (past_fed r.1 at.1) at.3 fits (ap Err ends)).recorded.disk_faults
    ∙ c.in-Ok.ensures.disk.disk_faults ∙ c.loop-next.invariant.no_disk_fault
