use Rattle.std.proofs.Common.{◌≡◌, ◌<◌, Some, length, [], ◌∷◌, ◌++◌, refl, sym, ap, ◌∙◌, subst, append_assoc, append-nil, arith, length-append}
use Rattle.std.specs.Prelude.{IsSome}
use Rattle.std.proofs.lemmas.Result.{err_from_is_err_and}
use Rattle.fdr_sync.specs.Events.{events_of, frame_of_event}
use Rattle.fdr_resync.specs.Past.{ScannerPast, scanner_with_events, known_events}
use Rattle.fdr_resync.specs.Answers.{answered_event, answered_frame}
use Rattle.fdr_readout.specs.Entries.{event_entries}
use Rattle.fdr_readout.specs.Reading.{ReadsEvents, entries_in}
use Rattle.fdr_readout.proofs.EventFrames.{some_read, entries_apart, entries_step, entries_rest}
use Rattle.fdr_readout.proofs.Readings.{frame_answered}
use Rattle.fdr_readout.proofs.entries.take_known.Given.{Over}
use Rattle.fdr_readout.proofs.entries.take_known.Goals.{In-Some}
use Rattle.fdr_readout.proofs.entries.take_known.Goals as goal

pub loop-event-init : goal.loop-event-init
loop-event-init g c = record {
  taken = λ past reads. (
    [],
    [],
    subst (λ es. ReadsEvents c.args.table.now c.args.reader.now (record past { taken = es })) (sym (append-nil past.taken)) reads,
    g.met.T.Taker.laws.nothing _ _ _,
    λ more may. rw (append-nil, append-nil) refl,
  );
  pushed = refl;
  ended = refl;
  no_fault = refl;
}

pub next-requires : goal.next-requires
next-requires g c =
    let inv = c.loop-event.invariant.taken c.requires.0 c.requires.1 in
    (c.args.table.now, scanner_with_events c.requires.0 inv.0, inv.2)

module _ (g : Over) (c : In-Some g) (past : ScannerPast) (reads : ReadsEvents c.args.table.now c.args.reader.now past) where
  -- what is read with the event that comes next
  read_with : ReadsEvents c.args.table.now c.next.new.self
      (scanner_with_events (scanner_with_events past (c.loop-event.invariant.taken past reads).0) (answered_event c.in-Some.event ∷ []))
  read_with = let inv = c.loop-event.invariant.taken past reads in c.in-Some.ensures.stands c.args.table.now (scanner_with_events past inv.0) inv.2

  -- where it is a frame, one was read, and so one was with those of other bytes
  frame_read : IsSome (frame_of_event (answered_event c.in-Some.event)) → 0 < length read_with.read
  frame_read frame =
      some_read (past.bytes ++ []) c.args.table.now.frame.words (past.taken ++ (c.loop-event.invariant.taken past reads).0) (answered_event c.in-Some.event)
      read_with.read frame (read_with.as_read [] (λ finished. refl))

  frame_read_last : IsSome (answered_frame (Some c.in-Some.event)) → 0 < length (read_with.earlier ++ read_with.read)
  frame_read_last frame = omega (arith, length-append read_with.earlier read_with.read, frame_read (subst IsSome (frame_answered c.in-Some.event) frame))

  -- the entries of the event are those of these bytes
  entries_alone : event_entries c.args.table.now (read_with.earlier ++ read_with.read) (answered_event c.in-Some.event)
      ≡ event_entries c.args.table.now read_with.read (answered_event c.in-Some.event)
  entries_alone = entries_apart c.args.table.now read_with.earlier read_with.read (answered_event c.in-Some.event) reads.count read_with.apart frame_read

pub take_event-requires : goal.take_event-requires
take_event-requires g c =
    let at = (goal.at.take_event-requires g c).In-Some in
    let now = read_with g at c.requires.0 c.requires.1 in
    (now.earlier ++ now.read, now.frames, frame_read_last g at c.requires.0 c.requires.1)

pub loop-event-preserved : goal.loop-event-preserved
loop-event-preserved g c = record {
  taken = λ past reads.
      let t = c.args.table.now in
      let inv = c.loop-event.invariant.taken past reads in
      let e = answered_event c.in-Some.event in
      let at = (goal.at.loop-event-preserved g c).In-Some in
      let now = read_with g at past reads in
      let took = c.in_ok-take_event.ensures.all (now.earlier ++ now.read) now.frames (frame_read_last g at past reads) in (
        inv.0 ++ e ∷ [],
        inv.1 ++ event_entries t now.read e,
        subst (λ es. ReadsEvents t c.next.new.self (record past { taken = es })) (append_assoc past.taken inv.0 (e ∷ [])) now,
        g.met.T.Taker.laws.then _ _ _ _ _ _ _ _ _ inv.3 (rw (entries_alone g at past reads) at took),
        λ more may.
            let ahead = c.in-Some.ensures.ahead t (scanner_with_events past inv.0) more inv.2 may in
            entries_step t (past.bytes ++ more) past.taken inv.0 e ahead.0 inv.1 now.read reads.count
            (ap (events_of (past.bytes ++ more)) (sym reads.words) ∙ ahead.1) (now.as_read more may) (inv.4 more may),
      );
  pushed = c.next.ensures.pushed ∙ c.loop-event.invariant.pushed;
  ended = c.next.ensures.ended ∙ c.loop-event.invariant.ended;
  no_fault = c.in_ok-take_event.ensures.no_fault ∙ c.loop-event.invariant.no_fault;
}

pub returns-in_err-take_event-clause-part : goal.returns-in_err-take_event-clause-part
returns-in_err-take_event-clause-part g c = λ past reads.
    let t = c.args.table.now in
    let inv = c.loop-event.invariant.taken past reads in
    let e = answered_event c.in-Some.event in
    let at = (goal.at.returns-in_err-take_event-clause-part g c).In-Some in
    let now = read_with g at past reads in
    let failed = c.in_err-take_event.ensures.part (now.earlier ++ now.read) now.frames (frame_read_last g at past reads) in
    let p = err_from_is_err_and c.from_residual.result c.from_residual.ensures.1 in
    rw p.1 (
      inv.1 ++ event_entries t now.read e,
      g.met.T.Taker.laws.fails_then _ _ _ _ _ _ _ _ inv.3 (rw (entries_alone g at past reads) at failed),
      λ more may.
          let ahead = c.in-Some.ensures.ahead t (scanner_with_events past inv.0) more inv.2 may in (
            entries_in t (past.bytes ++ more) ahead.0,
            entries_rest t (past.bytes ++ more) past.taken inv.0 e ahead.0 inv.1 now.read reads.count
                (ap (events_of (past.bytes ++ more)) (sym reads.words) ∙ ahead.1) (now.as_read more may) (inv.4 more may),
          ),
    )

pub returns-clause-stands : goal.returns-clause-stands
returns-clause-stands g c = λ past reads.
    let t = c.args.table.now in
    let inv = c.loop-event.invariant.taken past reads in
    let mid = scanner_with_events past inv.0 in
    rw (append-nil (past.taken ++ inv.0) ∙ c.in_default.ensures.none t mid inv.2 refl) at (c.in_default.ensures.stands t mid inv.2)

pub returns-clause-all : goal.returns-clause-all
returns-clause-all g c = λ past reads.
    let t = c.args.table.now in
    let inv = c.loop-event.invariant.taken past reads in
    let known : past.taken ++ inv.0 ≡ known_events past = c.in_default.ensures.none t (scanner_with_events past inv.0) inv.2 refl in
    (inv.1, inv.3, λ more may. ap (entries_in t (past.bytes ++ more)) (sym known) ∙ inv.4 more may)
