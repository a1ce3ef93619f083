use Rattle.std.proofs.Common.{◌≡◌, ◌∙◌, Result, Err, refl, [], ◌∷◌, ◌++◌, arith}
use Rattle.std.proofs.lemmas.Result.{err_from_is_err_and}
use Rattle.fdr_bus.specs.declared.BusRecord.{BusRecord}
use Rattle.fdr_trace.specs.declared.TraceStop.{TraceStop}
use Rattle.fdr_trace.proofs.Pulling.{LeavesDisk-here, LeavesDisk-then, PullsUntilDecided-none}
use Rattle.fdr_recorder.proofs.ReadRecords.{PullsUntilDecided-next, count_rises, good_with_next, is_end-no, is_end-yes}
use Rattle.fdr_top.proofs.Records.{IsStreamed-made, ComesNext-read, IsStreamedTo-end, IsStreamedTo-stop, IsStreamedPart-next}
use Rattle.fdr_top.proofs.streaming.stream_records.Goals as goal

err_same : (s s' : TraceStop) → ◌≡◌ {A = Result BusRecord TraceStop} (Err s) (Err s') → s ≡ s'
err_same s s' e = cc

pub loop-next-init : goal.loop-next-init
loop-next-init g c = record {
  streamed = λ t fresh. ([], [], PullsUntilDecided-none _ _ [], fresh.trace, IsStreamed-made _ t _ fresh.stream);
  room = c.requires.room;
  no_fault = refl;
  disk = LeavesDisk-here _;
  announced = refl;
  no_sink_fault = refl;
  monotone = omega arith;
}

pub returns-in-Err-clause-all : goal.returns-in-Err-clause-all
returns-in-Err-clause-all g c = λ t fresh.
    let at = c.loop-next.invariant.streamed t fresh in
    let next = c.in-Err.ensures.next at.0 at.1 at.3 in
    rw c.answer_of_stop.ensures (IsStreamedTo-stop t _ _ _ _ _ at.0 next.0 at.1 c.in-Err.stop _ _ at.2 next.1 next.2 at.4 c.loop-next.invariant.no_fault
    (λ not. c.in-Err.ensures.no_fault (λ e. not (err_same _ _ e))))

pub write_record-requires-clause-fed : goal.write_record-requires-clause-fed
write_record-requires-clause-fed g c =
    let r = c.requires.fresh in
    let at = c.loop-next.invariant.streamed r.0 r.1 in
    let next = c.in-Ok.ensures.next at.0 at.1 at.3 in
    (r.0, at.1, at.4.stands, ComesNext-read _ _ at.0 next.0 at.1 c.in-Ok.next at.3 next.2)

pub returns-in_err-write_record-clause-part : goal.returns-in_err-write_record-clause-part
returns-in_err-write_record-clause-part g c = λ t fresh.
    let at = c.loop-next.invariant.streamed t fresh in
    let next = c.in-Ok.ensures.next at.0 at.1 at.3 in
    let comes = ComesNext-read _ _ at.0 next.0 at.1 c.in-Ok.next at.3 next.2 in
    let part = c.in_err-write_record.ensures.part t at.1 _ at.4 comes in
    let good = good_with_next _ (at.0 ++ next.0) at.1 c.in-Ok.next next.2 in
    let p = err_from_is_err_and c.from_residual.result c.from_residual.ensures.1 in
    rw p.1 (IsStreamedPart-next t _ _ _ (at.0 ++ next.0) (at.1 ++ c.in-Ok.next ∷ []) good.0 _ _ part.0 (PullsUntilDecided-next _ _ _ _ at.0 next.0 at.2 next.1)
    good.1 part.1 (c.in-Ok.ensures.no_fault (λ e. absurd (cc)) ∙ c.loop-next.invariant.no_fault))

pub returns-in-End-clause-all : goal.returns-in-End-clause-all
returns-in-End-clause-all g c = λ t fresh.
    let at = c.loop-next.invariant.streamed t fresh in
    let next = c.in-Ok.ensures.next at.0 at.1 at.3 in
    let comes = ComesNext-read _ _ at.0 next.0 at.1 c.in-Ok.next at.3 next.2 in
    let ends = is_end-yes c.in-Ok.next c.in-End.is in
    IsStreamedTo-end t _ _ _ _ (at.0 ++ next.0) at.1 c.in-Ok.next _ _ (PullsUntilDecided-next _ _ _ _ at.0 next.0 at.2 next.1) (next.2.ends ends) ends
    (c.in_ok-write_record.ensures.all t at.1 _ at.4 comes) (c.in-Ok.ensures.no_fault (λ e. absurd (cc)) ∙ c.loop-next.invariant.no_fault)

pub loop-next-smaller : goal.loop-next-smaller
loop-next-smaller g c =
    let r = c.requires.fresh in
    let at = c.loop-next.invariant.streamed r.0 r.1 in
    let next = c.in-Ok.ensures.next at.0 at.1 at.3 in
    count_rises _ _ at.0 (at.0 ++ next.0) at.1 c.in-Ok.next at.3 (next.2.more (is_end-no c.in-Ok.next c.in-Word.is))

pub loop-next-preserved : goal.loop-next-preserved
loop-next-preserved g c = record {
  streamed = λ t fresh.
      let at = c.loop-next.invariant.streamed t fresh in
      let next = c.in-Ok.ensures.next at.0 at.1 at.3 in
      let comes = ComesNext-read _ _ at.0 next.0 at.1 c.in-Ok.next at.3 next.2 in (
        at.0 ++ next.0,
        at.1 ++ c.in-Ok.next ∷ [],
        PullsUntilDecided-next _ _ _ _ at.0 next.0 at.2 next.1,
        next.2.more (is_end-no c.in-Ok.next c.in-Word.is),
        c.in_ok-write_record.ensures.all t at.1 _ at.4 comes,
      );
  room = omega (arith, c.write_record.auto.block, c.loop-next.invariant.room);
  no_fault = c.in-Ok.ensures.no_fault (λ e. absurd (cc)) ∙ c.loop-next.invariant.no_fault;
  disk = LeavesDisk-then _ _ _ c.loop-next.invariant.disk c.in-Ok.ensures.disk;
  announced = c.in-Ok.ensures.announced.announced ∙ c.loop-next.invariant.announced;
  no_sink_fault = c.in_ok-write_record.ensures.no_fault ∙ c.loop-next.invariant.no_sink_fault;
  monotone = omega (arith, c.loop-next.invariant.monotone, c.write_record.ensures.monotone);
}

pub returns-in-Err-clause-disk : goal.returns-in-Err-clause-disk
returns-in-Err-clause-disk g c = LeavesDisk-then _ _ _ c.loop-next.invariant.disk c.in-Err.ensures.disk

pub returns-in_err-write_record-clause-disk : goal.returns-in_err-write_record-clause-disk
returns-in_err-write_record-clause-disk g c = LeavesDisk-then _ _ _ c.loop-next.invariant.disk c.in-Ok.ensures.disk

pub returns-in-End-clause-disk : goal.returns-in-End-clause-disk
returns-in-End-clause-disk g c = LeavesDisk-then _ _ _ c.loop-next.invariant.disk c.in-Ok.ensures.disk
