use Rattle.std.proofs.Common.{◌≡◌, ◌+◌, ◌<◌, ◌∙◌, ℕ, List, length, take, refl, arith, None, Err, Result, sym, ap, subst}
use Rattle.fdr_slot.specs.declared.image.Header.{Header}
use Rattle.fdr_recover.specs.Blocks.{Block}
use Rattle.fdr_stream.specs.Blocks.{cut_block}
use Rattle.fdr_recorder.specs.Past.{due_count, blocks_due_at, recorded_bytes, recording_with_record}
use Rattle.fdr_recorder.specs.Past.{numbered_block, RecordingPast, MayFeedRecording}
use Rattle.fdr_recorder.proofs.Feeding.{MayStream-giving, block_is, in_box}
use Rattle.fdr_pair.specs.PairPast.{RepresentsPair}
use Rattle.fdr_pair.specs.PairRecording.{PairHasEnded}
use Rattle.fdr_pair.proofs.BothSides.{BothFailed-then, ready_now}
use Rattle.fdr_pair.proofs.PairFeeding.{ended_due, feeding_first, feeding_step, number_so_far, number_taken, records_step, records_taken, recorded_taken}
use Rattle.fdr_pair.proofs.PairFeeding.{room_taken, so_far_of_due, stream_taken}
use Rattle.fdr_pair.proofs.session.PairSession.feed.Given.{Over}
use Rattle.fdr_pair.proofs.session.PairSession.feed.Goals.{After-record}
use Rattle.fdr_pair.proofs.session.PairSession.feed.Goals as goal

pub loop-rings-init : goal.loop-rings-init
loop-rings-init g c = record {
  feeding = λ past stands may. (
    None,
    due_count past,
    feeding_first _ _ past _ _ _ (g.met.T.Twin.sound_pair c.args.twin.now) c.requires.settled stands.stream,
  );
  header = refl;
  settled = c.requires.settled;
  room = refl;
}

pub feed-requires : goal.feed-requires
feed-requires g c =
    let r = c.requires.stands in
    let at = c.loop-rings.invariant.feeding r.0 r.1 r.2 in (
      _,
      (in_box c.deref_mut.ensures.value at.2.stands),
      MayStream-giving r.0 c.args.r.now at.0 at.1 r.2 at.2.same,
      omega (arith, c.loop-rings.invariant.room, ap (λ (l : List ℕ). length l) c.deref_mut-in-loop-rings.ensures.value, r.1.room),
    )

pub returns-in-Taken-clause-stands : goal.returns-in-Taken-clause-stands
returns-in-Taken-clause-stands g c past stands may =
    let at = c.loop-rings.invariant.feeding past stands may in
    let taken = c.in-Taken.ensures.taken _ (in_box c.deref_mut.ensures.value at.2.stands) (MayStream-giving past c.args.r.now at.0 at.1 may at.2.same) refl in
    record {
      header = c.loop-rings.invariant.header ∙ stands.header;
      session = stands.session;
      stream = stream_taken _ _ past c.args.r.now _ _ _ _ at.0 at.1 at.2 _ taken;
      room = omega (arith, stands.room, c.loop-rings.invariant.room, c.feed.auto.out, ap (λ (l : List ℕ). length l) c.deref_mut-in-loop-rings.ensures.value);
      next = number_taken _ _ past c.args.r.now _ _ _ _ at.0 at.1 at.2 _ taken stands.next;
    }

pub returns-in-Taken-clause-records : goal.returns-in-Taken-clause-records
returns-in-Taken-clause-records g c past stands may =
    let at = c.loop-rings.invariant.feeding past stands may in
    let taken = c.in-Taken.ensures.taken _ (in_box c.deref_mut.ensures.value at.2.stands) (MayStream-giving past c.args.r.now at.0 at.1 may at.2.same) refl in
    records_taken _ _ past c.args.r.now _ _ _ _ at.0 at.1 at.2 _ taken

pub returns-in-Taken-clause-recorded : goal.returns-in-Taken-clause-recorded
returns-in-Taken-clause-recorded g c past stands may =
    let at = c.loop-rings.invariant.feeding past stands may in
    let taken = c.in-Taken.ensures.taken _ (in_box c.deref_mut.ensures.value at.2.stands) (MayStream-giving past c.args.r.now at.0 at.1 may at.2.same) refl in
    recorded_taken _ _ past c.args.r.now _ _ _ _ at.0 at.1 at.2 _ taken

pub returns-in-Taken-clause-room : goal.returns-in-Taken-clause-room
returns-in-Taken-clause-room g c past stands may =
    let at = c.loop-rings.invariant.feeding past stands may in
    let taken = c.in-Taken.ensures.taken _ (in_box c.deref_mut.ensures.value at.2.stands) (MayStream-giving past c.args.r.now at.0 at.1 may at.2.same) refl in
    room_taken _ _ past c.args.r.now _ _ _ _ at.0 at.1 at.2 _ taken

-- the block that is given is the next of those that are due, and it was recorded as far as a call records it
block_given : (g : Over) (c : After-record g) (past : RecordingPast) (stands : RepresentsPair c.args.self past) (may : MayFeedRecording past c.args.r.now)
    → let at = c.loop-rings.invariant.feeding past stands may in
    let b : Block =
    record { number = c.loop-rings.rings.next; session = c.args.self.session; payload = take c.header-payload.result.payload c.deref.result.now } in
    (at.1 < due_count (recording_with_record past c.args.r.now)) × (b ≡ numbered_block (recording_with_record past c.args.r.now) at.1)
block_given g c past stands may =
    let r = c.args.r.now in
    let at = c.loop-rings.invariant.feeding past stands may in
    let stream = MayStream-giving past r at.0 at.1 may at.2.same in
    let payload : c.header-payload.result.payload ≡ past.header.payload = ap (λ (h : Header). h.payload)
    (c.header-payload.ensures.header ∙ c.loop-rings.invariant.header ∙ stands.header) in
    let bytes : take c.header-payload.result.payload c.deref.result.now ≡ cut_block past.header.payload (recorded_bytes (recording_with_record past r)) at.1 =
    ap (λ (l : List ℕ). take c.header-payload.result.payload l) c.deref.ensures ∙ ap (λ n. take n c.feed.new.out) payload
    ∙ c.in-Block.ensures.block _ (in_box c.deref_mut.ensures.value at.2.stands) stream refl in
    let number = number_so_far _ _ past r _ _ _ _ at.0 at.1 at.2 in (
      (c.in-Block.ensures.exactly _ (in_box c.deref_mut.ensures.value at.2.stands) stream).0 refl,
      block_is past r c.args.self.rings.next c.loop-rings.rings.next c.args.self.session at.1 _ stands.next stands.session number at.2.since bytes,
    )

pub returns-in-Err-clause-records : goal.returns-in-Err-clause-records
returns-in-Err-clause-records g c past stands may =
    let r = c.args.r.now in
    let at = c.loop-rings.invariant.feeding past stands may in
    let given = block_given g (goal.at.returns-in-Err-clause-records g c).After-record past stands may in
    so_far_of_due _ _ past r (at.1 + 1) _ _ (omega (arith, given.0))
    (records_step _ _ past r _ _ _ _ _ at.0 at.1 (g.met.T.Twin.sound_pair c.loop-rings.twin) at.2 _ given.1 c.in-Err.ensures.records)

err_same : {A B E : Type 0} (x y : E) → ◌≡◌ {A = Result A E} (Err x) (Err y) → ◌≡◌ {A = Result B E} (Err x) (Err y)
err_same x y e = let same : x ≡ y = cc in ap Err same

pub returns-in-Err-clause-seq_end : goal.returns-in-Err-clause-seq_end
returns-in-Err-clause-seq_end g c past stands may ends =
    let r = c.args.r.now in
    let at = c.loop-rings.invariant.feeding past stands may in
    let more = (c.in-Block.ensures.exactly _ (in_box c.deref_mut.ensures.value at.2.stands) (MayStream-giving past r at.0 at.1 may at.2.same)).0 refl in
    let why = err_same _ _ ends in
    subst (λ twin. PairHasEnded g.T.Deck.tells c.args.self.rings (blocks_due_at past r) (g.T.Twin.pair c.args.twin.now) (g.T.Twin.pair twin))
    (sym (c.in-Err.ensures.untouched why))
    (ended_due _ _ past r _ _ _ _ at.0 at.1 at.2 (c.in-Err.ensures.seq_end.0 why) more)

pub returns-in-Err-clause-both_failed : goal.returns-in-Err-clause-both_failed
returns-in-Err-clause-both_failed g c fails =
    let r = c.requires.stands in
    let at = c.loop-rings.invariant.feeding r.0 r.1 r.2 in
    BothFailed-then _ _ _ _ _ _ _ at.2.recorded (c.in-Err.ensures.both_failed (err_same _ _ fails))

pub loop-rings-preserved : goal.loop-rings-preserved
loop-rings-preserved g c = record {
  feeding = λ past stands may.
      let at = c.loop-rings.invariant.feeding past stands may in
      let stream = MayStream-giving past c.args.r.now at.0 at.1 may at.2.same in
      let given = block_given g (goal.at.loop-rings-preserved g c).After-record past stands may in (
        _,
        at.1 + 1,
        feeding_step _ _ past c.args.r.now _ _ _ _ _ at.0 at.1 (g.met.T.Twin.sound_pair c.loop-rings.twin) at.2 _ given.1 _ _
            (c.in-Block.ensures.begun _ (in_box c.deref_mut.ensures.value at.2.stands) stream refl) c.in-Ok.ensures.records c.in-Ok.ensures.recorded,
      );
  header = c.in-Ok.ensures.recorded.header ∙ c.loop-rings.invariant.header;
  settled = ready_now _ _ _ _ _ _ c.in-Ok.ensures.recorded;
  room = omega (arith, c.feed.auto.out, c.loop-rings.invariant.room, ap (λ (l : List ℕ). length l) c.deref_mut-in-loop-rings.ensures.value);
}
