use Rattle.std.proofs.Common.{◌≡◌, ◌+◌, ◌<◌, ◌∙◌, ℕ, List, ◌∷◌, [], length, take, refl, arith, None, sym, ap, subst}
use Rattle.fdr_deck.proofs.Composing.{refusal}
use Rattle.fdr_slot.specs.declared.image.Header.{Header}
use Rattle.fdr_recover.specs.Blocks.{Block}
use Rattle.fdr_stream.specs.Blocks.{cut_block}
use Rattle.fdr_recorder.specs.Recording.{RecordsFirstOf, RecordsAllOf, HasEnded}
use Rattle.fdr_recorder.specs.Past.{due_count, blocks_due_at, recorded_bytes, recording_with_record}
use Rattle.fdr_recorder.specs.Past.{numbered_block, RecordingPast, MayFeedRecording, RepresentsRecording}
use Rattle.fdr_recorder.specs.declared.error.SessionFault.TheVariants as fault
use Rattle.fdr_recorder.proofs.Refused.{ok_not_err}
use Rattle.fdr_recorder.proofs.Ended.{end_below, disk_below, two_above}
use Rattle.fdr_recorder.proofs.Feeding.{IsFeeding-first, IsFeeding-step, MayStream-giving, RecordsFirstOf-step, RecordsFirstOf-due_count, block_is}
use Rattle.fdr_recorder.proofs.Feeding.{in_box, stream-taken, number-taken, next-taken, RecordsFirstOf-taken, RecordsAllOf-taken, HasEnded-due_count}
use Rattle.fdr_recorder.proofs.session.Session.feed.Given.{Over}
use Rattle.fdr_recorder.proofs.session.Session.feed.Goals.{After-add}
use Rattle.fdr_recorder.proofs.session.Session.feed.Goals as goal

pub loop-ring-init : goal.loop-ring-init
loop-ring-init g c = record {
  feeding = λ past stands may. (None, due_count past, IsFeeding-first _ _ _ past _ _ _ (g.met.D.Deck.sound c.args.deck.now) c.requires.fact stands.stream);
  header = refl;
  fact = c.requires.fact;
  room = refl;
  rest = g.met.D.Deck.rest_here c.args.deck.now;
}

pub feed-requires : goal.feed-requires
feed-requires g c =
    let r = c.requires.stands in
    let at = c.loop-ring.invariant.feeding r.0 r.1 r.2 in (
      _,
      (in_box c.deref_mut.ensures.value at.2.stands),
      MayStream-giving r.0 c.args.r.now at.0 at.1 r.2 at.2.same,
      omega (arith, c.loop-ring.invariant.room, ap (λ (l : List ℕ). length l) c.deref_mut-in-loop-ring.ensures.value, r.1.room),
    )

-- no block was given
pub returns-in-Taken : goal.returns-in-Taken
returns-in-Taken g c =
    let feeding = c.loop-ring.invariant.feeding in
    let boxed = ap (λ (l : List ℕ). length l) c.deref_mut-in-loop-ring.ensures.value in
    let r = c.args.r.now in
    let taken = λ (past : RecordingPast) (stands : RepresentsRecording c.args.self past) (may : MayFeedRecording past r).
    let at = feeding past stands may in
    c.in-Taken.ensures.taken _ (in_box c.deref_mut.ensures.value at.2.stands) (MayStream-giving past r at.0 at.1 may at.2.same) refl in
    let next = λ (past : RecordingPast) (stands : RepresentsRecording c.args.self past) (may : MayFeedRecording past r).
    let at = feeding past stands may in next-taken _ _ _ past r _ _ _ _ at.0 at.1 at.2 _ (taken past stands may) in
    record {
      only = tt;
      stands = λ past stands may. let at = feeding past stands may in
          record {
            header = c.loop-ring.invariant.header ∙ stands.header;
            session = stands.session;
            stream = stream-taken _ _ _ past r _ _ _ _ at.0 at.1 at.2 _ (taken past stands may);
            room = omega (arith, stands.room, c.loop-ring.invariant.room, c.feed.auto.out, boxed);
            next = number-taken _ _ _ past r _ _ _ _ at.0 at.1 at.2 _ (taken past stands may) stands.next;
          };
      header = c.loop-ring.invariant.header;
      next = next;
      fact = c.loop-ring.invariant.fact;
      records = λ past stands may.
          let at = feeding past stands may in RecordsFirstOf-taken _ _ _ past r _ _ _ _ at.0 at.1 at.2 _ (taken past stands may);
      recorded = λ past stands may.
          let at = feeding past stands may in RecordsAllOf-taken _ _ _ past r _ _ _ _ at.0 at.1 at.2 _ (taken past stands may);
      seq_end = λ past stands may ends. absurd (ok_not_err _ fault.SeqEnd ends);
      room = λ past stands may. omega (arith, next past stands may, c.loop-ring.ring.bound);
      cause = λ fails. absurd (ok_not_err _ fault.DiskFault fails);
      rest = c.loop-ring.invariant.rest;
    }

-- the block that is given is the next of those that are due, and it was recorded as far as a call records it
block_given : (g : Over) (c : After-add g) (past : RecordingPast) (stands : RepresentsRecording c.args.self past) (may : MayFeedRecording past c.args.r.now)
    → let at = c.loop-ring.invariant.feeding past stands may in
    let b : Block =
    record { number = c.loop-ring.ring.next; session = c.args.self.session; payload = take c.header-payload.result.payload c.deref.result.now } in
    (at.1 < due_count (recording_with_record past c.args.r.now)) × (b ≡ numbered_block (recording_with_record past c.args.r.now) at.1)
    × RecordsFirstOf g.D.Deck.tells c.args.self.ring.header c.loop-ring.ring.next (b ∷ []) (g.D.Deck.state c.loop-ring.deck) (g.D.Deck.state c.add.new.deck)
block_given g c past stands may =
    let s = g.D.Deck.state in
    let r = c.args.r.now in
    let at = c.loop-ring.invariant.feeding past stands may in
    let stream = MayStream-giving past r at.0 at.1 may at.2.same in
    let payload : c.header-payload.result.payload ≡ past.header.payload = ap (λ (h : Header). h.payload)
    (c.header-payload.ensures.header ∙ c.loop-ring.invariant.header ∙ stands.header) in
    let bytes : take c.header-payload.result.payload c.deref.result.now ≡ cut_block past.header.payload (recorded_bytes (recording_with_record past r)) at.1 =
    ap (λ (l : List ℕ). take c.header-payload.result.payload l) c.deref.ensures ∙ ap (λ n. take n c.feed.new.out) payload
    ∙ c.in-Block.ensures.block _ (in_box c.deref_mut.ensures.value at.2.stands) stream refl in
    let b : Block =
    record { number = c.loop-ring.ring.next; session = c.args.self.session; payload = take c.header-payload.result.payload c.deref.result.now } in (
      (c.in-Block.ensures.exactly _ (in_box c.deref_mut.ensures.value at.2.stands) stream).0 refl,
      block_is past r c.args.self.ring.next c.loop-ring.ring.next c.args.self.session at.1 _ stands.next stands.session at.2.number at.2.since bytes,
      subst (λ (h : Header). RecordsFirstOf g.D.Deck.tells h c.loop-ring.ring.next (b ∷ []) (s c.loop-ring.deck)
          (s c.add.new.deck)) c.loop-ring.invariant.header
          c.add.ensures.records,
    )

-- the block wasn't added
pub returns-in_err-ring-in-Block : goal.returns-in_err-ring-in-Block
returns-in_err-ring-in-Block g c =
    let t = g.D.Deck.tells in
    let h = c.args.self.ring.header in
    let first = c.args.self.ring.next in
    let r = c.args.r.now in
    let old = g.D.Deck.state c.args.deck.now in
    let feeding = c.loop-ring.invariant.feeding in
    let place = (goal.at.returns-in_err-ring-in-Block g c).After-add in
    let a = c.in_err-ring-in-Block.ensures in
    let e = c.in_err-ring-in-Block.field-0.0 in
    let was = c.requires.stands in
    rw (refusal _ _ c.from_residual.ensures.1) (record {
      only = two_above e a.only;
      stands = λ past stands may. tt;
      header = tt;
      next = λ past stands may. tt;
      fact = tt;
      records = λ past stands may.
          let at = feeding past stands may in
          let given = block_given g place past stands may in
          RecordsFirstOf-due_count _ _ _ past r (at.1 + 1) _ _ (omega (arith, given.0))
          (RecordsFirstOf-step _ _ _ past r _ _ _ _ _ at.0 at.1 (g.met.D.Deck.sound c.args.deck.now) stands.next at.2 _ given.1 given.2);
      recorded = λ past stands may. tt;
      seq_end = λ past stands may ends.
          let at = feeding past stands may in
          subst (λ deck. HasEnded t h first (blocks_due_at past r) old (g.D.Deck.state deck)) (sym (a.untouched (end_below e ends)))
          (HasEnded-due_count t h first past r _ c.loop-ring.ring.next old (g.D.Deck.state c.loop-ring.deck) at.0 at.1 at.2
          (a.seq_end.0 (end_below e ends)) (block_given g place past stands may).0);
      room = λ past stands may. tt;
      cause = λ fails. rw (feeding was.0 was.1 was.2).2.recorded.disk_faults at (a.cause (disk_below e a.only fails));
      rest = g.met.D.Deck.rest_then c.args.deck.now c.loop-ring.deck c.add.new.deck c.loop-ring.invariant.rest c.add.ensures.rest;
    })

pub loop-ring-preserved : goal.loop-ring-preserved
loop-ring-preserved g c = record {
  feeding = λ past stands may.
      let s = g.D.Deck.state in
      let r = c.args.r.now in
      let at = c.loop-ring.invariant.feeding past stands may in
      let stream = MayStream-giving past r at.0 at.1 may at.2.same in
      let given = block_given g (goal.at.loop-ring-preserved g c).After-add past stands may in
      let b : Block =
      record { number = c.loop-ring.ring.next; session = c.args.self.session; payload = take c.header-payload.result.payload c.deref.result.now } in
      let ok = c.in_ok-ring-in-Block.ensures in
      let recorded : RecordsAllOf g.D.Deck.tells c.args.self.ring.header c.loop-ring.ring.next (b ∷ []) (s c.loop-ring.deck) (s c.add.new.deck) =
      subst (λ (h : Header). RecordsAllOf g.D.Deck.tells h c.loop-ring.ring.next (b ∷ []) (s c.loop-ring.deck)
      (s c.add.new.deck)) c.loop-ring.invariant.header ok.recorded in (
        _,
        at.1 + 1,
        IsFeeding-step _ _ _ past r _ _ _ _ _ at.0 at.1 (g.met.D.Deck.sound c.args.deck.now) stands.next at.2 b given.1 _ _
            (c.in-Block.ensures.begun _ (in_box c.deref_mut.ensures.value at.2.stands) stream refl) ok.ring.1 given.2 recorded,
      );
  header = c.in_ok-ring-in-Block.ensures.ring.0 ∙ c.loop-ring.invariant.header;
  fact = c.in_ok-ring-in-Block.ensures.fact;
  room = omega (arith, c.feed.auto.out, c.loop-ring.invariant.room, ap (λ (l : List ℕ). length l) c.deref_mut-in-loop-ring.ensures.value);
  rest = g.met.D.Deck.rest_then c.args.deck.now c.loop-ring.deck c.add.new.deck c.loop-ring.invariant.rest c.add.ensures.rest;
}
