use Rattle.std.proofs.Common.{◌≡◌, ◌∙◌, ◌++◌, ℕ, List, [], ◌∷◌, length, take, ap, sym, subst, refl, arith}
use Rattle.std.proofs.lemmas.List.{length-take}
use Rattle.fdr_deck.proofs.Composing.{refusal}
use Rattle.fdr_recover.specs.Blocks.{Block}
use Rattle.fdr_recorder.specs.Recording.{RecordsFirstOf, RecordsAllOf, HasEnded}
use Rattle.fdr_recorder.specs.Past.{RepresentsRecording, RecordingPast, all_blocks, recorded_of, rest_of, stream_past}
use Rattle.fdr_recorder.proofs.Composing.{RecordsFirstOf-here, RecordsAllOf-here}
use Rattle.fdr_recorder.proofs.Ended.{end_below, disk_below, two_above}
use Rattle.fdr_recorder.proofs.Closing.{rest-none, rest-one, HasEnded-rest}
use Rattle.fdr_recorder.proofs.Feeding.{in_box}
use Rattle.fdr_recorder.specs.declared.error.SessionFault.TheVariants as fault
use Rattle.fdr_recorder.proofs.Refused.{ok_not_err}
use Rattle.fdr_recorder.proofs.Joined.{all_blocks-rest}
use Rattle.fdr_recorder.proofs.session.Session.close.Given.{Over}
use Rattle.fdr_recorder.proofs.session.Session.close.Goals.{After-finish-count, After-add}
use Rattle.fdr_recorder.proofs.session.Session.close.Goals as goal

-- what the recording has is what was recorded and what is left
all : (g : Over) (c : After-finish-count g) (past : RecordingPast) → RepresentsRecording c.args.self past → all_blocks past ≡ recorded_of past ++ rest_of past
all g c past stands =
    all_blocks-rest past c.finish-count.result (c.finish-count.ensures.blocks (stream_past past) (in_box c.deref_mut.ensures.value stands.stream) refl)

pub add-requires-clause-fits : goal.add-requires-clause-fits
add-requires-clause-fits g c =
    let past = c.requires.stands.0 in
    let stands = c.requires.stands.1 in
    let few = c.finish-count.ensures.within_payload (stream_past past) (in_box c.deref_mut.ensures.value stands.stream) in
    let same : c.args.self.ring.header.payload ≡ past.header.payload = ap (λ h. h.payload) stands.header in
    omega (arith, few, same, length-take c.finish-count.result c.deref.result.now)

-- one block was left
one_left : (g : Over) (c : After-add g) (past : RecordingPast) (stands : RepresentsRecording c.args.self past)
    → rest_of past ≡ record { number = c.args.self.ring.next; session = c.args.self.session; payload = take c.finish-count.result c.deref.result.now } ∷ []
one_left g c past stands =
    rest-one past c.finish-count.result c.args.self.ring.next c.args.self.session (take c.finish-count.result c.deref.result.now)
    (c.finish-count.ensures.blocks (stream_past past) (in_box c.deref_mut.ensures.value stands.stream) refl) (omega (arith, c.if-count-eq0.false)) stands.next
    stands.session
    (ap (λ (l : List ℕ). take c.finish-count.result l) c.deref.ensures
    ∙ c.finish-count.ensures.last (stream_past past) (in_box c.deref_mut.ensures.value stands.stream) refl)

-- and it was recorded as far as a call records it
rest_recorded : (g : Over) (c : After-add g) (past : RecordingPast) (stands : RepresentsRecording c.args.self past)
    → RecordsFirstOf g.D.Deck.tells c.args.self.ring.header c.args.self.ring.next (rest_of past) (g.D.Deck.state c.args.deck.now)
    (g.D.Deck.state c.add.new.deck)
rest_recorded g c past stands =
    subst (λ (l : List Block). RecordsFirstOf g.D.Deck.tells c.args.self.ring.header c.args.self.ring.next l (g.D.Deck.state c.args.deck.now)
    (g.D.Deck.state c.add.new.deck)) (sym (one_left g c past stands)) c.add.ensures.records

-- nothing was left
pub returns-then-count-eq0 : goal.returns-then-count-eq0
returns-then-count-eq0 g c =
    let d = g.D.Deck.state c.args.deck.now in
    let none : (past : RecordingPast) → RepresentsRecording c.args.self past → rest_of past ≡ [] = λ past stands. rest-none past c.finish-count.result
    (c.finish-count.ensures.blocks (stream_past past) (in_box c.deref_mut.ensures.value stands.stream) refl) c.if-count-eq0.true in
    record {
      only = tt;
      all = all g (goal.at.returns-then-count-eq0 g c).After-finish-count;
      next = λ past stands.
          let long : length (rest_of past) ≡ 0 = ap (λ (l : List Block). length l) (none past stands) in omega (arith, c.next.ensures.number, long);
      records = λ past stands. RecordsFirstOf-here _ _ _ _ _ (g.met.D.Deck.sound c.args.deck.now) c.requires.fact;
      recorded = λ past stands. subst (λ (l : List Block). RecordsAllOf g.D.Deck.tells c.args.self.ring.header c.args.self.ring.next l d d)
          (sym (none past stands)) (RecordsAllOf-here _ _ _ d);
      seq_end = λ past stands ends. absurd (ok_not_err _ fault.SeqEnd ends);
      room = c.next.ensures.bound;
      cause = λ fails. absurd (ok_not_err _ fault.DiskFault fails);
      rest = g.met.D.Deck.rest_here c.args.deck.now;
    }

-- the block wasn't added
pub returns-in_err-ring : goal.returns-in_err-ring
returns-in_err-ring g c =
    let at = goal.at.returns-in_err-ring g c in
    let t = g.D.Deck.tells in
    let h = c.args.self.ring.header in
    let next = c.args.self.ring.next in
    let d = g.D.Deck.state c.args.deck.now in
    let a = c.in_err-ring.ensures in
    let e = c.in_err-ring.field-0.0 in
    let b : Block = record { number = next; session = c.args.self.session; payload = take c.finish-count.result c.deref.result.now } in
    rw (refusal _ _ c.from_residual.ensures.1) (record {
      only = two_above e a.only;
      all = all g at.After-finish-count;
      next = λ past stands. tt;
      records = rest_recorded g at.After-add;
      recorded = λ past stands. tt;
      seq_end = λ past stands ends.
          subst (λ (l : List Block). HasEnded t h next l d (g.D.Deck.state c.add.new.deck)) (sym (one_left g at.After-add past stands))
          (subst (λ deck. HasEnded t h next (b ∷ []) d (g.D.Deck.state deck)) (sym (a.untouched (end_below e ends)))
          (HasEnded-rest t h next b d (a.seq_end.0 (end_below e ends))));
      room = tt;
      cause = λ fails. a.cause (disk_below e a.only fails);
      rest = c.add.ensures.rest;
    })

-- it was added
pub returns : goal.returns
returns g c =
    let at = goal.at.returns g c in
    let s = g.D.Deck.state in
    record {
      only = tt;
      all = all g at.After-finish-count;
      next = λ past stands.
          let long : length (rest_of past) ≡ 1 = ap (λ (l : List Block). length l) (one_left g at.After-add past stands) in
          omega (arith, c.next-2.ensures.number, c.in_ok-ring.ensures.ring.1, long);
      records = rest_recorded g at.After-add;
      recorded = λ past stands. subst (λ (l : List Block). RecordsAllOf g.D.Deck.tells c.args.self.ring.header c.args.self.ring.next l
          (s c.args.deck.now) (s c.add.new.deck)) (sym (one_left g at.After-add past stands)) c.in_ok-ring.ensures.recorded;
      seq_end = λ past stands ends. absurd (ok_not_err _ fault.SeqEnd ends);
      room = c.next-2.ensures.bound;
      cause = λ fails. absurd (ok_not_err _ fault.DiskFault fails);
      rest = c.add.ensures.rest;
    }
