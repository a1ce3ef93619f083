use Rattle.std.proofs.Common.{◌≡◌, ◌+◌, ◌∙◌, ℕ, [], ◌∷◌, length, ap, subst, inr, refl, rules}
use Rattle.fdr_deck.specs.Calls.{Announces}
use Rattle.fdr_deck.proofs.Composing.{refusal, same_fault, same_refusal}
use Rattle.fdr_slot.specs.declared.image.Header.{Header}
use Rattle.fdr_slot.proofs.HeaderLemmas.{in_limits-is}
use Rattle.fdr_recover.specs.Blocks.{Block}
use Rattle.fdr_recover.specs.declared.error.RingFault.TheVariants as ring
use Rattle.fdr_ring.specs.Runs.{HasAdded}
use Rattle.fdr_recorder.specs.Recording.{RecordsFirstOf, RecordsAllOf}
use Rattle.fdr_recorder.proofs.Adding.{IsRing-told, RecordsFirstOf-unprepared, RecordsFirstOf-prepared, recorded-added}
use Rattle.fdr_recorder.proofs.Refused.{neither, not_current, ok_not_err, ring_apart}
use Rattle.fdr_recorder.proofs.session.add.Given.{Over}
use Rattle.fdr_recorder.proofs.session.add.Goals.{After-announce}
use Rattle.fdr_recorder.proofs.session.add.Goals as goal

-- what a call that added its block recorded
added : (g : Over) (c : After-announce g) → let s = g.D.Deck.state in
    let b : Block = record { number = c.args.ring.next; session = c.args.session; payload = c.args.bytes.now } in
    RecordsFirstOf g.D.Deck.tells c.args.ring.header c.args.ring.next (b ∷ []) (s c.args.deck.now) (s c.announce.new.self)
    × RecordsAllOf g.D.Deck.tells c.args.ring.header c.args.ring.next (b ∷ []) (s c.args.deck.now) (s c.announce.new.self)
added g c =
    let s = g.D.Deck.state in
    let h = c.args.ring.header in
    let next = c.args.ring.next in
    let p = c.in_ok-prepared.prepared in
    let ok = c.in_ok-prepared.ensures in
    let done = c.in_ok-ring.ensures in
    let b : Block = record { number = next; session = c.args.session; payload = c.args.bytes.now } in
    let up : c.in_ok-ring.ring.next ≡ next + 1 = done.ring.1 ∙ ap (λ (n : ℕ). n + 1) ok.prepared.1 in
    let announces : Announces (next + 1) (s c.commit.new.deck) (s c.announce.new.self) =
    subst (λ (n : ℕ). Announces n (s c.commit.new.deck) (s c.announce.new.self)) (c.next.ensures.number ∙ up) c.announce.ensures.announces in
    recorded-added g.D.Deck.tells h next (length c.args.bytes.now) (s c.args.deck.now) (s c.prepare.new.deck)
    (g.met.D.Deck.sound c.args.deck.now) c.requires.fact c.prepare.ensures.changes.extent c.prepare.ensures.changes.disk_work
    b ok.placed.settled ok.placed.succeeds c.prepare.ensures.changes.keeps ok.placed.block (s c.commit.new.deck) c.commit.ensures.changes.extent
    (rw (ok.prepared.0, ok.prepared.1) at c.commit.ensures.changes.disk_work)
    (in_limits-is h c.args.ring.limits) done.settled done.succeeds
    (rw (done.ring.0 ∙ ok.prepared.0, up) at done.fact)
    ok.placed.run
    (λ told. subst (λ (hh : Header). HasAdded hh b (s c.prepare.new.deck).held (s c.commit.new.deck).held) ok.prepared.0
    (done.added told b (rw (ok.prepared.0, ok.prepared.1) (ok.placed.block told))))
    (s c.announce.new.self) announces c.announce.ensures.disk
    c.announce.ensures.input c.announce.ensures.input_faults c.announce.ensures.time c.announce.ensures.moments

-- the block's body wasn't written
pub returns-in_err-prepared : goal.returns-in_err-prepared
returns-in_err-prepared g c =
    let s = g.D.Deck.state in
    let a = c.in_err-prepared.ensures in
    let records = RecordsFirstOf-unprepared g.D.Deck.tells c.args.ring.header c.args.ring.next (length c.args.bytes.now) (s c.args.deck.now)
    (s c.prepare.new.deck) (g.met.D.Deck.sound c.args.deck.now) c.requires.fact a.changes.extent a.changes.disk_work
    (record { number = c.args.ring.next; session = c.args.session; payload = c.args.bytes.now } ∷ []) in
    rw (refusal _ _ c.from_residual.ensures.1) (search (rules, same_refusal, a.seq_end.0, a.seq_end.1, a.untouched, a.cause, records, a))

-- its gate wasn't opened
pub returns-in_err-ring : goal.returns-in_err-ring
returns-in_err-ring g c =
    let s = g.D.Deck.state in
    let h = c.args.ring.header in
    let next = c.args.ring.next in
    let p = c.in_ok-prepared.prepared in
    let ok = c.in_ok-prepared.ensures in
    let b : Block = record { number = next; session = c.args.session; payload = c.args.bytes.now } in
    let records = RecordsFirstOf-prepared g.D.Deck.tells h next (length c.args.bytes.now) (s c.args.deck.now) (s c.prepare.new.deck)
    (g.met.D.Deck.sound c.args.deck.now) c.requires.fact c.prepare.ensures.changes.extent c.prepare.ensures.changes.disk_work
    b ok.placed.settled ok.placed.succeeds c.prepare.ensures.changes.keeps ok.placed.block (s c.commit.new.deck) c.commit.ensures.changes.extent
    (rw (ok.prepared.0, ok.prepared.1) at c.commit.ensures.changes.disk_work) in
    rw (refusal _ _ c.from_residual-in_err-ring.ensures.1, same_fault c.in_err-ring.ensures.only, ← ok.placed.succeeds.disk_faults)
    (record {
      seq_end = neither ring_apart (λ is. ok_not_err _ ring.SeqEnd (ok.seq_end.1 is));
      untouched = λ is. absurd (ring_apart is);
      only = inr refl;
      ring = tt;
      fact = tt;
      records = records;
      recorded = tt;
      cause = λ is. c.in_err-ring.ensures.cause;
      rest = g.met.D.Deck.rest_then _ _ _ c.prepare.ensures.rest c.commit.ensures.rest;
    })

-- it was recorded
pub returns : goal.returns
returns g c =
    let all = added g (goal.at.returns g c).After-announce in
    let ok = c.in_ok-prepared.ensures in
    let done = c.in_ok-ring.ensures.ring in
    let then = g.met.D.Deck.rest_then c.args.deck.now in
    record {
      seq_end = neither (ok_not_err _ ring.SeqEnd) (λ is. ok_not_err _ ring.SeqEnd (ok.seq_end.1 is));
      untouched = λ is. absurd (ok_not_err _ ring.SeqEnd is);
      only = tt;
      ring = (done.0 ∙ ok.prepared.0, done.1 ∙ ap (λ (n : ℕ). n + 1) ok.prepared.1);
      fact = IsRing-told _ _ _ _ _ c.announce.ensures.disk c.in_ok-ring.ensures.fact.ring;
      records = all.0;
      recorded = all.1;
      cause = λ is. absurd (ok_not_err _ ring.DiskFault is);
      rest = then _ _ (then _ _ c.prepare.ensures.rest c.commit.ensures.rest) c.announce.ensures.rest;
    }

pub prepare-requires-clause-session : goal.prepare-requires-clause-session
prepare-requires-clause-session g c = λ old. absurd (not_current _ c.requires.current old)

pub commit-requires : goal.commit-requires
commit-requires g c = c.in_ok-prepared.ensures.fact
