use Rattle.std.proofs.Common.{◌≡◌, ◌∙◌, ap, refl, Err, arith, rules}
use Rattle.fdr_deck.proofs.Composing.{refusal}
use Rattle.fdr_deck.specs.Pull.{KeepsInput}
use Rattle.fdr_recorder.specs.Supplied.{past_fed}
use Rattle.fdr_recorder.specs.Supply.{supplied_records}
use Rattle.fdr_recorder.proofs.SessionEnds.{Continues-closed, Continues-unclosed, keeps_input_then, only_two, ring_of, told_closed, two_cut}
use Rattle.fdr_recorder.proofs.SessionEnds.{ended_only}
use Rattle.fdr_recorder.proofs.recording.record_all.Given.{Over}
use Rattle.fdr_recorder.proofs.recording.record_all.Goals.{After-close}
use Rattle.fdr_recorder.proofs.recording.record_all.Goals as goal

-- what closing keeps
kept : (g : Over) (c : After-close g)
    → let before = g.D.Deck.state c.record_records.new.deck in
    let after = g.D.Deck.state c.close.new.deck in
    KeepsInput before after × (after.input_faults ≡ before.input_faults) × (after.extent ≡ before.extent)
kept g c =
    let r = c.requires in
    let whole = c.in_ok-fed.ensures.fed r.0 r.1 r.2 r.3 in
    let wrote = c.close.ensures.records (past_fed r.1 (supplied_records r.0 whole.pulled)) whole.stands in
    (wrote.input, wrote.input_faults, wrote.extent)

extent : (g : Over) (c : After-close g) → (g.D.Deck.state c.close.new.deck).extent ≡ (g.D.Deck.state c.args.deck.now).extent
extent g c = (kept g c).2 ∙ c.in_ok-fed.ensures.extent

unpulled : (g : Over) (c : After-close g) → g.S.RecordSource.is_still c.args.source.now
    → KeepsInput (g.D.Deck.state c.args.deck.now) (g.D.Deck.state c.close.new.deck)
    × ((g.D.Deck.state c.close.new.deck).input_faults ≡ (g.D.Deck.state c.args.deck.now).input_faults)
unpulled g c is = let k = kept g c in keeps_input_then _ _ _ _ (c.in_ok-fed.ensures.unpulled is) refl k.0 k.1

pub close-requires-clause-stands : goal.close-requires-clause-stands
close-requires-clause-stands g c =
    let r = c.requires in
    let whole = c.in_ok-fed.ensures.fed r.0 r.1 r.2 r.3 in
    (past_fed r.1 (supplied_records r.0 whole.pulled), whole.stands)

pub close-requires-clause-fact : goal.close-requires-clause-fact
close-requires-clause-fact g c =
    let r = c.requires in
    let whole = c.in_ok-fed.ensures.fed r.0 r.1 r.2 r.3 in
    ring_of _ (past_fed r.1 (supplied_records r.0 whole.pulled)) _ _ whole.stands whole.ring

-- the source's records were not all recorded
pub returns-in_err-fed : goal.returns-in_err-fed
returns-in_err-fed g c = rw (refusal _ _ c.from_residual.ensures.1) (search (rules, c.in_err-fed.ensures))

-- the session was closed
pub returns-in-Ok : goal.returns-in-Ok
returns-in-Ok g c =
    let at = (goal.at.returns-in-Ok g c).After-close in
    let r = c.requires in
    let fed = c.in_ok-fed.ensures in
    let e = c.in-Ok.ensures in
    let sound = g.met.D.Deck.sound c.args.deck.now in
    let whole = fed.fed r.0 r.1 r.2 r.3 in
    let p = past_fed r.1 (supplied_records r.0 whole.pulled) in
    record {
      closed = λ from past gave is.
          let whole = fed.fed from past gave is in
          let p = past_fed past (supplied_records from whole.pulled) in
          Continues-closed from _ past _ _ _ _ _ _ sound is whole (e.all p whole.stands) (e.records p whole.stands)
          c.in-Ok.next (e.next p whole.stands) e.room (e.recorded p whole.stands);
      ended = λ from past gave is. tt;
      next = told_closed r.0 _ r.1 _ _ _ _ _ _ sound r.3 whole (e.all p whole.stands) (e.records p whole.stands)
          c.in-Ok.next (e.next p whole.stands) (e.recorded p whole.stands);
      later = omega (arith, r.3.number, whole.stands.next, e.next p whole.stands);
      only = tt;
      input_fault = λ fails. rw (← (kept g at).1) at (fed.input_fault fails);
      disk_fault = tt;
      no_disk_fault = (e.recorded p whole.stands).disk_faults ∙ fed.no_disk_fault;
      no_fault_if_cut = tt;
      unpulled = unpulled g at;
      extent = extent g at;
    }

-- it was cut short
pub returns-in-Err : goal.returns-in-Err
returns-in-Err g c =
    let at = (goal.at.returns-in-Err g c).After-close in
    let r = c.requires in
    let fed = c.in_ok-fed.ensures in
    let e = c.in-Err.ensures in
    record {
      closed = λ from past gave is. tt;
      ended = λ from past gave is.
          let whole = fed.fed from past gave is in
          let p = past_fed past (supplied_records from whole.pulled) in
          Continues-unclosed from _ past _ _ _ _ _ _ (g.met.D.Deck.sound c.args.deck.now) is whole (e.all p whole.stands)
          (e.records p whole.stands) c.in-Err.fault (λ ends. e.seq_end p whole.stands (ap Err ends));
      next = tt;
      later = tt;
      only = two_cut c.in-Err.fault (only_two _ e.only);
      input_fault = tt;
      disk_fault = λ fails. rw fed.no_disk_fault at (e.cause (ap Err fails));
      no_disk_fault = tt;
      no_fault_if_cut = λ other.
          let whole = fed.fed r.0 r.1 r.2 r.3 in
          let ends = ended_only c.in-Err.fault (only_two _ e.only) other in
          (e.seq_end (past_fed r.1 (supplied_records r.0 whole.pulled)) whole.stands (ap Err ends)).recorded.disk_faults ∙ fed.no_disk_fault;
      unpulled = unpulled g at;
      extent = extent g at;
    }
