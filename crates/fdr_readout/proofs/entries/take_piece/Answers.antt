use Rattle.std.proofs.Common.{◌≡◌, ℕ, List, ◌++◌, true, false, take}
use Rattle.std.proofs.Common.{refl, ap, ◌∙◌, append_assoc, arith}
use Rattle.std.proofs.lemmas.List.{take_all}
use Rattle.std.proofs.lemmas.Result.{on_ok_weaker, on_err_weaker}
use Rattle.fdr_sync.specs.Events.{decided_events}
use Rattle.fdr_resync.specs.Past.{scanner_with_bytes}
use Rattle.fdr_readout.specs.Entries.{Entry}
use Rattle.fdr_readout.specs.Reading.{ReadsEvents, entries_in, decided_past}
use Rattle.fdr_readout.proofs.Taking.{on_both}
use Rattle.fdr_readout.proofs.entries.take_piece.Given.{Over}
use Rattle.fdr_readout.proofs.entries.take_piece.Goals.{After-push}
use Rattle.fdr_readout.proofs.entries.take_piece.Goals as goal

pub push-requires-clause-open : goal.push-requires-clause-open
push-requires-clause-open g c = c.requires.stands.3.reads.scanner.ended

pub push-requires-clause-limit : goal.push-requires-clause-limit
push-requires-clause-limit g c = omega (arith, c.requires.stands.3.reads.scanner.pushed, c.requires.stands.4)

module _ (g : Over) (c : After-push g) where
  -- what is read once the bytes were pushed for which there was room
  some_pushed : ReadsEvents c.args.table.now c.push.new.self
      (scanner_with_bytes (decided_past c.args.table.now.frame.words c.requires.stands.0) (take c.push.result c.args.piece.now))
  some_pushed = c.push.ensures.stands c.args.table.now (decided_past c.args.table.now.frame.words c.requires.stands.0) c.requires.stands.3.reads

  -- and that is the whole piece
  whole_pushed : (bytes : List ℕ) → ReadsEvents c.args.table.now c.args.reader.now (decided_past c.args.table.now.frame.words bytes)
      → ReadsEvents c.args.table.now c.push.new.self (scanner_with_bytes (decided_past c.args.table.now.frame.words bytes) c.args.piece.now)
  whole_pushed bytes reads =
      let past = decided_past c.args.table.now.frame.words bytes in
      let room = c.push.ensures.room c.args.table.now past reads refl in
      rw (take_all c.push.result c.args.piece.now (omega (arith, room, c.requires.piece))) at (c.push.ensures.stands c.args.table.now past reads)

pub take_known-requires : goal.take_known-requires
take_known-requires g c = (_, some_pushed g (goal.at.take_known-requires g c).After-push)

pub returns-clause-all : goal.returns-clause-all
returns-clause-all g c = λ bytes first out_first had.
    let t = c.args.table.now in
    let w = t.frame.words in
    let piece = c.args.piece.now in
    let past = decided_past w bytes in
    let pushed = whole_pushed g (goal.at.returns-clause-all g c).After-push bytes had.reads in
    on_ok_weaker c.take_known.result
    (λ both. record {
      reads = both.0;
      entries = had.entries ++ both.1.0;
      taken = g.met.T.Taker.laws.then _ _ _ _ _ _ _ _ _ had.taken both.1.1;
      decided = λ more.
          both.1.2 more (λ (finished : false ≡ true). cc)
          ∙ ap (λ (front : List Entry). front ++ both.1.0)
          (ap (λ b. entries_in t b (decided_events bytes w)) (append_assoc bytes piece more) ∙ had.decided (piece ++ more));
    })
    (on_both _ _ _ (c.take_known.ensures.stands (scanner_with_bytes past piece) pushed) (c.take_known.ensures.all (scanner_with_bytes past piece) pushed))

pub returns-clause-part : goal.returns-clause-part
returns-clause-part g c = λ bytes more first out_first had.
    let t = c.args.table.now in
    let w = t.frame.words in
    let piece = c.args.piece.now in
    let past = decided_past w bytes in
    let pushed = whole_pushed g (goal.at.returns-clause-part g c).After-push bytes had.reads in
    on_err_weaker c.take_known.result
    (λ failed.
    let rest = failed.2 more (λ (finished : false ≡ true). cc) in
    rw (rest.1 ∙ ap (λ (front : List Entry). (front ++ failed.0) ++ rest.0)
    (ap (λ b. entries_in t b (decided_events bytes w)) (append_assoc bytes piece more) ∙ had.decided (piece ++ more)))
    (g.met.T.Taker.laws.fails_before _ _ _ _ _ rest.0 (g.met.T.Taker.laws.fails_then _ _ _ _ _ _ _ _ had.taken failed.1)))
    (c.take_known.ensures.part (scanner_with_bytes past piece) pushed)

pub returns-clause-step : goal.returns-clause-step
returns-clause-step g c =
    on_ok_weaker c.take_known.result (λ took. (took.0, took.1))
    (c.take_known.ensures.all _ (some_pushed g (goal.at.returns-clause-step g c).After-push))

pub returns-clause-step_part : goal.returns-clause-step_part
returns-clause-step_part g c =
    on_err_weaker c.take_known.result (λ failed. (failed.0, failed.1))
    (c.take_known.ensures.part _ (some_pushed g (goal.at.returns-clause-step_part g c).After-push))
