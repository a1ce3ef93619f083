use Rattle.std.proofs.Common.{◌≡◌, List, [], ◌++◌, refl, sym, ap, ◌∙◌, append-nil}
use Rattle.std.proofs.lemmas.Result.{on_ok_weaker, on_err_weaker}
use Rattle.fdr_sync.specs.Events.{events_of}
use Rattle.fdr_resync.specs.Past.{scanner_finished}
use Rattle.fdr_readout.specs.Entries.{Entry, entries_of}
use Rattle.fdr_readout.specs.Reading.{entries_in, decided_past}
use Rattle.fdr_readout.proofs.entries.take_rest.Goals as goal

pub take_known-requires : goal.take_known-requires
take_known-requires g c =
    (_, c.finish.ensures c.args.table.now _ c.requires.stands.3.reads)

pub returns-clause-all : goal.returns-clause-all
unfolding entries_of
returns-clause-all g c = λ bytes first out_first had.
    let t = c.args.table.now in
    let w = t.frame.words in
    let past = decided_past w bytes in
    let ended = c.finish.ensures t past had.reads in
    on_ok_weaker c.take_known.result
    (λ took.
    let whole : had.entries ++ took.0 ≡ entries_of t bytes =
    ap (λ (front : List Entry). front ++ took.0) (sym (had.decided [])) ∙ sym (took.2 [] (λ finished. refl))
    ∙ ap (λ b. entries_in t b (events_of bytes w)) (append-nil bytes) in
    rw (← whole) (g.met.T.Taker.laws.then _ _ _ _ _ _ _ _ _ had.taken took.1))
    (c.take_known.ensures.all (scanner_finished past) ended)

-- the events are the only list that is one of events
pub returns-clause-events : goal.returns-clause-events
unfolding entries_of
returns-clause-events g c = λ bytes first out_first es had are.
    rw ((c.events_are_unique.ensures bytes c.args.table.now.frame.words).only_events es are) (returns-clause-all g c bytes first out_first had)

pub returns-clause-part : goal.returns-clause-part
returns-clause-part g c = λ bytes first out_first had.
    let t = c.args.table.now in
    let past = decided_past t.frame.words bytes in
    let ended = c.finish.ensures t past had.reads in
    on_err_weaker c.take_known.result
    (λ failed.
    let rest = failed.2 [] (λ finished. refl) in
    let all : entries_of t bytes ≡ (had.entries ++ failed.0) ++ rest.0 =
    ap (entries_of t) (sym (append-nil bytes)) ∙ rest.1 ∙ ap (λ (front : List Entry). (front ++ failed.0) ++ rest.0) (had.decided []) in
    rw all (g.met.T.Taker.laws.fails_before _ _ _ _ _ rest.0 (g.met.T.Taker.laws.fails_then _ _ _ _ _ _ _ _ had.taken failed.1)))
    (c.take_known.ensures.part (scanner_finished past) ended)

pub returns-clause-reads : goal.returns-clause-reads
returns-clause-reads g c = λ bytes first out_first had.
    on_ok_weaker c.take_known.result (λ reads. (_, reads)) (c.take_known.ensures.stands _ (c.finish.ensures c.args.table.now _ had.reads))

pub returns-clause-step : goal.returns-clause-step
returns-clause-step g c =
    on_ok_weaker c.take_known.result (λ took. (took.0, took.1)) (c.take_known.ensures.all _ (c.finish.ensures c.args.table.now _ c.requires.stands.3.reads))

pub returns-clause-step_part : goal.returns-clause-step_part
returns-clause-step_part g c =
    on_err_weaker c.take_known.result (λ failed. (failed.0, failed.1))
    (c.take_known.ensures.part _ (c.finish.ensures c.args.table.now _ c.requires.stands.3.reads))
