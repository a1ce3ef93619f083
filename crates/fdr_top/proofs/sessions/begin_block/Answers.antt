use Rattle.std.proofs.lemmas.Result.{err_from_is_err_and}
use Rattle.fdr_recover.specs.Payloads.{payloads_of}
use Rattle.fdr_top.proofs.SessionEntries.{block_goes_on, line_failed, rest_failed, session_begun}
use Rattle.fdr_top.proofs.sessions.begin_block.Goals as goal

pub returns-then-goes_on-clause-all : goal.returns-then-goes_on-clause-all
returns-then-goes_on-clause-all g c = λ first out_first blocks payload had.
    block_goes_on g.T.Taker.took g.T.Taker.failed_in g.met.T.Taker.laws _ _ _ _ _ _ _ _ _ had
    (record { number = c.args.number; session = c.args.session; payload = payload }) (c.goes_on.ensures.yes c.if-goes_on.true)

pub take_rest-requires : goal.take_rest-requires
take_rest-requires g c =
    let had = c.requires.stands.3 in
    record { stands = (payloads_of had.current, had.mid, had.out_mid, had.bits) }

pub returns-in_err-take_rest-clause-part : goal.returns-in_err-take_rest-clause-part
returns-in_err-take_rest-clause-part g c = λ first out_first blocks more payload had.
    let p = err_from_is_err_and c.from_residual.result c.from_residual.ensures.1 in
    rw p.1 (rest_failed g.T.Taker.took g.T.Taker.failed_in g.met.T.Taker.laws _ _ _ _ _ _ _ _ _ had
    (record { number = c.args.number; session = c.args.session; payload = payload }) (c.goes_on.ensures.second c.if-goes_on.false)
    (c.goes_on.ensures.another c.if-goes_on.false) _ more
    (c.in_err-take_rest.ensures.part (payloads_of had.current) had.mid had.out_mid had.bits))

pub returns-in_err-line-clause-part : goal.returns-in_err-line-clause-part
returns-in_err-line-clause-part g c = λ first out_first blocks more payload had.
    let p = err_from_is_err_and c.from_residual-in_err-line.result c.from_residual-in_err-line.ensures.1 in
    rw p.1 (line_failed g.T.Taker.took g.T.Taker.failed_in g.met.T.Taker.laws _ _ _ _ _ _ _ _ _ had
    (record { number = c.args.number; session = c.args.session; payload = payload }) (c.goes_on.ensures.second c.if-goes_on.false)
    (c.goes_on.ensures.another c.if-goes_on.false) _ _
    (c.in_ok-take_rest.ensures.all (payloads_of had.current) had.mid had.out_mid had.bits) _ more
    (rw c.session_line.ensures at c.in_err-line.ensures.part c.args.reader.now.table.now))

pub returns-clause-all : goal.returns-clause-all
returns-clause-all g c = λ first out_first blocks payload had.
    let reads = c.in_ok-take_rest.ensures.reads (payloads_of had.current) had.mid had.out_mid had.bits in
    session_begun g.T.Taker.took g.T.Taker.failed_in g.met.T.Taker.laws _ _ _ _ _ _ _ _ _ had
    (record { number = c.args.number; session = c.args.session; payload = payload }) (c.goes_on.ensures.second c.if-goes_on.false)
    (c.goes_on.ensures.another c.if-goes_on.false) _ _
    (c.in_ok-take_rest.ensures.all (payloads_of had.current) had.mid had.out_mid had.bits) _ _ _
    (rw c.session_line.ensures at c.in_ok-line.ensures.all c.args.reader.now.table.now)
    (c.restart.ensures c.args.reader.now.table.now reads.0 reads.1)
