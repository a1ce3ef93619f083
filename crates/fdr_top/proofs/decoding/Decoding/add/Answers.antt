use Rattle.std.proofs.Common.{take}
use Rattle.std.proofs.lemmas.Result.{err_from_is_err_and}
use Rattle.fdr_top.specs.Coding.{SinkState}
use Rattle.fdr_top.proofs.Coding.{decoded_missed, decoded_next, decoding_stops}
use Rattle.fdr_top.proofs.decoding.Decoding.add.Goals as goal

pub returns-in_err-add-clause-part : goal.returns-in_err-add-clause-part
returns-in_err-add-clause-part g c = λ bytes before had.
    let mid : SinkState = record { written = g.O.Sink.written c.args.out.now; faults = g.O.Sink.faults c.args.out.now } in
    let now : SinkState = record { written = g.O.Sink.written c.add.new.out; faults = g.O.Sink.faults c.add.new.out } in
    let p = err_from_is_err_and c.from_residual.result c.from_residual.ensures.1 in
    rw (p.1, p.2) (decoding_stops c.args.self.now c.bytes-filled.new.self bytes (take c.bytes-filled.result.count c.bytes-filled.new.room) c.args.piece.now
    c.bytes-filled.result.missing before mid now had (c.bytes-filled.ensures.stands bytes had.decoded had.reader)
    (λ m is. c.bytes-filled.ensures.missing bytes had.decoded m had.reader is) c.in_err-add.ensures.part c.in_err-add.ensures.cause)

pub returns-in-None-clause-all : goal.returns-in-None-clause-all
returns-in-None-clause-all g c = λ bytes before had.
    let mid : SinkState = record { written = g.O.Sink.written c.args.out.now; faults = g.O.Sink.faults c.args.out.now } in
    let now : SinkState = record { written = g.O.Sink.written c.add.new.out; faults = g.O.Sink.faults c.add.new.out } in
    decoded_next c.args.self.now _ bytes (take c.bytes-filled.result.count c.bytes-filled.new.room) c.args.piece.now before mid now had
    (c.bytes-filled.ensures.stands bytes had.decoded had.reader c.in-None.is) c.in_ok-add.ensures.all c.in_ok-add.ensures.no_fault

pub returns-in-Some-clause-part : goal.returns-in-Some-clause-part
returns-in-Some-clause-part g c = λ bytes before had.
    let mid : SinkState = record { written = g.O.Sink.written c.args.out.now; faults = g.O.Sink.faults c.args.out.now } in
    let now : SinkState = record { written = g.O.Sink.written c.add.new.out; faults = g.O.Sink.faults c.add.new.out } in
    decoded_missed c.args.self.now _ bytes (take c.bytes-filled.result.count c.bytes-filled.new.room) c.args.piece.now c.in-Some.missing.at before mid now had
    (c.bytes-filled.ensures.missing bytes had.decoded c.in-Some.missing had.reader c.in-Some.is) c.in_ok-add.ensures.all
    c.in_ok-add.ensures.no_fault
