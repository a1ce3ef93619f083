use Rattle.std.proofs.Common.{◌*◌, length, take}
use Rattle.fdr_top.specs.Coding.{SinkState}
use Rattle.fdr_top.specs.declared.encoding.Encoding.{Encoding}
use Rattle.fdr_top.proofs.Coding.{encoded_next, encoding_stops, ok_both, err_both, on_ok, on_err}
use Rattle.fdr_top.proofs.encoding.Encoding.add.Goals as goal

pub returns-clause-all : goal.returns-clause-all
returns-clause-all g c = λ bytes before had.
    let piece = c.args.piece.now in
    let levels = take (2 * length piece) c.bytes.new.room in
    let mid : SinkState = record { written = g.O.Sink.written c.args.out.now; faults = g.O.Sink.faults c.args.out.now } in
    let now : SinkState = record { written = g.O.Sink.written c.add.new.out; faults = g.O.Sink.faults c.add.new.out } in
    let e : Encoding = record { encoder = c.bytes.new.self; text = c.add.new.self } in
    on_ok c.add.result (λ both. encoded_next c.args.self.now e bytes levels piece before mid now had (c.bytes.ensures.stands _ _ had.encoder)
    (c.bytes.ensures.packed _ _ had.encoder) both.0 both.1) (ok_both _ _ c.add.result c.add.ensures.all c.add.ensures.no_fault)

pub returns-clause-part : goal.returns-clause-part
returns-clause-part g c = λ bytes before had.
    let piece = c.args.piece.now in
    let levels = take (2 * length piece) c.bytes.new.room in
    let mid : SinkState = record { written = g.O.Sink.written c.args.out.now; faults = g.O.Sink.faults c.args.out.now } in
    let now : SinkState = record { written = g.O.Sink.written c.add.new.out; faults = g.O.Sink.faults c.add.new.out } in
    on_err c.add.result (λ both. encoding_stops c.args.self.now bytes levels piece before mid now had (c.bytes.ensures.packed _ _ had.encoder) both.0 both.1)
    (err_both _ _ c.add.result c.add.ensures.part c.add.ensures.cause)
