use Rattle.std.proofs.Common.{refl, inr, ◌∙◌}
use Rattle.std.proofs.lemmas.Result.{err_from_is_err_and}
use Rattle.fdr_io.proofs.OutputSteps.{part_at_end, written_at_end}
use Rattle.fdr_top.specs.Coding.{SinkState}
use Rattle.fdr_top.specs.Encode.{levels_text}
use Rattle.fdr_top.proofs.Coded.{encodes, taken_emits}
use Rattle.fdr_top.proofs.InputTexts.{end_too_long, writes_all, writes_cut, writes_end}
use Rattle.fdr_top.proofs.encoding.write_levels.Goals.{In_ok-end}
use Rattle.fdr_top.proofs.encoding.write_levels.Goals as goal

pub returns-in_err-end-clause-part : goal.returns-in_err-end-clause-part
returns-in_err-end-clause-part g c =
    let cut = c.in_err-end.ensures.part in
    let before : SinkState = record { written = g.O.Sink.written c.args.out.now; faults = g.O.Sink.faults c.args.out.now } in
    let now : SinkState = record { written = g.O.Sink.written c.take_pieces.new.out; faults = g.O.Sink.faults c.take_pieces.new.out } in
    let p = err_from_is_err_and c.from_residual.result c.from_residual.ensures.1 in
    rw p.1 (encodes _ _ _ _ _ _ (writes_cut levels_text g.D.Deck.tells _ _ before now cut.0 cut.1 cut.2) (λ many. inr refl))

pub returns-in_err-end-clause-write_fault : goal.returns-in_err-end-clause-write_fault
returns-in_err-end-clause-write_fault g c =
    let p = err_from_is_err_and c.from_residual.result c.from_residual.ensures.1 in
    rw p.1 c.in_err-end.ensures.part.2.cause

pub returns-in_err-finish-clause-part : goal.returns-in_err-finish-clause-part
returns-in_err-finish-clause-part g c =
    let all = c.in_ok-end.ensures.all in
    let before : SinkState = record { written = g.O.Sink.written c.args.out.now; faults = g.O.Sink.faults c.args.out.now } in
    let mid : SinkState = record { written = g.O.Sink.written c.take_pieces.new.out; faults = g.O.Sink.faults c.take_pieces.new.out } in
    let emits = taken_emits c.take_pieces.new.taker (g.D.Deck.state c.args.deck.now) (g.D.Deck.state c.take_pieces.new.deck) all.0 before mid all.3 in
    let last = c.in_err-finish.ensures.part in
    let p = err_from_is_err_and c.from_residual-in_err-finish.result c.from_residual-in_err-finish.ensures.1 in
    rw p.1 (encodes _ _ _ _ _ _ (writes_end levels_text g.D.Deck.tells _ _ before.written _ all.0 c.in_ok-end.end all.1 all.2 c.in_ok-end.ensures.fault
    (part_at_end before.written mid.written _ c.take_pieces.new.taker.text _ last.0 emits last.1)) (λ many. inr refl))

pub returns-clause-all : goal.returns-clause-all
returns-clause-all g c =
    let all = c.in_ok-end.ensures.all in
    let before : SinkState = record { written = g.O.Sink.written c.args.out.now; faults = g.O.Sink.faults c.args.out.now } in
    let mid : SinkState = record { written = g.O.Sink.written c.take_pieces.new.out; faults = g.O.Sink.faults c.take_pieces.new.out } in
    let emits = taken_emits c.take_pieces.new.taker (g.D.Deck.state c.args.deck.now) (g.D.Deck.state c.take_pieces.new.deck) all.0 before mid all.3 in
    encodes _ _ _ _ _ _ (writes_all levels_text g.D.Deck.tells _ _ before.written _ all.0 c.in_ok-end.end all.1 all.2 c.in_ok-end.ensures.fault
    (written_at_end before.written mid.written _ c.take_pieces.new.taker.text _ emits c.in_ok-finish.ensures.all))
    (λ many. end_too_long g.D.Deck.tells _ _ all.0 c.in_ok-end.end all.1.takes all.2 many)

pub returns-clause-no_fault : goal.returns-clause-no_fault
returns-clause-no_fault g c = c.in_ok-finish.ensures.no_fault ∙ c.in_ok-end.ensures.all.3.no_fault
