use Rattle.std.proofs.Common.{◌≡◌, ⊎_elim, ◌++◌, List, ℕ, ap, sym, subst, refl, ◌∙◌}
use Rattle.fdr_io.specs.Told.{followed_by}
use Rattle.fdr_biphase.specs.Packed.{decoded_bytes}
use Rattle.fdr_pieces.specs.Pieces.{before_last, last_piece}
use Rattle.fdr_pieces.specs.Limits.{most_input_bytes}
use Rattle.fdr_top.specs.Coding.{HasMissed, SinkState}
use Rattle.fdr_top.specs.Decode.{DecodesLevels}
use Rattle.fdr_top.specs.InputTexts.{WritesFront, answer_of}
use Rattle.fdr_top.specs.declared.outcome.Outcome.TheVariants as outcome
use Rattle.fdr_top.proofs.Coded.{decodes_all, decodes_failed, decodes_missing}
use Rattle.fdr_top.proofs.InputTexts.{all_taken, cut_answer, end_not_write, writes_cut, writes_end, writes_missing}
use Rattle.fdr_top.proofs.decoding.write_bits.Goals as goal

pub returns-in-Ok-clause-decodes : goal.returns-in-Ok-clause-decodes
returns-in-Ok-clause-decodes g c =
    let all = c.in-Ok.ensures.all in
    let old = g.D.Deck.state c.args.deck.now in
    let new = g.D.Deck.state c.take_pieces.new.deck in
    let before : SinkState = record { written = g.O.Sink.written c.args.out.now; faults = g.O.Sink.faults c.args.out.now } in
    let now = g.O.Sink.written c.write_rest.new.out in
    let part = subst (λ (xs : List ℕ). WritesFront (decoded_bytes xs) before.written now) (all_taken old new all.0)
    (c.write_rest.ensures.part _ before all.3) in
    ⊎_elim
    (λ (is : c.write_rest.result ≡ c.answer_of.result).
    let same = is ∙ c.answer_of.ensures in
    let whole = c.write_rest.ensures.all _ before all.3 (λ e. end_not_write c.in-Ok.end (sym same ∙ e)) in
    subst (DecodesLevels g.D.Deck.tells old new before.written now) (sym same) (decodes_all c.take_pieces.new.taker.reader all.3.decoded g.D.Deck.tells old new
    before.written now all.0 c.in-Ok.end all.1 all.2 c.in-Ok.ensures.fault all.3.reader
    (subst (λ (xs : List ℕ). now ≡ followed_by before.written (decoded_bytes xs)) (all_taken old new all.0) whole)))
    (λ (failed : c.write_rest.result ≡ outcome.WriteFault).
    subst (DecodesLevels g.D.Deck.tells old new before.written now) (sym failed) (decodes_failed g.D.Deck.tells old new before.written now
    (writes_end decoded_bytes g.D.Deck.tells old new before.written now all.0 c.in-Ok.end all.1 all.2 c.in-Ok.ensures.fault part)))
    c.write_rest.ensures.answer

pub returns-in-Ok-clause-no_input_fault : goal.returns-in-Ok-clause-no_input_fault
returns-in-Ok-clause-no_input_fault g c = λ not_read not_written. ⊎_elim
    (λ (is : c.write_rest.result ≡ c.answer_of.result). c.in-Ok.ensures.no_fault (λ e. not_read (is ∙ c.answer_of.ensures ∙ ap answer_of e)))
    (λ (failed : c.write_rest.result ≡ outcome.WriteFault). absurd (not_written failed))
    c.write_rest.ensures.answer

pub returns-in-Err-Output-clause-decodes : goal.returns-in-Err-Output-clause-decodes
returns-in-Err-Output-clause-decodes g c =
    let cut = c.in-Err-Output.ensures.part in
    let before : SinkState = record { written = g.O.Sink.written c.args.out.now; faults = g.O.Sink.faults c.args.out.now } in
    let now : SinkState = record { written = g.O.Sink.written c.take_pieces.new.out; faults = g.O.Sink.faults c.take_pieces.new.out } in
    decodes_failed g.D.Deck.tells _ _ before.written now.written (writes_cut decoded_bytes g.D.Deck.tells _ _ before now cut.0 cut.1
    (rw c.in-Err-Output.field-0-is at cut.2))

pub returns-in-Err-Missing-clause-decodes : goal.returns-in-Err-Missing-clause-decodes
returns-in-Err-Missing-clause-decodes g c =
    let cut = c.in-Err-Missing.ensures.part in
    let at = c.in-Err-Missing.at in
    let old = g.D.Deck.state c.args.deck.now in
    let new = g.D.Deck.state c.take_pieces.new.deck in
    let before : SinkState = record { written = g.O.Sink.written c.args.out.now; faults = g.O.Sink.faults c.args.out.now } in
    let mid : SinkState = record { written = g.O.Sink.written c.take_pieces.new.out; faults = g.O.Sink.faults c.take_pieces.new.out } in
    let bytes = before_last most_input_bytes old new cut.0 ++ last_piece most_input_bytes old new cut.0 in
    let missed : HasMissed c.take_pieces.new.taker bytes at before mid = rw c.in-Err-Missing.field-0-is at cut.2 in
    let rest = c.write_rest-in-Err-Missing in
    let now = g.O.Sink.written rest.new.out in
    let front = λ (more : List ℕ). subst (λ (xs : List ℕ). WritesFront (decoded_bytes (xs ++ more)) before.written now) (all_taken old new cut.0)
    (rest.ensures.missed_part bytes at before missed more) in
    ⊎_elim
    (λ (is : rest.result ≡ outcome.CellFault at).
    let whole = λ (more : List ℕ). subst (λ (xs : List ℕ). now ≡ followed_by before.written (decoded_bytes (xs ++ more))) (all_taken old new cut.0)
    (rest.ensures.missed bytes at before missed more (λ e. let c' : outcome.CellFault at ≡ outcome.WriteFault = sym is ∙ e in cc)) in
    subst (DecodesLevels g.D.Deck.tells old new before.written now) (sym is) (decodes_missing c.take_pieces.new.taker.reader missed.decoded at g.D.Deck.tells
    old new before.written now cut.0 cut.1 missed.reader whole front))
    (λ (failed : rest.result ≡ outcome.WriteFault).
    subst (DecodesLevels g.D.Deck.tells old new before.written now) (sym failed) (decodes_failed g.D.Deck.tells old new before.written now
    (writes_missing decoded_bytes g.D.Deck.tells old new before.written now cut.0 outcome.WriteFault cut.1 (cut_answer g.D.Deck.tells new cut.0)
    (λ more other. absurd (other refl)) front)))
    rest.ensures.answer
