use Rattle.std.proofs.Common.{◌≡◌, ◌++◌, [], take, refl, inr, subst, List, ℕ, ◌∙◌}
use Rattle.std.proofs.lemmas.Result.{err_from_is_err_and}
use Rattle.fdr_io.specs.Told.{followed_by}
use Rattle.fdr_io.proofs.OutputSteps.{part_at_end, written_at_end}
use Rattle.fdr_pieces.specs.Pieces.{before_last, last_piece}
use Rattle.fdr_readout.specs.Listing.{listing_of}
use Rattle.fdr_readout.specs.Taken.{HasTaken, WritesLines}
use Rattle.fdr_readout.proofs.EntryLemmas.{lines_of_entries}
use Rattle.fdr_top.specs.Coding.{SinkState}
use Rattle.fdr_pieces.specs.Limits.{most_input_bytes}
use Rattle.fdr_top.specs.InputTexts.{WritesFront}
use Rattle.fdr_top.proofs.InputTexts.{all_taken, end_not_write, end_too_long, writes_all, writes_cut, writes_end}
use Rattle.fdr_top.proofs.ListedLines.{grown_by, in_time_more, lists, part_of_lines}
use Rattle.fdr_top.proofs.list_bits.write_line.Goals as goal

pub returns-in_err-end-clause-part : goal.returns-in_err-end-clause-part
returns-in_err-end-clause-part g c =
    let cut = c.in_err-end.ensures.part in
    let before : SinkState = record { written = g.O.Sink.written c.args.out.now; faults = g.O.Sink.faults c.args.out.now } in
    let now : SinkState = record { written = g.O.Sink.written c.take_pieces.new.out; faults = g.O.Sink.faults c.take_pieces.new.out } in
    let p = err_from_is_err_and c.from_residual.result c.from_residual.ensures.1 in
    rw p.1 (lists _ _ _ _ _ _ _ (writes_cut (listing_of c.args.listing.now.table.now) g.D.Deck.tells _ _ before now cut.0 cut.1 cut.2.stops)
    (λ e. cut.2.in_time) (λ many. inr refl))

pub returns-in_err-end-clause-write_fault : goal.returns-in_err-end-clause-write_fault
returns-in_err-end-clause-write_fault g c =
    let p = err_from_is_err_and c.from_residual.result c.from_residual.ensures.1 in
    rw p.1 c.in_err-end.ensures.part.2.stops.cause

pub returns-in_err-take_rest-clause-part : goal.returns-in_err-take_rest-clause-part
returns-in_err-take_rest-clause-part g c =
    let all = c.in_ok-end.ensures.all in
    let had = all.3 in
    let t = c.take_pieces.new.taker.table.now in
    let bytes = before_last most_input_bytes (g.D.Deck.state c.args.deck.now) (g.D.Deck.state c.take_pieces.new.deck) all.0
    ++ last_piece most_input_bytes (g.D.Deck.state c.args.deck.now) (g.D.Deck.state c.take_pieces.new.deck) all.0 in
    let taken : HasTaken (WritesLines g.O.Sink.written) t c.take_pieces.new.taker.reader bytes [] c.args.out.now c.take_pieces.new.taker.lines
    c.take_pieces.new.out = rw had.0.empty had.0.taken in
    let start = g.O.Sink.written c.args.out.now in
    let now = g.O.Sink.written c.take_rest.new.out in
    let part = c.in_err-take_rest.ensures.part bytes [] c.args.out.now taken in
    let front = subst (λ (xs : List ℕ). WritesFront (listing_of t xs) start now)
    (all_taken (g.D.Deck.state c.args.deck.now) (g.D.Deck.state c.take_pieces.new.deck) all.0) (part_of_lines t bytes start now part) in
    let p = err_from_is_err_and c.from_residual-in_err-take_rest.result c.from_residual-in_err-take_rest.ensures.1 in
    rw (p.1, ← had.0.table) (lists _ _ _ _ _ _ _ (writes_end
    (listing_of t) g.D.Deck.tells _ _ start now all.0 c.in_ok-end.end all.1 all.2 c.in_ok-end.ensures.fault
    front) (λ e. in_time_more t _ _ start (g.O.Sink.written c.take_pieces.new.out) now had.0.in_time c.in_err-take_rest.ensures.step_part.1.written)
    (λ many. inr refl))

pub returns-in_err-finish-clause-part : goal.returns-in_err-finish-clause-part
returns-in_err-finish-clause-part g c =
    let all = c.in_ok-end.ensures.all in
    let had = all.3 in
    let t = c.take_pieces.new.taker.table.now in
    let bytes = before_last most_input_bytes (g.D.Deck.state c.args.deck.now) (g.D.Deck.state c.take_pieces.new.deck) all.0
    ++ last_piece most_input_bytes (g.D.Deck.state c.args.deck.now) (g.D.Deck.state c.take_pieces.new.deck) all.0 in
    let taken : HasTaken (WritesLines g.O.Sink.written) t c.take_pieces.new.taker.reader bytes [] c.args.out.now c.take_pieces.new.taker.lines
    c.take_pieces.new.out = rw had.0.empty had.0.taken in
    let start = g.O.Sink.written c.args.out.now in
    let mid = g.O.Sink.written c.take_rest.new.out in
    let now = g.O.Sink.written c.finish.new.out in
    let emits = rw (lines_of_entries t bytes) at (c.in_ok-take_rest.ensures.all bytes [] c.args.out.now taken) in
    let last = c.in_err-finish.ensures.part in
    let grown = grown_by (g.O.Sink.written c.take_pieces.new.out) mid now _ c.take_rest.new.taker _ (take last.0 c.take_rest.new.taker)
    c.in_ok-take_rest.ensures.step.1 last.1 in
    let front = subst (λ (xs : List ℕ). WritesFront (listing_of t xs) start now)
    (all_taken (g.D.Deck.state c.args.deck.now) (g.D.Deck.state c.take_pieces.new.deck) all.0)
    (part_at_end start mid now c.take_rest.new.taker _ last.0 emits last.1) in
    let p = err_from_is_err_and c.from_residual-in_err-finish.result c.from_residual-in_err-finish.ensures.1 in
    rw (p.1, ← had.0.table) (lists _ _ _ _ _ _ _ (writes_end
    (listing_of t) g.D.Deck.tells _ _ start now all.0 c.in_ok-end.end all.1 all.2 c.in_ok-end.ensures.fault
    front) (λ e. in_time_more t _ grown.0 start (g.O.Sink.written c.take_pieces.new.out) now had.0.in_time grown.1) (λ many. inr refl))

pub returns-clause-all : goal.returns-clause-all
returns-clause-all g c =
    let all = c.in_ok-end.ensures.all in
    let had = all.3 in
    let t = c.take_pieces.new.taker.table.now in
    let bytes = before_last most_input_bytes (g.D.Deck.state c.args.deck.now) (g.D.Deck.state c.take_pieces.new.deck) all.0
    ++ last_piece most_input_bytes (g.D.Deck.state c.args.deck.now) (g.D.Deck.state c.take_pieces.new.deck) all.0 in
    let taken : HasTaken (WritesLines g.O.Sink.written) t c.take_pieces.new.taker.reader bytes [] c.args.out.now c.take_pieces.new.taker.lines
    c.take_pieces.new.out = rw had.0.empty had.0.taken in
    let start = g.O.Sink.written c.args.out.now in
    let mid = g.O.Sink.written c.take_rest.new.out in
    let now = g.O.Sink.written c.finish.new.out in
    let emits = rw (lines_of_entries t bytes) at (c.in_ok-take_rest.ensures.all bytes [] c.args.out.now taken) in
    let whole = subst (λ (xs : List ℕ). now ≡ followed_by start (listing_of t xs))
    (all_taken (g.D.Deck.state c.args.deck.now) (g.D.Deck.state c.take_pieces.new.deck) all.0)
    (written_at_end start mid now c.take_rest.new.taker _ emits c.in_ok-finish.ensures.all) in
    rw (← had.0.table) (lists _ _ _ _ _ _ _ (writes_all
    (listing_of t) g.D.Deck.tells _ _ start now all.0 c.in_ok-end.end all.1 all.2 c.in_ok-end.ensures.fault whole)
    (λ e. absurd (end_not_write c.in_ok-end.end e)) (λ many. end_too_long g.D.Deck.tells _ _ all.0 c.in_ok-end.end all.1.takes all.2 many))

pub returns-clause-no_fault : goal.returns-clause-no_fault
returns-clause-no_fault g c = c.in_ok-finish.ensures.no_fault ∙ c.in_ok-take_rest.ensures.no_fault ∙ c.in_ok-end.ensures.all.3.1
