use Rattle.std.proofs.Common.{◌++◌, [], take, ◌∙◌}
use Rattle.std.proofs.lemmas.Result.{err_from_is_err_and}
use Rattle.fdr_readout.specs.Taken.{HasTaken, WritesLines}
use Rattle.fdr_top.proofs.Coding.{err_both, if_err, ok_both, on_err, on_ok}
use Rattle.fdr_top.proofs.ListedLines.{decided_written, grown_by, in_time_then, part_of_lines, taken_flushed, waiting_front}
use Rattle.fdr_top.proofs.list_bits.LineListingPieceTaker.take.Goals as goal

pub returns-in_err-take_piece-clause-part : goal.returns-in_err-take_piece-clause-part
returns-in_err-take_piece-clause-part g c = λ first out_first bytes last had.
    let t = c.args.self.now.table.now in
    let written = g.O.Sink.written in
    let taken : HasTaken (WritesLines written) t c.args.self.now.reader (bytes ++ last) [] out_first c.args.self.now.lines c.args.out.now =
    rw had.0.empty had.0.taken in
    let all = decided_written written t c.args.self.now.reader (bytes ++ last) out_first c.args.out.now had.0.taken in
    let p = err_from_is_err_and c.from_residual.result c.from_residual.ensures.1 in
    rw (p.1, ← had.0.table) (record {
      stops = record {
        part = λ more. part_of_lines t _ (written out_first) (written c.take_piece.new.out)
            (c.in_err-take_piece.ensures.part (bytes ++ last) more [] out_first taken);
        cause = rw had.1 at c.in_err-take_piece.ensures.cause;
      };
      in_time = in_time_then t (bytes ++ last) _ (written out_first) (written c.args.out.now) (written c.take_piece.new.out) all
          c.in_err-take_piece.ensures.step_part.1.written;
    })

pub returns-clause-all : goal.returns-clause-all
returns-clause-all g c = λ first out_first bytes last had.
    let t = c.args.self.now.table.now in
    let written = g.O.Sink.written in
    let taken : HasTaken (WritesLines written) t c.args.self.now.reader (bytes ++ last) [] out_first c.args.self.now.lines c.args.out.now =
    rw had.0.empty had.0.taken in
    let next = c.in_ok-take_piece.ensures.all (bytes ++ last) [] out_first taken in
    let all = decided_written written t c.args.self.now.reader (bytes ++ last) out_first c.args.out.now had.0.taken in
    on_ok c.finish.result (λ ended. (
      record {
        table = had.0.table;
        taken = taken_flushed written t c.take_piece.new.reader _ c.take_piece.new.taker out_first c.take_piece.new.out c.finish.new.out next ended.0;
        empty = c.finish.ensures.empty;
        in_time =
            let grown = grown_by (written c.args.out.now) (written c.take_piece.new.out) (written c.finish.new.out) _ c.take_piece.new.taker _
            c.take_piece.new.taker c.in_ok-take_piece.ensures.step.1 ended.0 in
            in_time_then t (bytes ++ last) grown.0 (written out_first) (written c.args.out.now) (written c.finish.new.out) all grown.1;
      },
      ended.1 ∙ c.in_ok-take_piece.ensures.no_fault ∙ had.1,
    )) (ok_both _ _ c.finish.result c.finish.ensures.all c.finish.ensures.no_fault)

pub returns-clause-part : goal.returns-clause-part
returns-clause-part g c = λ first out_first bytes last had.
    let t = c.args.self.now.table.now in
    let written = g.O.Sink.written in
    let taken : HasTaken (WritesLines written) t c.args.self.now.reader (bytes ++ last) [] out_first c.args.self.now.lines c.args.out.now =
    rw had.0.empty had.0.taken in
    let next = c.in_ok-take_piece.ensures.all (bytes ++ last) [] out_first taken in
    let all = decided_written written t c.args.self.now.reader (bytes ++ last) out_first c.args.out.now had.0.taken in
    if_err _ c.finish.result (on_err c.finish.result (λ ended. rw (← had.0.table) (record {
      stops = record {
        part = λ more. waiting_front written t c.take_piece.new.reader _ more c.take_piece.new.taker out_first c.take_piece.new.out
            (written c.finish.new.out) ended.0.0 next ended.0.1;
        cause = let before = c.in_ok-take_piece.ensures.no_fault ∙ had.1 in rw before at ended.1;
      };
      in_time =
          let grown = grown_by (written c.args.out.now) (written c.take_piece.new.out) (written c.finish.new.out) _ c.take_piece.new.taker _
          (take ended.0.0 c.take_piece.new.taker) c.in_ok-take_piece.ensures.step.1 ended.0.1 in
          in_time_then t (bytes ++ last) grown.0 (written out_first) (written c.args.out.now) (written c.finish.new.out) all grown.1;
    })) (err_both _ _ c.finish.result c.finish.ensures.part c.finish.ensures.cause))
