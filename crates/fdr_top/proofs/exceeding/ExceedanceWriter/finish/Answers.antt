use Rattle.std.proofs.lemmas.Result.{err_from_is_err_and, on_ok_weaker, on_err_weaker}
use Rattle.fdr_top.proofs.WatchLines.{part_after, written_after}
use Rattle.fdr_top.proofs.exceeding.ExceedanceWriter.finish.Goals as goal

pub returns-in_err-end_stretch-clause-part : goal.returns-in_err-end_stretch-clause-part
returns-in_err-end_stretch-clause-part g c = λ steps had.
    let p = err_from_is_err_and c.from_residual.result c.from_residual.ensures.1 in
    rw p.1 (c.in_err-end_stretch.ensures.part steps had)

pub returns-clause-all : goal.returns-clause-all
returns-clause-all g c = λ steps had.
    let gave = c.in_ok-end_stretch.ensures.all steps had in
    on_ok_weaker c.flush.result (λ wrote. (gave.lines, gave.ended, written_after _ _ _ _ _ _ gave.emits wrote)) c.flush.ensures.all

pub returns-clause-part : goal.returns-clause-part
returns-clause-part g c = λ steps had.
    let gave = c.in_ok-end_stretch.ensures.all steps had in
    on_err_weaker c.flush.result
    (λ wrote. record { lines = gave.lines; ended = gave.ended; emits = part_after _ _ _ _ _ _ wrote.0 gave.emits wrote.1 }) c.flush.ensures.part
