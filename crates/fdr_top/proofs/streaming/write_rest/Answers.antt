use Rattle.std.proofs.Common.{refl}
use Rattle.std.proofs.lemmas.Result.{on_err_weaker, on_ok_weaker}
use Rattle.fdr_top.specs.Streaming.{past_of}
use Rattle.fdr_top.proofs.Blocks.{text-rest, part-rest}
use Rattle.fdr_top.proofs.streaming.write_rest.Goals as goal

pub returns-clause-all : goal.returns-clause-all
returns-clause-all g c =
    on_ok_weaker c.write_whole.result
    (λ sent. λ t records before streamed.
    text-rest before _ _ t records c.finish-count.new.out c.finish-count.result (c.finish-count.ensures.rest (past_of t records) streamed.stands refl)
    streamed.written sent)
    c.write_whole.ensures.whole

pub returns-clause-part : goal.returns-clause-part
returns-clause-part g c =
    on_err_weaker c.write_whole.result
    (λ sent. λ t records before streamed.
    part-rest before _ _ t records c.finish-count.new.out c.finish-count.result sent.0 (c.finish-count.ensures.rest (past_of t records) streamed.stands refl)
    streamed.written sent.1)
    c.write_whole.ensures.part
