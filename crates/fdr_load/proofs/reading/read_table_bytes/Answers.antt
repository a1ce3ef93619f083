use Rattle.std.proofs.Common.{rules, sym, arith}
use Rattle.fdr_io.proofs.Telling.{preceded_by-nil}
use Rattle.fdr_load.proofs.Pieces.{TakesAtMost-then}
use Rattle.fdr_load.proofs.reading.read_table_bytes.Goals as goal

pub loop-source-init : goal.loop-source-init
loop-source-init g c = rw (c.new-bytes.ensures.items, preceded_by-nil) (search (rules, c.new-bytes.ensures))

pub returns-in-Err-clause-bounded : goal.returns-in-Err-clause-bounded
returns-in-Err-clause-bounded g c =
    TakesAtMost-then 1048576 4096 _ _ _ c.loop-source.bytes.items (omega arith) (sym c.loop-source.invariant.taken) c.in-Err.ensures.bounded
