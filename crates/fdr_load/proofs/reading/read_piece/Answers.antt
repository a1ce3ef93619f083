use Rattle.std.proofs.Common.{◌≤◌, [], sym, arith}
use Rattle.std.proofs.lemmas.Grind.{common_steps}
use Rattle.fdr_io.proofs.Telling.{preceded_by-gives, preceded_by-nil}
use Rattle.fdr_load.proofs.Pieces.{nothing_left, TakesAtMost-read}
use Rattle.fdr_load.proofs.reading.read_piece.Goals as goal

pub returns-in-Ok-extend_from_slice-clause-moved : goal.returns-in-Ok-extend_from_slice-clause-moved
returns-in-Ok-extend_from_slice-clause-moved g c =
    rw (c.in-Ok-extend_from_slice.ensures.items, c.in-Ok.ensures.taken) (sym (preceded_by-gives _ c.read.new.buf _ _ c.in-Ok.ensures.given))

pub returns-in-Ok-extend_from_slice-clause-end : goal.returns-in-Ok-extend_from_slice-clause-end
returns-in-Ok-extend_from_slice-clause-end g c = rw c.in-Ok.ensures.taken (nothing_left _ c.read.new.buf c.in-Ok.n c.in-Ok.ensures.given)

pub returns-in-Ok-extend_from_slice-clause-bounded : goal.returns-in-Ok-extend_from_slice-clause-bounded
returns-in-Ok-extend_from_slice-clause-bounded g c = rw c.in-Ok.ensures.taken
    (TakesAtMost-read 4096 _ c.read.new.buf c.in-Ok.n (grind (arith, common_steps, c.in-Ok.ensures.bound, c.read.auto.buf)) c.in-Ok.ensures.given)

pub returns-in-Err-extend_from_slice-clause-bounded : goal.returns-in-Err-extend_from_slice-clause-bounded
returns-in-Err-extend_from_slice-clause-bounded g c = rw c.in-Ok.ensures.taken
    (TakesAtMost-read 4096 _ c.read.new.buf c.in-Ok.n (grind (arith, common_steps, c.in-Ok.ensures.bound, c.read.auto.buf)) c.in-Ok.ensures.given)

pub returns-in-Err-clause-bounded : goal.returns-in-Err-clause-bounded
returns-in-Err-clause-bounded g c = rw c.in-Err.ensures.kept ([], omega arith, sym (preceded_by-nil _))
