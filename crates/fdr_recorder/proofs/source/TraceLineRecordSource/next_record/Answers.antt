use Rattle.fdr_recorder.proofs.Supplies.{line_fewer, line_gives}
use Rattle.fdr_recorder.proofs.source.TraceLineRecordSource.next_record.Goals as goal

pub returns-clause-next : goal.returns-clause-next
returns-clause-next g c = λ from bytes records is. line_gives from _ _ _ _ _ bytes records c.next.result is (λ reads. c.next.ensures.next bytes records reads)

pub returns-clause-fewer : goal.returns-clause-fewer
returns-clause-fewer g c = λ from bytes records is. line_fewer from _ _ _ _ _ bytes records c.next.result is (λ reads. c.next.ensures.next bytes records reads)
