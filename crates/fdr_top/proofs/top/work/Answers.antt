use Rattle.std.proofs.Common.{ap, inr}
use Rattle.fdr_top.proofs.Carrying.{check_works}
use Rattle.fdr_top.proofs.top.work.Goals as goal

pub returns-in-CheckTable-clause-works : goal.returns-in-CheckTable-clause-works
returns-in-CheckTable-clause-works g c = rw c.in-CheckTable.is (check_works c.in-CheckTable.table _ _ _ _ _ _ _ _
    (c.write_report.ensures.answer c.in-CheckTable.table) c.write_report.ensures.reports c.write_report.ensures.write_fault
    c.write_report.ensures.no_write_fault (λ memory. ap g.O.Sink.written (c.write_report.ensures.no_memory memory)))

pub returns-in-StreamLine-clause-works : goal.returns-in-StreamLine-clause-works
returns-in-StreamLine-clause-works g c = rw c.in-StreamLine.is (c.stream.ensures.works _)

pub returns-in-ListBits-clause-works : goal.returns-in-ListBits-clause-works
returns-in-ListBits-clause-works g c = rw c.in-ListBits.is (c.listbits.ensures.works _)

pub returns-in-FormatImage-clause-works : goal.returns-in-FormatImage-clause-works
returns-in-FormatImage-clause-works g c = rw c.in-FormatImage.is (c.format.ensures.works _ _ _ _)

pub returns-in-RecordLine-clause-works : goal.returns-in-RecordLine-clause-works
returns-in-RecordLine-clause-works g c = rw c.in-RecordLine.is (c.record.ensures.works _ _ _ _)

pub returns-in-ListImage-clause-works : goal.returns-in-ListImage-clause-works
returns-in-ListImage-clause-works g c = rw c.in-ListImage.is (c.list.ensures.works _ _)

pub returns-in-Drill-clause-works : goal.returns-in-Drill-clause-works
returns-in-Drill-clause-works g c = rw c.in-Drill.is (c.drill.ensures.works _ _)

pub returns-in-Salvage-clause-works : goal.returns-in-Salvage-clause-works
returns-in-Salvage-clause-works g c = rw c.in-Salvage.is (c.salvage.ensures.works _ _)

pub returns-in-Salvage-clause-memory : goal.returns-in-Salvage-clause-memory
returns-in-Salvage-clause-memory g c = rw c.in-Salvage.is (λ reads memory. inr (c.salvage.ensures.memory memory))

pub returns-in-ListImage-clause-memory : goal.returns-in-ListImage-clause-memory
returns-in-ListImage-clause-memory g c = rw c.in-ListImage.is (λ reads memory. inr (c.list.ensures.memory memory))

pub returns-in-Drill-clause-memory : goal.returns-in-Drill-clause-memory
returns-in-Drill-clause-memory g c = rw c.in-Drill.is (λ reads memory. inr (c.drill.ensures.memory memory))

pub returns-in-Exceed-clause-works : goal.returns-in-Exceed-clause-works
returns-in-Exceed-clause-works g c = rw c.in-Exceed.is (c.exceed.ensures.works _ _)

pub returns-in-Exceed-clause-memory : goal.returns-in-Exceed-clause-memory
returns-in-Exceed-clause-memory g c = rw c.in-Exceed.is (λ reads memory. inr (c.exceed.ensures.memory memory))

pub returns-in-RecordLine-clause-memory : goal.returns-in-RecordLine-clause-memory
returns-in-RecordLine-clause-memory g c = rw c.in-RecordLine.is (λ reads memory. c.record.ensures.memory memory)
